-- What the code answers, and the sets of tracks that it goes by: track k is in a set where the bit of value 2 ^ k is.
use Rattle.std.specs.Prelude.{cond, ℕ, ◌^◌, ◌≤◌, ltb, Option, None, Some}
use Rattle.std.specs.Int.Bits.{bit_or}
use Rattle.line.specs.declared.sorts.TrackNo.{TrackNo}

-- "Where an answer is an enum, a definition gives this paper's number and values for each of the enum's cases. The
-- promises use that definition."
abbrev pub track_number : Option TrackNo → ℕ
track_number (Some k) = k.0
track_number None = 0

-- a track that is named is one from 1 on: 0 is told as `None`
abbrev pub NamesTrack : Option TrackNo → Type 0
NamesTrack (Some k) = 1 ≤ k.0
NamesTrack None = Unit {0}

-- the set with track k in it; a set of eight bits has no place for a number from 8 on
unfoldable pub with_track : ℕ → ℕ → ℕ
with_track set k = cond (ltb k 8) (bit_or set (2 ^ k)) set
