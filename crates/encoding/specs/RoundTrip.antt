-- The claims on the layouts: what is written reads back, and only what is written is read. They hold for any list of
-- numbers, bytes or not.
use Rattle.std.specs.Prelude.{◌≡◌, true, List, ℕ, ◌^◌, ◌<◌, length}
use Rattle.place.specs.Locating.{at}
use Rattle.encoding.specs.Types.{Unit, State, Record, Time, Place}
use Rattle.encoding.specs.UnitBytes.{unit_bytes, encodes_unit, unit_in}
use Rattle.encoding.specs.StateBytes.{state_bytes, encodes_state, state_in}
use Rattle.encoding.specs.JournalBytes.{record_count, records_in, with_records}
use Rattle.encoding.specs.TimeBytes.{time_length, time_bytes, seconds_in, rest_in}
use Rattle.encoding.specs.PlaceBytes.{place_length, place_bytes, place_in, nearest_in}

-- a state whose lists have the lengths that its declared type gives them
pub record Shaped (s : State) : Type 0 where
  pub eight : length s.tracks ≡ 8
  pub six : length s.fleet ≡ 6
  pub seven : length s.possessions ≡ 7

pub record BytesReadBack : Type 0 where
  -- the bytes of a unit encode that unit, and bytes that encode one are its bytes
  pub unit_encoded : (u : Unit) → encodes_unit (unit_bytes u) ≡ true
  pub unit_back : (u : Unit) → unit_in (unit_bytes u) ≡ u
  pub unit_only : (b : List ℕ) → encodes_unit b ≡ true → unit_bytes (unit_in b) ≡ b
  -- the same of a state
  pub state_encoded : (s : State) → Shaped s → encodes_state (state_bytes s) ≡ true
  pub state_back : (s : State) → Shaped s → state_in (state_bytes s) ≡ s
  pub state_only : (b : List ℕ) → encodes_state b ≡ true → state_bytes (state_in b) ≡ b
  -- the records of a buffer, with the bytes past them, are the buffer
  pub journal_only : (b : List ℕ) → with_records b (records_in b) ≡ b
  -- and records that are as many read back from it
  pub journal_back : (b : List ℕ) (j : List Record) → length j ≡ record_count (length b)
      → records_in (with_records b j) ≡ j
  -- a time whose numbers 32 bits hold is eight bytes, which say both
  pub time_length_lem : (t : Time) → length (time_bytes t) ≡ time_length
  pub time_back : (t : Time) → t.seconds < 2 ^ 32 → t.rest < 2 ^ 32
      → (seconds_in (time_bytes t) ≡ t.seconds) × (rest_in (time_bytes t) ≡ t.rest)
  -- a place is three bytes, which say it, and at a post that this is the nearest
  pub place_length_lem : (a : Place) → length (place_bytes a) ≡ place_length
  pub place_back : (a : Place) → place_in (place_bytes a) ≡ a
  pub own_nearest : (p : ℕ) → nearest_in (place_bytes (at p)) ≡ p
