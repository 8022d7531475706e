-- 01, "The journal": "The journal is a lent run of records, at least 176: kind, train, from, to. An accepted frame is
-- logged, then each answer in order of sending. Records past the count are untouched." 02, card 2: "The FE record gains
-- the track number at the post run to, from 1; other records have 0 there." Card 4: "The journal grows to 236 records".
use Rattle.std.specs.Prelude.{◌≡◌, ◌≢◌, Bool, cond, ◌&&◌, List, ◌++◌, ℕ, ◌+◌, ◌≤◌, ◌<◌, leb, ltb, length, get_or, set}
use Rattle.std.specs.Prelude.{take, drop, replicate}
use Rattle.line.specs.Line.{tracks_at}
use Rattle.frame.specs.Frame.{FA, FE, AFE, AM, LA, LE, LB, frame_bytes, bytes_of}
use Rattle.frame.specs.RoundTrip.{IsMessage}
use Rattle.journal.specs.Types.{Line, Move, Message, Fa, Fe, Afe, Am, La, Le, Lb, Refused, Record, Batch}

-- 02, card 4: "236 records"
abbrev pub journal_length : ℕ
journal_length = 236

-- ---- records

-- what is read past the end, and what stands for no message
abbrev pub blank : Record
blank = record {
  kind = 0;
  train = record { 0 = 0 };
  from = record { 0 = 0 };
  to = record { 0 = 0 };
  track = record { 0 = 0 };
}

-- "kind, train, from, to", and no track
abbrev pub record_with : ℕ → Move → Record
record_with k m = record { kind = k; train = m.train; from = m.from; to = m.to; track = record { 0 = 0 } }

-- the record by which a message is logged, with the kind of its frame
unfoldable pub record_of : Message → Record
record_of (Fa m) = record_with FA m
record_of (Fe m) = record_with FE m
record_of (Afe m) = record_with AFE m
record_of (Am m) = record_with AM m
record_of (La m) = record_with LA m
record_of (Le m) = record_with LE m
record_of (Lb m) = record_with LB m
record_of (Refused n) = blank

-- the same record, but for its track k
abbrev pub on_track : ℕ → Record → Record
on_track k r = record { kind = r.kind; train = r.train; from = r.from; to = r.to; track = record { 0 = k } }

-- "The FE record gains the track number": the record by which the message is logged whose train gets track k
abbrev pub record_on : ℕ → Message → Record
record_on k m = on_track k (record_of m)

-- the record but for its track: what a frame says of it
abbrev pub without_track : Record → Record
without_track r = on_track 0 r

-- "The FE record gains the track number at the post run to, from 1; other records have 0 there."
pub record Tracked (l : Line) (r : Record) : Type 0 where
  pub given : r.kind ≡ FE → (1 ≤ r.track.0) × (r.track.0 ≤ tracks_at l r.to.0)
  pub other : r.kind ≢ FE → r.track.0 ≡ 0

-- the seven bytes of the frame that a record was made of; no frame has a track
abbrev pub frame_of : Record → List ℕ
frame_of r = frame_bytes r.kind (record { train = r.train; from = r.from; to = r.to })

-- the claim on records: a message is logged with the kind, train, from and to of its frame
abbrev pub LoggedAsSent : Type 0
LoggedAsSent = (m : Message) → IsMessage m → bytes_of m ≡ frame_of (record_of m)

-- the record of number i
abbrev pub record_at : List Record → ℕ → Record
record_at j i = get_or j i blank

-- ---- batches

-- "At most 6 frames go out"
abbrev pub most_sent : ℕ
most_sent = 6

-- the most records that one frame adds: its own and those of its answers
abbrev pub batch_length : ℕ
batch_length = 1 + most_sent

-- the records of a batch, in order
abbrev pub records : Batch → List Record
records b = take b.n b.items

abbrev pub empty_batch : Batch
empty_batch = record { items = replicate batch_length blank; n = 0 }

-- b with one record more; a full batch stays as it is
unfoldable pub with_record : Batch → Record → Batch
with_record b r = cond (ltb b.n batch_length) (record { items = set b.items b.n r; n = b.n + 1 }) b

-- ---- writing

-- n records are a batch's, and fit from place `at` on in a journal of `len` records
abbrev pub fit : ℕ → ℕ → ℕ → Bool
fit len at n = leb n batch_length && leb (at + n) len

-- how many of them are written: all or none
unfoldable pub fitting : ℕ → ℕ → ℕ → ℕ
fitting len at n = cond (fit len at n) n 0

-- the journal j with the records of b from place `at` on; j itself where they do not fit
unfoldable pub appended : List Record → ℕ → Batch → List Record
appended j at b = cond (fit (length j) at b.n) (take at j ++ records b ++ drop (at + b.n) j) j

-- the claim on writing: each record of the batch stands in its place, and "records past the count are untouched", as
-- are those before it
pub record OnlyAppended : Type 0 where
  pub below : (j : List Record) (at : ℕ) (b : Batch) → length b.items ≡ batch_length
      → (i : ℕ) → i < at → record_at (appended j at b) i ≡ record_at j i
  pub above : (j : List Record) (at : ℕ) (b : Batch) → length b.items ≡ batch_length
      → (i : ℕ) → at + b.n ≤ i → record_at (appended j at b) i ≡ record_at j i
  pub new : (j : List Record) (at : ℕ) (b : Batch) → length b.items ≡ batch_length
      → b.n ≤ batch_length → at + b.n ≤ length j
      → (k : ℕ) → k < b.n → record_at (appended j at b) (at + k) ≡ record_at b.items k
