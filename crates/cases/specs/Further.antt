-- Further examples: what the paper's own do not show.
use Rattle.std.specs.Prelude.{◌≡◌, List, [], ◌∷◌, ◌++◌, map, ℕ, ◌+◌, ◌-◌, replicate}
use Rattle.common.specs.Tabulate.{values_from, tabulate}
use Rattle.frame.specs.Frame.{bytes_of}
use Rattle.journal.specs.Journal.{journal_length, blank, record_of, record_on}
use Rattle.completion.specs.Table.{table_length}
use Rattle.rules.specs.Answer.{out_length, answer}
use Rattle.rules.specs.State.{counting}
use Rattle.rules.specs.Opening.{empty_state}
use Rattle.assurance.specs.Types.{Record, State, Verdict, Sent, RefusedBy}
use Rattle.assurance.specs.Run.{Input, Ran}
use Rattle.assurance.specs.Observer.{Seen, nothing}
use Rattle.examples.specs.Reading.{fa, fe, afe, am, refusal_of, opened_blank, ran_with, ran_from, ran, verdicts_of}
use Rattle.examples.specs.Reading.{replies_in, seen_in}
use Rattle.examples.specs.Examples.{book_x, book_y, sent_in_the_run}

-- ---- an altered table

-- four posts with two tracks each; trains 0 to 1 and 3 to 2
abbrev pub book_z : List ℕ
book_z = 0 ∷ 11 ∷ 1 ∷ 4 ∷ 2 ∷ 2 ∷ 2 ∷ 2 ∷ 2 ∷ 0 ∷ 1 ∷ 3 ∷ 2 ∷ []

-- only the bits of the codes 8 and 9 are set: train 1 may move on, and then train 0
abbrev pub altered : List ℕ
altered = 0 ∷ 3 ∷ replicate (table_length - 2) 0

-- "under an altered table one grant can set the bit that an older asker lacked"
abbrev pub OlderThen : Type 0
OlderThen = replies_in (ran_from (opened_blank book_z).state altered (map bytes_of (fa 0 0 1 ∷ fa 1 3 2 ∷ [])))
    ≡ (afe 0 0 1 ∷ []) ∷ (fe 1 3 2 ∷ fe 0 0 1 ∷ []) ∷ []

-- ---- stores that are not blank

-- a byte and a record for each place, no two alike, so that one that is moved or cleared shows
abbrev pub lent_byte : ℕ → ℕ
lent_byte i = 100 + i

abbrev pub lent_record : ℕ → Record
lent_record i = record_of (am i i i)

-- a frame with an out buffer of 50 bytes
abbrev pub lending : List ℕ → Input
lending frame = record { frame = frame; out = tabulate 50 lent_byte }

-- book Z, a table without a bit and a journal of 238 records: train 0 asks
abbrev pub without_bits : Ran
without_bits =
    ran_with (opened_blank book_z).state (replicate table_length 0) (tabulate 238 lent_record)
    (lending (bytes_of (fa 0 0 1)) ∷ [])

-- then a table with the bit of code 1 alone, by which train 0 may move on: train 1 asks, and reports an arrival
abbrev pub with_bit1 : Ran
with_bit1 =
    let r = without_bits in
    ran_with r.state (2 ∷ replicate (table_length - 1) 0) r.journal
    (map lending (map bytes_of (fa 1 3 2 ∷ am 1 3 2 ∷ [])))

pub record Stores : Type 0 where
  pub verdicts : verdicts_of with_bit1 ≡ Sent 2 ∷ RefusedBy 12 ∷ []
  -- train 0's FE, then the asker's AFE, then the bytes that were there; a refused frame writes nothing
  pub out : map (λ e. e.out) with_bit1.exchanges
      ≡ (bytes_of (fe 0 0 1) ++ bytes_of (afe 1 3 2) ++ values_from 14 36 lent_byte) ∷ tabulate 50 lent_byte ∷ []
  -- the five records, then those that were there
  pub journal : with_bit1.journal
      ≡ (record_of (fa 0 0 1) ∷ record_of (afe 0 0 1) ∷ record_of (fa 1 3 2) ∷ record_on 1 (fe 0 0 1)
      ∷ record_of (afe 1 3 2) ∷ [])
      ++ values_from 5 233 lent_record

-- ---- a full post, a parked train, six trains

-- book Y: while train 0 stands on the only track of post 1, train 1 waits, though the section is free
abbrev pub FullPost : Type 0
FullPost = replies_in (ran book_y (map bytes_of (fa 0 0 1 ∷ fa 1 0 1 ∷ am 0 0 1 ∷ [])))
    ≡ (fe 0 0 1 ∷ []) ∷ (afe 1 0 1 ∷ []) ∷ [] ∷ []

-- train 1 is parked at post 1, which has so many tracks
abbrev pub parked_at : ℕ → List ℕ
parked_at tracks = 0 ∷ 10 ∷ 1 ∷ 3 ∷ 1 ∷ tracks ∷ 1 ∷ 2 ∷ 0 ∷ 2 ∷ 1 ∷ 1 ∷ []

pub record Parked : Type 0 where
  -- it holds a track: train 0 passes it on another, or not at all
  pub passed : replies_in (ran (parked_at 2) (map bytes_of (fa 0 0 1 ∷ am 0 0 1 ∷ fa 0 1 2 ∷ [])))
      ≡ (fe 0 0 1 ∷ []) ∷ [] ∷ (fe 0 1 2 ∷ []) ∷ []
  pub blocks : refusal_of (parked_at 1) ≡ 20
  -- it has no next post
  pub stays : verdicts_of (ran (parked_at 2) (map bytes_of (fa 1 1 1 ∷ am 1 1 0 ∷ []))) ≡ RefusedBy 8 ∷ RefusedBy 8 ∷ []

-- three posts with four tracks each; three trains from 0 to 2 and three from 2 to 0
abbrev pub book_of_six : List ℕ
book_of_six = 0 ∷ 18 ∷ 1 ∷ 3 ∷ 4 ∷ 4 ∷ 4 ∷ 6 ∷ 0 ∷ 2 ∷ 0 ∷ 2 ∷ 0 ∷ 2 ∷ 2 ∷ 0 ∷ 2 ∷ 0 ∷ 2 ∷ 0 ∷ []

-- train 2 asked before train 1, so that it is granted first
abbrev pub SixTrains : Type 0
SixTrains = replies_in (ran book_of_six (map bytes_of
    (fa 0 0 1 ∷ fa 2 0 1 ∷ fa 1 0 1 ∷ fa 5 2 1 ∷ fa 3 2 1 ∷ fa 4 2 1 ∷ am 0 0 1 ∷ am 2 0 1 ∷ [])))
    ≡ (fe 0 0 1 ∷ []) ∷ (afe 2 0 1 ∷ []) ∷ (afe 1 0 1 ∷ []) ∷ (fe 5 2 1 ∷ []) ∷ (afe 3 2 1 ∷ []) ∷ (afe 4 2 1 ∷ [])
    ∷ (fe 2 0 1 ∷ []) ∷ (fe 1 0 1 ∷ []) ∷ []

-- ---- after the printed run the observer has both trains at their ends, with nothing

abbrev pub BothHome : Type 0
BothHome = let r = ran book_x (map bytes_of sent_in_the_run) in
    let home : ℕ → Seen = λ p. record { post = p; claim = nothing } in
    (seen_in book_x r 0 ≡ home 2) × (seen_in book_x r 1 ≡ home 0)

-- ---- which number comes first

-- seven bytes, or another number of them, with the length field's low byte, the version and the kind as given
abbrev pub frame_with : ℕ → ℕ → ℕ → ℕ → ℕ → ℕ → List ℕ
frame_with size version kind t p q = 0 ∷ size ∷ version ∷ kind ∷ t ∷ p ∷ q ∷ []

-- book X, opened, with a made-up journal count
abbrev pub counted_on_x : ℕ → State
counted_on_x n = counting (opened_blank book_x).state n

abbrev pub ran_with_records : ℕ → List (List ℕ) → Ran
ran_with_records n frames = ran_from (counted_on_x n) (opened_blank book_x).table frames

-- the verdict on a frame of a torn length, by the lengths of table, journal and out buffer
abbrev pub short_stores : State → ℕ → ℕ → ℕ → Verdict
short_stores s a b c = (answer s (replicate a 0) (replicate b blank) (0 ∷ []) (replicate c 0)).verdict

pub record Precedence : Type 0 where
  -- right after the opening of X: 3 before 4 before 5 before 6 before 7; 9 before 12; 9 for either post
  pub fresh : verdicts_of (ran book_x
      (frame_with 6 2 9 9 9 9 ∷ frame_with 5 2 9 9 9 9 ∷ frame_with 5 1 9 9 9 9 ∷ frame_with 5 1 0 0 0 1
      ∷ frame_with 5 1 2 9 9 9 ∷ frame_with 5 1 3 0 0 1 ∷ frame_with 5 1 1 2 0 1 ∷ frame_with 5 1 4 255 0 1
      ∷ frame_with 5 1 1 0 1 2 ∷ frame_with 5 1 4 0 1 2 ∷ frame_with 5 1 1 0 0 2 ∷ frame_with 5 1 4 0 0 1
      ∷ (0 ∷ 5 ∷ 1 ∷ 1 ∷ 0 ∷ 0 ∷ []) ∷ [] ∷ []))
      ≡ RefusedBy 3 ∷ RefusedBy 4 ∷ RefusedBy 5 ∷ RefusedBy 5
      ∷ RefusedBy 6 ∷ RefusedBy 6 ∷ RefusedBy 7 ∷ RefusedBy 7
      ∷ RefusedBy 9 ∷ RefusedBy 9 ∷ RefusedBy 9 ∷ RefusedBy 12
      ∷ RefusedBy 3 ∷ RefusedBy 3 ∷ []
  -- 02, card 6: "Refusals 10 and 11 go". Of a Running train, 9 before its FE again; of an Asked one, 9 before its AFE
  -- again, and 12; at the end, 8 before 9 and 12, but for its last finished move
  pub later : verdicts_of (ran book_x (map bytes_of
      (fa 0 0 1 ∷ fa 0 1 2 ∷ fa 0 0 1 ∷ fa 1 2 1 ∷ am 0 0 1 ∷ fa 0 1 2 ∷ fa 0 0 1 ∷ fa 0 1 2 ∷ am 0 1 2
      ∷ am 1 2 1 ∷ am 0 1 2 ∷ fa 0 2 2 ∷ am 0 1 2 ∷ am 0 0 0 ∷ [])))
      ≡ Sent 1 ∷ RefusedBy 9 ∷ Sent 1 ∷ Sent 1 ∷ Sent 0 ∷ Sent 1 ∷ RefusedBy 9 ∷ Sent 1 ∷ RefusedBy 12
      ∷ Sent 1 ∷ Sent 0 ∷ RefusedBy 8 ∷ Sent 0 ∷ RefusedBy 8 ∷ []
  -- 02, card 7: "A state whose journal count is above 229 becomes strange, refusal 1.": at 229 a request is answered,
  -- and 3 and 12 come as at any other count; at 230 all three are 1
  pub in_range_lem : verdicts_of (ran_with_records 229 ([] ∷ map bytes_of (am 0 0 1 ∷ fa 0 0 1 ∷ [])))
      ≡ RefusedBy 3 ∷ RefusedBy 12 ∷ Sent 1 ∷ []
  pub above : verdicts_of (ran_with_records 230 ([] ∷ map bytes_of (am 0 0 1 ∷ fa 0 0 1 ∷ [])))
      ≡ replicate 3 (RefusedBy 1)
  -- 1 before 2, and 2 before 3, for each of the stores
  pub strange : short_stores empty_state 0 0 0 ≡ RefusedBy 1
  pub table : short_stores (opened_blank book_x).state (table_length - 1) journal_length out_length ≡ RefusedBy 2
  pub journal : short_stores (opened_blank book_x).state table_length (journal_length - 1) out_length ≡ RefusedBy 2
  pub out : short_stores (opened_blank book_x).state table_length journal_length (out_length - 1) ≡ RefusedBy 2
  pub torn : short_stores (opened_blank book_x).state table_length journal_length out_length ≡ RefusedBy 3
