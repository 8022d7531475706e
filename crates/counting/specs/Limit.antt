-- 02, card 7: "A state whose journal count is above 229 becomes strange, refusal 1.", on X.
use Rattle.std.specs.Prelude.{◌≡◌, false, List, [], ◌∷◌, ◌++◌, map, ℕ, ◌-◌, replicate}
use Rattle.common.specs.Tabulate.{values_from, tabulate}
use Rattle.line.specs.Book.{route}
use Rattle.frame.specs.Frame.{bytes_of}
use Rattle.journal.specs.Journal.{journal_length, record_of, record_on}
use Rattle.rules.specs.declared.state.Status.TheVariants.{Running}
use Rattle.rules.specs.State.{no_train, with_status}
use Rattle.rules.specs.Opening.{fresh}
use Rattle.assurance.specs.Types.{Record, State, Sent, RefusedBy}
use Rattle.assurance.specs.Run.{Input, Ran}
use Rattle.examples.specs.Reading.{fa, fe, afe, am, la, le, lb, opened_blank, ran_with, verdicts_of, replies_in}
use Rattle.examples.specs.Examples.{book_x}
use Rattle.cases.specs.Further.{lent_byte, lent_record, lending, frame_with, counted_on_x}

-- a journal of so many records, no two alike
abbrev pub lent_records : ℕ → List Record
lent_records n = tabulate n lent_record

-- the box of X in the state s, with the line's table, a journal, and out buffers of 50 bytes
abbrev pub ran_on_x : State → List Record → List (List ℕ) → Ran
ran_on_x s journal frames = ran_with s (opened_blank book_x).table journal (map lending frames)

-- a box without any store: no byte of a table, no record, no byte of an out buffer
abbrev pub without_stores : List ℕ → Input
without_stores frame = record { frame = frame; out = [] }

abbrev pub ran_without_stores : State → List (List ℕ) → Ran
ran_without_stores s frames = ran_with s [] [] (map without_stores frames)

-- ---- the last frame that is answered

-- train 0 asks at 229
abbrev pub last_answered : Ran
last_answered = ran_on_x (counted_on_x 229) (lent_records journal_length) (bytes_of (fa 0 0 1) ∷ [])

-- the state that it is to leave: train 0 on its way to track 1 of post 1, train 1 at its start, and 231 records
abbrev pub left_at231 : State
left_at231 = record {
  posts = 3;
  tracks = 1 ∷ 2 ∷ 1 ∷ replicate 5 0;
  sidings = 0;
  trains = 2;
  fleet = with_status (fresh (route 0 2) 1) (Running (record { 0 = 1 })) ∷ fresh (route 2 0) 1 ∷ replicate 4 no_train;
  possessions = replicate 7 false;
  given = 0;
  logged = 231;
}

-- and the journal: the FA's record at place 229, the FE's with its track at 230, and the others as they were lent
abbrev pub journal_at231 : List Record
journal_at231 = lent_records 229 ++ (record_of (fa 0 0 1) ∷ record_on 1 (fe 0 0 1) ∷ [])
    ++ values_from 231 5 lent_record

-- what comes then: the FA again, a gang's request, the other train's, and a torn frame
abbrev pub what_comes_then : List (List ℕ)
what_comes_then = map bytes_of (fa 0 0 1 ∷ la 1 2 ∷ fa 1 2 1 ∷ []) ++ ((0 ∷ 5 ∷ 1 ∷ []) ∷ [])

abbrev pub after_the_last : Ran
after_the_last = ran_on_x last_answered.state last_answered.journal what_comes_then

pub record LastAnswered : Type 0 where
  -- "above 229": 229 is not, and the train gets its FE
  pub replies : replies_in last_answered ≡ (fe 0 0 1 ∷ []) ∷ []
  pub journal : last_answered.journal ≡ journal_at231
  pub state : last_answered.state ≡ left_at231
  -- "becomes strange, refusal 1": 231 is above, and each frame is refused and changes nothing
  pub strange : verdicts_of after_the_last ≡ replicate 4 (RefusedBy 1)
  pub state_left : after_the_last.state ≡ left_at231
  pub journal_left : after_the_last.journal ≡ journal_at231
  pub out_left : map (λ e. e.out) after_the_last.exchanges ≡ replicate 4 (tabulate 50 lent_byte)
  -- right after the opening, where only the count is another, the same frames are answered, and the torn one is 3
  pub otherwise : verdicts_of
      (ran_on_x (counted_on_x 0) (lent_records journal_length) (bytes_of (fa 0 0 1) ∷ what_comes_then))
      ≡ Sent 1 ∷ Sent 1 ∷ Sent 1 ∷ Sent 1 ∷ RefusedBy 3 ∷ []

-- ---- above 229

-- the first that is strange, that of the whole journal, and the largest of a byte
abbrev pub strange_counts : List ℕ
strange_counts = 230 ∷ 236 ∷ 255 ∷ []

-- a frame of each kind, of one that is none, of another version, a torn one and none at all
abbrev pub frames_of_all_sorts : List (List ℕ)
frames_of_all_sorts =
    map bytes_of (fa 0 0 1 ∷ fe 0 0 1 ∷ afe 0 0 1 ∷ am 0 0 1 ∷ la 0 1 ∷ le 0 1 ∷ lb 0 1 ∷ [])
    ++ (frame_with 5 1 8 0 0 1 ∷ frame_with 5 2 1 0 0 1 ∷ (0 ∷ 5 ∷ 1 ∷ []) ∷ [] ∷ [])

pub record StrangeCounts : Type 0 where
  -- "becomes strange, refusal 1", for any frame
  pub frames : map (λ n. verdicts_of (ran_on_x (counted_on_x n) (lent_records journal_length) frames_of_all_sorts))
      strange_counts
      ≡ replicate 3 (replicate 11 (RefusedBy 1))
  -- 1 comes before 2, and 2 before all else where the count is 229
  pub stores : map (λ n. verdicts_of (ran_without_stores (counted_on_x n) frames_of_all_sorts)) strange_counts
      ≡ replicate 3 (replicate 11 (RefusedBy 1))
  pub short : verdicts_of (ran_without_stores (counted_on_x 229) frames_of_all_sorts) ≡ replicate 11 (RefusedBy 2)
  -- 235 records are too few for 229 and the seven that one frame may add: 2
  pub short_journal : verdicts_of
      (ran_on_x (counted_on_x 229) (lent_records (journal_length - 1)) (bytes_of (fa 0 0 1) ∷ []))
      ≡ RefusedBy 2 ∷ []
