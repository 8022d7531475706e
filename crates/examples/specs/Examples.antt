-- 01, "Examples to prove together (A to L), and a run".
use Rattle.std.specs.Prelude.{◌≡◌, List, [], ◌∷◌, map, ℕ}
use Rattle.line.specs.Holding.{post_holders, section_holders}
use Rattle.frame.specs.Frame.{bytes_of}
use Rattle.journal.specs.Journal.{record_of, record_on}
use Rattle.rules.specs.State.{located}
use Rattle.assurance.specs.Types.{Message, Sent, RefusedBy}
use Rattle.examples.specs.Reading.{fa, fe, afe, am, opened_blank, refusal_of, ran, verdicts_of, replies_in}
use Rattle.examples.specs.Reading.{logged_records}

-- "Book X: 00 0A 01 03 01 02 01 02 00 02 02 00.": its length, posts, track counts, number of trains and train 1's start
-- may be others
abbrev pub like_x : ℕ → ℕ → ℕ → ℕ → ℕ → ℕ → ℕ → List ℕ
like_x size posts a b c trains start = 0 ∷ size ∷ 1 ∷ posts ∷ a ∷ b ∷ c ∷ trains ∷ 0 ∷ 2 ∷ start ∷ 0 ∷ []

abbrev pub book_x : List ℕ
book_x = like_x 10 3 1 2 1 2 2

-- "Book Y: 00 0C 01 03 02 01 02 03 00 02 00 02 02 00."
abbrev pub book_y : List ℕ
book_y = 0 ∷ 12 ∷ 1 ∷ 3 ∷ 2 ∷ 1 ∷ 2 ∷ 3 ∷ 0 ∷ 2 ∷ 0 ∷ 2 ∷ 2 ∷ 0 ∷ []

pub record Examples : Type 0 where
  -- "A. X opens."
  pub a : refusal_of book_x ≡ 0
  -- "B. X with tracks 1, 1, 1: 20."
  pub b : refusal_of (like_x 10 3 1 1 1 2 2) ≡ 20
  -- "C. X with length 0B: 14."
  pub c : refusal_of (like_x 11 3 1 2 1 2 2) ≡ 14
  -- "D. P 1 or 9: 15."
  pub d : (refusal_of (like_x 10 1 1 2 1 2 2) ≡ 15) × (refusal_of (like_x 10 9 1 2 1 2 2) ≡ 15)
  -- "E. X with first track count 0 or 5: 16; with 4 it opens."
  pub e : (refusal_of (like_x 10 3 0 2 1 2 2) ≡ 16) × (refusal_of (like_x 10 3 5 2 1 2 2) ≡ 16)
      × (refusal_of (like_x 10 3 4 2 1 2 2) ≡ 0)
  -- "F. T 0: 17."
  pub f : refusal_of (like_x 10 3 1 2 1 0 2) ≡ 17
  -- "G. X with train 1 starting at post 0: 19."
  pub g : refusal_of (like_x 10 3 1 2 1 2 0) ≡ 19
  -- "H. Y, FA of train 2, 2 to 1: AFE, though section and track are free."
  pub h : let s = (opened_blank book_y).state in
      (replies_in (ran book_y (bytes_of (fa 2 2 1) ∷ [])) ≡ (afe 2 2 1 ∷ []) ∷ [])
      × (section_holders s.trains (located s) 1 ≡ 0) × (post_holders s.trains (located s) 1 ≡ 0)
  -- "I. Y, FA of train 0, 0 to 1: FE."
  pub i : replies_in (ran book_y (bytes_of (fa 0 0 1) ∷ [])) ≡ (fe 0 0 1 ∷ []) ∷ []
  -- "J. 00 05 01 02 00 00 01 at the dispatcher: 6."
  pub j : verdicts_of (ran book_x ((0 ∷ 5 ∷ 1 ∷ 2 ∷ 0 ∷ 0 ∷ 1 ∷ []) ∷ [])) ≡ RefusedBy 6 ∷ []
  -- "K. X, two FA of train 0: FE, then 11."; 02, card 6: "Refusals 10 and 11 go, and K now shows FE twice."
  pub k : let r = ran book_x (map bytes_of (fa 0 0 1 ∷ fa 0 0 1 ∷ [])) in
      (verdicts_of r ≡ Sent 1 ∷ Sent 1 ∷ []) × (replies_in r ≡ (fe 0 0 1 ∷ []) ∷ (fe 0 0 1 ∷ []) ∷ [])
  -- "L. X, AM of train 0 first: 12."
  pub l : verdicts_of (ran book_x (bytes_of (am 0 0 1) ∷ [])) ≡ RefusedBy 12 ∷ []

-- "Book X, then FA 0 0 1, FA 1 2 1, AM 0 0 1, FA 0 1 2, AM 1 2 1, FA 1 1 0, AM 0 1 2, AM 1 1 0"
abbrev pub sent_in_the_run : List Message
sent_in_the_run = fa 0 0 1 ∷ fa 1 2 1 ∷ am 0 0 1 ∷ fa 0 1 2 ∷ am 1 2 1 ∷ fa 1 1 0 ∷ am 0 1 2 ∷ am 1 1 0 ∷ []

-- its 13 records; an FE's has the track at the post run to
abbrev pub PrintedRun : Type 0
PrintedRun = logged_records (ran book_x (map bytes_of sent_in_the_run))
    ≡ record_of (fa 0 0 1) ∷ record_on 1 (fe 0 0 1) ∷ record_of (fa 1 2 1) ∷ record_on 2 (fe 1 2 1)
    ∷ record_of (am 0 0 1)
    ∷ record_of (fa 0 1 2) ∷ record_of (afe 0 1 2) ∷ record_of (am 1 2 1) ∷ record_on 1 (fe 0 1 2)
    ∷ record_of (fa 1 1 0)
    ∷ record_on 1 (fe 1 1 0) ∷ record_of (am 0 1 2) ∷ record_of (am 1 1 0) ∷ []
