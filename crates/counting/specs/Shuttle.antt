-- 02, card 7: "Each move logs at most four records, .. and local runs add at most 60." On a line of two posts with one
-- train both are reached.
use Rattle.std.specs.Prelude.{◌≡◌, List, [], ◌∷◌, ◌++◌, map, ℕ, zero, suc, ◌+◌, ◌*◌}
use Rattle.frame.specs.Frame.{bytes_of}
use Rattle.journal.specs.Journal.{record_of, record_on}
use Rattle.assurance.specs.Types.{Message, Record, Sent, RefusedBy}
use Rattle.assurance.specs.Run.{Ran}
use Rattle.examples.specs.Reading.{fa, fe, afe, am, la, le, lb, opened_blank, ran_from, ran, verdicts_of, replies_in}
use Rattle.examples.specs.Reading.{logged_records}
use Rattle.examples.specs.Books.{book_of}
use Rattle.possessions.specs.Gangs.{local_runs}

-- two posts of one track, and one train from 0 to 1: one move
abbrev pub book_shuttle : List ℕ
book_shuttle = book_of 7 1 2 (1 ∷ 1 ∷ []) 1 (0 ∷ 1 ∷ [])

-- the train asks while a gang has its section, goes when that is given back, and arrives
abbrev pub move_in_four : List Message
move_in_four = la 0 1 ∷ fa 0 0 1 ∷ lb 0 1 ∷ am 0 0 1 ∷ []

-- then nineteen local runs more
abbrev pub fullest_run : Ran
fullest_run = ran book_shuttle (map bytes_of (move_in_four ++ local_runs 19))

-- the records of so many local runs
unfoldable pub local_records : ℕ → List Record
local_records zero = []
local_records (suc n) = record_of (la 0 1) ∷ record_of (le 0 1) ∷ record_of (lb 0 1) ∷ local_records n

-- then one frame of each kind that is for the box
abbrev pub after_the_fullest : Ran
after_the_fullest =
    ran_from fullest_run.state (opened_blank book_shuttle).table
    (map bytes_of (la 0 1 ∷ lb 0 1 ∷ fa 0 0 1 ∷ am 0 0 1 ∷ []))

pub record FullestRun : Type 0 where
  pub replies : replies_in (ran book_shuttle (map bytes_of move_in_four))
      ≡ (le 0 1 ∷ []) ∷ (afe 0 0 1 ∷ []) ∷ (fe 0 0 1 ∷ []) ∷ [] ∷ []
  -- "Each move logs at most four records": FA, AFE, FE and AM, and among them the LA, LE and LB of a local run; then
  -- those of the nineteen
  pub records : logged_records fullest_run
      ≡ (record_of (la 0 1) ∷ record_of (le 0 1) ∷ record_of (fa 0 0 1) ∷ record_of (afe 0 0 1) ∷ record_of (lb 0 1)
      ∷ record_on 1 (fe 0 0 1) ∷ record_of (am 0 0 1) ∷ [])
      ++ local_records 19
  -- "local runs add at most 60": three for each of twenty. With the four for the one move they are 64, all that card 7
  -- allows on this line, and far below 229.
  pub count : fullest_run.state.logged ≡ 4 * 1 + 3 * 20
  -- 26 for the next LA, 25 for an LB, 8 for the train; its AM again is taken. None of them is logged.
  pub ended : verdicts_of after_the_fullest ≡ RefusedBy 26 ∷ RefusedBy 25 ∷ RefusedBy 8 ∷ Sent 0 ∷ []
  pub count_left : after_the_fullest.state.logged ≡ 64
