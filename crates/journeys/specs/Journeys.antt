-- Journeys on X: train 0 goes from post 0 to 2, and train 1 from 2 to 0, past each other at post 1. The channel "may
-- lose, repeat, delay or reorder frames but delivers only frames sent".
use Rattle.std.specs.Prelude.{◌≡◌, List, [], ◌∷◌, ◌++◌, map}
use Rattle.frame.specs.Frame.{bytes_of}
use Rattle.examples.specs.Reading.{fa, fe, afe, am, la, le, lb}
use Rattle.examples.specs.Examples.{book_x}
use Rattle.pair.specs.Types.{Free, Requested, Running, Sent, RefusedBy, Standing, Asked, Declined, Granted, UnderWay}
use Rattle.pair.specs.Types.{Arrived, Ask, Depart, Reached, Report, Again}
use Rattle.pair.specs.Pair.{Pair, PairEvent, pressed, called, to_unit, to_box}
use Rattle.journeys.specs.Reading.{pair_after, at_the_box, sent_in, phases_in, unit_posts, box_statuses, box_posts}
use Rattle.journeys.specs.Reading.{sections_in, units_at, verdict_on, unit_number}

abbrev pub on_x : List PairEvent → Pair
on_x events = pair_after book_x events

-- train 0 asks, and its FA reaches the box: FA and FE are sent, 0 and 1
abbrev pub authorised : List PairEvent
authorised = pressed 0 Ask ∷ at_the_box 0 ∷ []

-- it hears the FE, goes to post 1 and reports: its AM is frame 2
abbrev pub reported_at_one : List PairEvent
reported_at_one =
    authorised ++ to_unit 1 0 ∷ pressed 0 Depart ∷ pressed 0 Reached ∷ pressed 0 Report ∷ []

-- "may lose": the FA is lost, or comes with an out buffer that is too short, and what Again sends is not lost
pub record Lost : Type 0 where
  pub unheard : box_statuses (on_x (pressed 0 Ask ∷ [])) (0 ∷ []) ≡ Free ∷ []
  pub waits : phases_in (on_x (pressed 0 Ask ∷ [])) (0 ∷ []) ≡ Asked ∷ []
  pub short : box_statuses (on_x (pressed 0 Ask ∷ to_box 0 [] ∷ [])) (0 ∷ []) ≡ Free ∷ []
  pub again : phases_in (on_x (pressed 0 Ask ∷ pressed 0 Again ∷ at_the_box 1 ∷ to_unit 2 0 ∷ [])) (0 ∷ [])
      ≡ Granted ∷ []

-- "repeat": the FA comes twice and is answered twice; of the two FEs the unit takes the first and refuses the other
abbrev pub twice : List PairEvent
twice = authorised ++ at_the_box 0 ∷ to_unit 1 0 ∷ []

pub record Repeated : Type 0 where
  pub sent : sent_in (on_x twice) ≡ fa 0 0 1 ∷ fe 0 0 1 ∷ fe 0 0 1 ∷ []
  pub granted : phases_in (on_x twice) (0 ∷ []) ≡ Granted ∷ []
  pub second : unit_number (on_x twice) 0 2 ≡ 22
  pub still : phases_in (on_x (twice ++ to_unit 2 0 ∷ [])) (0 ∷ []) ≡ Granted ∷ []
  -- the AM comes twice: the second is taken without an answer, and the old FA is 9 then
  pub taken : verdict_on book_x (on_x (reported_at_one ++ at_the_box 2 ∷ [])) 2 ≡ Sent 0
  pub old : verdict_on book_x (on_x (reported_at_one ++ at_the_box 2 ∷ [])) 0 ≡ RefusedBy 9
  pub posts : box_posts (on_x (reported_at_one ++ at_the_box 2 ∷ at_the_box 2 ∷ at_the_box 0 ∷ [])) (0 ∷ []) ≡ 1 ∷ []

-- "reorder": the driver asks for the next section, and its FA, frame 3, overtakes the AM. To the box the train still
-- runs, and its unit is one post ahead.
abbrev pub overtaken : List PairEvent
overtaken = reported_at_one ++ pressed 0 Ask ∷ at_the_box 3 ∷ []

pub record Reordered : Type 0 where
  pub refused : verdict_on book_x (on_x (reported_at_one ++ pressed 0 Ask ∷ [])) 3 ≡ RefusedBy 9
  pub running : box_statuses (on_x overtaken) (0 ∷ []) ≡ Running (record { 0 = 1 }) ∷ []
  pub behind : box_posts (on_x overtaken) (0 ∷ []) ≡ 0 ∷ []
  pub ahead : unit_posts (on_x overtaken) (0 ∷ []) ≡ 1 ∷ []
  -- the AM comes late and is taken, and the FA, once more, is answered
  pub late : sent_in (on_x (overtaken ++ at_the_box 2 ∷ at_the_box 3 ∷ []))
      ≡ fa 0 0 1 ∷ fe 0 0 1 ∷ am 0 0 1 ∷ fa 0 1 2 ∷ afe 0 1 2 ∷ []

-- "delay": the FE of the first move is heard again while the unit waits for the next one, and is not taken for it
pub record Delayed : Type 0 where
  pub number : unit_number (on_x overtaken) 0 1 ≡ 22
  pub waits : phases_in (on_x (overtaken ++ to_unit 1 0 ∷ [])) (0 ∷ []) ≡ Asked ∷ []

-- a frame sent may reach either end, its sender too: the FA and the AM at units are 6, the FE at the box is, and at
-- another train's unit it changes nothing
pub record Elsewhere : Type 0 where
  pub fa_heard : unit_number (on_x authorised) 0 0 ≡ 6
  pub am_heard : unit_number (on_x reported_at_one) 1 2 ≡ 6
  pub fe_back : verdict_on book_x (on_x authorised) 1 ≡ RefusedBy 6
  pub fe_passed : unit_number (on_x (pressed 1 Ask ∷ authorised)) 0 2 ≡ 0
  pub phases : phases_in (on_x (pressed 1 Ask ∷ pressed 0 Ask ∷ at_the_box 1 ∷ to_unit 2 1 ∷ to_unit 2 0 ∷ []))
      (0 ∷ 1 ∷ [])
      ≡ Granted ∷ Asked ∷ []

-- "LA and LB at the dispatcher": a gang has the section before train 0 asks, and gives it back
abbrev pub gang_first : List PairEvent
gang_first = called (bytes_of (la 0 1)) ∷ at_the_box 0 ∷ pressed 0 Ask ∷ at_the_box 2 ∷ to_unit 3 0 ∷ []

pub record BesideAGang : Type 0 where
  pub declined : sent_in (on_x gang_first) ≡ la 0 1 ∷ le 0 1 ∷ fa 0 0 1 ∷ afe 0 0 1 ∷ []
  pub waits : phases_in (on_x gang_first) (0 ∷ []) ≡ Declined ∷ []
  pub asked : box_statuses (on_x gang_first) (0 ∷ []) ≡ Requested 2 ∷ []
  -- LA, LE and LB at a unit change nothing
  pub heard : unit_number (on_x gang_first) 0 0 ≡ 0
  pub phase : phases_in (on_x (gang_first
      ++ called (bytes_of (lb 0 1)) ∷ to_unit 0 0 ∷ to_unit 1 0 ∷ to_unit 4 0 ∷ [])) (0 ∷ []) ≡ Declined ∷ []
  pub freed : sent_in (on_x (gang_first ++ called (bytes_of (lb 0 1)) ∷ at_the_box 4 ∷ []))
      ≡ la 0 1 ∷ le 0 1 ∷ fa 0 0 1 ∷ afe 0 0 1 ∷ lb 0 1 ∷ fe 0 0 1 ∷ []
  pub granted : phases_in (on_x (gang_first ++ called (bytes_of (lb 0 1)) ∷ at_the_box 4 ∷ to_unit 5 0 ∷ [])) (0 ∷ [])
      ≡ Granted ∷ []
  -- while a unit is under way the gang does not get its section
  pub taken : verdict_on book_x (on_x (authorised ++ to_unit 1 0 ∷ pressed 0 Depart ∷ called (bytes_of (la 0 1)) ∷ []))
      2
      ≡ RefusedBy 24

-- no event: a train that the line has not, a frame that was not sent, and a gang that sends anything but LA and LB
pub record NoEvent : Type 0 where
  pub sent : sent_in (on_x (pressed 2 Ask ∷ at_the_box 0 ∷ to_unit 0 0 ∷ called (bytes_of (fa 0 0 1))
      ∷ called (bytes_of (le 0 1)) ∷ at_the_box 0 ∷ [])) ≡ []
  pub phases : phases_in (on_x (pressed 2 Ask ∷ pressed 0 Ask ∷ at_the_box 0 ∷ to_unit 1 2 ∷ to_unit 7 0 ∷ []))
      (0 ∷ 1 ∷ 2 ∷ []) ≡ Asked ∷ Standing ∷ Standing ∷ []

-- both trains have their authorities to post 1: their FAs were 0 and 1, and train 1's came to the box first
abbrev pub both_granted : List PairEvent
both_granted = pressed 0 Ask ∷ pressed 1 Ask ∷ at_the_box 1 ∷ at_the_box 0 ∷ to_unit 3 0 ∷ to_unit 2 1 ∷ []

abbrev pub both_under_way : List PairEvent
both_under_way = both_granted ++ pressed 0 Depart ∷ pressed 1 Depart ∷ []

-- train 1 arrives, AM 4, train 0 does, AM 5, and train 1 asks, FA 6; that comes first, then the AMs, then it once more
abbrev pub both_at_one : List PairEvent
both_at_one =
    both_under_way ++ pressed 1 Reached ∷ pressed 1 Report ∷ pressed 0 Reached ∷ pressed 0 Report ∷ pressed 1 Ask
    ∷ at_the_box 6 ∷ at_the_box 5 ∷ at_the_box 4 ∷ at_the_box 6 ∷ []

-- train 0 asks too, FA 8; the old FE 3 comes after its FE 9; both go on, and arrive
abbrev pub both_gone : List PairEvent
both_gone =
    both_at_one ++ pressed 0 Ask ∷ at_the_box 8 ∷ to_unit 9 0 ∷ to_unit 3 0 ∷ to_unit 7 1 ∷ pressed 0 Depart
    ∷ pressed 1 Depart
    ∷ pressed 0 Reached ∷ pressed 1 Reached ∷ []

-- their AMs are 10 and 11: 11 comes first, 10 twice, and the AM of train 0's first move once more
abbrev pub both_reported : List PairEvent
both_reported =
    both_gone ++ pressed 0 Report ∷ pressed 1 Report ∷ at_the_box 11 ∷ at_the_box 10 ∷ at_the_box 10 ∷ at_the_box 5 ∷ []

-- "each unit that is Granted, Under way or Arrived has a Running train with the same move at the dispatcher"
pub record BothCovered : Type 0 where
  pub granted : phases_in (on_x both_granted) (0 ∷ 1 ∷ []) ≡ Granted ∷ Granted ∷ []
  pub ready : box_statuses (on_x both_granted) (0 ∷ 1 ∷ [])
      ≡ Running (record { 0 = 1 }) ∷ Running (record { 0 = 2 }) ∷ []
  pub under_way : phases_in (on_x both_under_way) (0 ∷ 1 ∷ []) ≡ UnderWay ∷ UnderWay ∷ []
  pub running : box_statuses (on_x both_under_way) (0 ∷ 1 ∷ [])
      ≡ Running (record { 0 = 1 }) ∷ Running (record { 0 = 2 }) ∷ []
  pub together : unit_posts (on_x both_under_way) (0 ∷ 1 ∷ []) ≡ box_posts (on_x both_under_way) (0 ∷ 1 ∷ [])
  -- each in its section: on its way it counts at both posts, and while it waits at its own
  pub sections : sections_in (on_x both_under_way) (0 ∷ 1 ∷ []) ≡ 0 ∷ 1 ∷ []
  pub under_way_at : map (units_at book_x (on_x both_under_way)) (0 ∷ 1 ∷ 2 ∷ []) ≡ 1 ∷ 2 ∷ 1 ∷ []
  pub waiting_at : map (units_at book_x (on_x (pressed 0 Ask ∷ []))) (0 ∷ 1 ∷ 2 ∷ []) ≡ 1 ∷ 0 ∷ 1 ∷ []
  pub arrived : phases_in (on_x both_gone) (0 ∷ 1 ∷ []) ≡ Arrived ∷ Arrived ∷ []
  pub still : box_statuses (on_x both_gone) (0 ∷ 1 ∷ []) ≡ Running (record { 0 = 1 }) ∷ Running (record { 0 = 1 }) ∷ []

-- over such a channel both trains get home
pub record AllHome : Type 0 where
  pub sent : sent_in (on_x both_reported)
      ≡ fa 0 0 1 ∷ fa 1 2 1 ∷ fe 1 2 1 ∷ fe 0 0 1 ∷ am 1 2 1 ∷ am 0 0 1 ∷ fa 1 1 0 ∷ fe 1 1 0 ∷ fa 0 1 2 ∷ fe 0 1 2
      ∷ am 0 1 2 ∷ am 1 1 0 ∷ []
  pub box : box_posts (on_x both_reported) (0 ∷ 1 ∷ []) ≡ 2 ∷ 0 ∷ []
  pub units : unit_posts (on_x both_reported) (0 ∷ 1 ∷ []) ≡ 2 ∷ 0 ∷ []
  pub statuses : box_statuses (on_x both_reported) (0 ∷ 1 ∷ []) ≡ Free ∷ Free ∷ []
  pub phases : phases_in (on_x both_reported) (0 ∷ 1 ∷ []) ≡ Standing ∷ Standing ∷ []
  -- a report of the first move is 8 by then
  pub old : verdict_on book_x (on_x both_reported) 5 ≡ RefusedBy 8
