-- The pair, 02, card 9: "Take a dispatcher and one unit per train, opened from one book, and a channel that may lose,
-- repeat, delay or reorder frames but delivers only frames sent."
use Rattle.std.specs.Prelude.{cond, ◌&&◌, List, [], ◌∷◌, ◌++◌, ℕ, ltb, length, get_or}
use Rattle.common.specs.Update.{update}
use Rattle.line.specs.Line.{route_of}
use Rattle.frame.specs.Frame.{read_frame}
use Rattle.driver.specs.Making.{make_unit}
use Rattle.driver.specs.Pressing.{is_sent, sent_bytes, press_button}
use Rattle.driver.specs.History.{CabInput, press, frame, after}
use Rattle.rules.specs.Answer.{Answer, answer}
use Rattle.rules.specs.Refusals.{of_gang}
use Rattle.assurance.specs.Run.{Input}
use Rattle.assurance.specs.Observer.{written_frames}
use Rattle.pair.specs.Types.{Line, Record, State, Button, Unit, Made, Pressed}

-- the box with its journal, the units by train number, and every frame sent so far, in order of sending. A frame stays
-- there, so that it may come late, out of order, more than once or never, at either end.
pub record Pair : Type 0 where
  pub box : State
  pub journal : List Record
  pub units : ℕ → Unit
  pub sent : List (List ℕ)

-- "one unit per train, opened from one book": train t's unit is made of its number and its route
abbrev pub made_of : Line → ℕ → Made
made_of l t = make_unit t (route_of l t).start.0 (route_of l t).end.0

abbrev pub unit_of : Line → ℕ → Unit
unit_of l t = (made_of l t).unit

-- the box as it was opened, and the units as they were made; nothing is sent yet
abbrev pub pair_of : Line → State → List Record → Pair
pair_of l s journal = record { box = s; journal = journal; units = unit_of l; sent = [] }

-- ---- what happens

-- "button presses, LA and LB at the dispatcher, losses and deliveries". A frame that is lost is one that is not
-- delivered.
pub data PairEvent : Type 0 where
  -- a button is pressed in the cab of train t
  pressed : ℕ → Button → PairEvent
  -- a gang sends its LA or LB, which then may come to the dispatcher, at once or later, as any frame sent
  called : List ℕ → PairEvent
  -- frame n of those sent reaches the unit of train t
  to_unit : ℕ → ℕ → PairEvent
  -- frame n of those sent reaches the box, with the out buffer that is lent for it
  to_box : ℕ → List ℕ → PairEvent

-- who gets what
pub data PairStep : Type 0 where
  at_box : Input → PairStep
  at_unit : ℕ → CabInput → PairStep
  from_gang : List ℕ → PairStep
  nowhere : PairStep

-- There is no unit of a number that the line has no train of, no frame of a number that was not sent, and of a gang
-- nothing but LA and LB: such an event is none.
abbrev pub step_of : Pair → PairEvent → PairStep
step_of p (pressed t b) = cond (ltb t p.box.trains) (at_unit t (press b)) nowhere
step_of p (called f) = cond (of_gang (read_frame f)) (from_gang f) nowhere
step_of p (to_unit n t) =
    cond (ltb n (length p.sent) && ltb t p.box.trains) (at_unit t (frame (get_or p.sent n []))) nowhere
step_of p (to_box n out) =
    cond (ltb n (length p.sent)) (at_box (record { frame = get_or p.sent n []; out = out })) nowhere

-- ---- what it leaves

-- the frame that a press hands back, if it does; a unit that hears one sends none
abbrev pub pressed_frames : Pressed → List (List ℕ)
pressed_frames r = cond (is_sent r.frame) (sent_bytes r.frame ∷ []) []

abbrev pub unit_frames : Unit → CabInput → List (List ℕ)
unit_frames u (press b) = pressed_frames (press_button u b)
unit_frames u (frame f) = []

-- the box's answer to what it gets
abbrev pub answer_in : List ℕ → Pair → Input → Answer
answer_in table p i = answer p.box table p.journal i.frame i.out

abbrev pub answered_pair : Pair → Answer → Pair
answered_pair p a = record {
  box = a.state;
  journal = a.journal;
  units = p.units;
  sent = p.sent ++ written_frames a.verdict a.out;
}

unfoldable pub stepped : List ℕ → Pair → PairStep → Pair
stepped table p (at_box i) = answered_pair p (answer_in table p i)
stepped table p (at_unit t c) = record {
  box = p.box;
  journal = p.journal;
  units = update p.units t (after (p.units t) c);
  sent = p.sent ++ unit_frames (p.units t) c;
}
stepped table p (from_gang f) =
    record { box = p.box; journal = p.journal; units = p.units; sent = p.sent ++ f ∷ [] }
stepped table p nowhere = p

-- "every list of button presses, LA and LB at the dispatcher, losses and deliveries"
unfoldable pub run_pair : List ℕ → Pair → List PairEvent → Pair
run_pair table p [] = p
run_pair table p (e ∷ es) = run_pair table (stepped table p (step_of p e)) es
