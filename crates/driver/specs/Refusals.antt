-- The claims on the numbers of a unit: 01, "Declining by number". Each is given for what the paper says, once the
-- checks before it pass: 18 for a making; 1, 21, 8 for a button; 1, then 3, 4 or 5, 6, 22 for a frame. And no number is
-- given by a valid unit for a frame that reads as LA, LE or LB, nor for Again where there is a frame to repeat.
use Rattle.std.specs.Prelude.{◌≡◌, ◌≢◌, ◌⊎◌, true, false, List, ℕ, ◌<◌}
use Rattle.line.specs.Refusal.{strange_state, wrong_end, at_its_end, off_the_line, not_now, not_awaited}
use Rattle.frame.specs.Frame.{read_frame}
use Rattle.driver.specs.Types.{Move, Fa, Fe, Am, La, Le, Lb, Refused, Unit, Button, Ask, Depart, Reached, Report}
use Rattle.driver.specs.Types.{Again, Standing, Asked, Declined, Granted, UnderWay, Arrived}
use Rattle.driver.specs.State.{awaiting, own_move, last_move, valid_unit}
use Rattle.driver.specs.Making.{make_unit}
use Rattle.driver.specs.Pressing.{sending, is_sent, press_button}
use Rattle.driver.specs.Hearing.{heard_with, hear_frame}

abbrev pub PressRefused : ℕ → Unit → Button → Type 0
PressRefused n u b = (press_button u b).refusal ≡ n

abbrev pub HearingRefused : ℕ → Unit → List ℕ → Type 0
HearingRefused n u f = (hear_frame u f).refusal ≡ n

-- "in the wrong state": each button of a move has its phase. 02, card 6: Again gives "the FA in Asked or Declined, the
-- AM of the last move in Standing past the start, and else 21".
abbrev pub WrongState : Unit → Button → Type 0
WrongState u Ask = u.phase ≢ Standing
WrongState u Depart = u.phase ≢ Granted
WrongState u Reached = u.phase ≢ UnderWay
WrongState u Report = u.phase ≢ Arrived
WrongState u Again =
    ((u.phase ≡ Standing) × (u.at.0 ≡ u.route.start.0))
    ⊎ ((u.phase ≡ Granted) ⊎ ((u.phase ≡ UnderWay) ⊎ (u.phase ≡ Arrived)))

-- the unit is valid, and the frame an FE for its own train
pub record HearsFe (u : Unit) (f : List ℕ) (m : Move) : Type 0 where
  pub good : valid_unit u ≡ true
  pub reads : read_frame f ≡ Fe m
  pub own : m.train.0 ≡ u.train.0

pub record UnitRefusals : Type 0 where
  -- 1, strange state: "state not sound"
  pub strange_press : (u : Unit) (b : Button) → valid_unit u ≡ false → PressRefused strange_state u b
  pub strange_hearing : (u : Unit) (f : List ℕ) → valid_unit u ≡ false → HearingRefused strange_state u f
  -- and never by a sound one
  pub sound_press : (u : Unit) (b : Button) → valid_unit u ≡ true → (press_button u b).refusal ≢ strange_state
  pub sound_hearing : (u : Unit) (f : List ℕ) → valid_unit u ≡ true → (hear_frame u f).refusal ≢ strange_state
  -- 3, 4, 5: a frame that is not read, by the number of its reading
  pub unread : (u : Unit) (f : List ℕ) (n : ℕ) → valid_unit u ≡ true → read_frame f ≡ Refused n → HearingRefused n u f
  -- 6, wrong end: "FA, AM at a unit"
  pub wrong_end_lem : (u : Unit) (f : List ℕ) (m : Move) → valid_unit u ≡ true
      → (read_frame f ≡ Fa m) ⊎ (read_frame f ≡ Am m) → HearingRefused wrong_end u f
  -- 8, at its end: "no next post"
  pub ended : (u : Unit) → valid_unit u ≡ true → u.phase ≡ Standing → u.at.0 ≡ u.route.end.0
      → PressRefused at_its_end u Ask
  -- 18, off the line: "train above 5, start or end above 7"
  pub off_line : (t a e : ℕ) → (5 < t) ⊎ ((7 < a) ⊎ (7 < e)) → (make_unit t a e).refusal ≡ off_the_line
  -- 21, not now: "button in the wrong state"
  pub not_now_lem : (u : Unit) (b : Button) → valid_unit u ≡ true → WrongState u b → PressRefused not_now u b
  -- 22, not awaited: "FE in the wrong state or for another move"
  pub not_awaited_lem : (u : Unit) (f : List ℕ) (m : Move) → HearsFe u f m
      → (awaiting u.phase ≡ false) ⊎ (m ≢ own_move u) → HearingRefused not_awaited u f
  -- 02, card 4: "Kinds 5, 6 and 7 are known now, and heard by a unit change nothing.": each is accepted in every phase,
  -- whatever train and posts it names
  pub local_run : (u : Unit) (f : List ℕ) (m : Move) → valid_unit u ≡ true
      → (read_frame f ≡ La m) ⊎ ((read_frame f ≡ Le m) ⊎ (read_frame f ≡ Lb m)) → hear_frame u f ≡ heard_with u 0
  -- 02, card 6: Again "gives the FA in Asked or Declined, the AM of the last move in Standing past the start", also at
  -- the end: it is never 8
  pub asks_again : (u : Unit) → valid_unit u ≡ true → (u.phase ≡ Asked) ⊎ (u.phase ≡ Declined)
      → press_button u Again ≡ sending u (Fa (own_move u))
  pub reports_again : (u : Unit) → valid_unit u ≡ true → u.phase ≡ Standing → u.at.0 ≢ u.route.start.0
      → press_button u Again ≡ sending u (Am (last_move u))
  pub not_ended : (u : Unit) → (press_button u Again).refusal ≢ at_its_end
  -- "Repeats over bad radio": pressed directly after a press that gave a frame, Again gives that frame
  pub repeats : (u : Unit) (b : Button) → is_sent (press_button u b).frame ≡ true
      → press_button (press_button u b).unit Again ≡ press_button u b
