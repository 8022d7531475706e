-- Pressing a button. 01: "Checks: .. 1, then 21, then 8 for buttons."
use Rattle.std.specs.Prelude.{Bool, true, false, cond, not, ◌&&◌, ◌||◌, List, [], ◌∷◌, ℕ, replicate, Option, None, Some}
use Rattle.common.specs.Check.{Check, check, refusal, unless_refused}
use Rattle.line.specs.Refusal.{strange_state, not_now, at_its_end}
use Rattle.line.specs.Route.{next_post}
use Rattle.frame.specs.Frame.{frame_length, bytes_of}
use Rattle.driver.specs.Types.{Message, Fa, Am, Unit, Pressed, Button, Ask, Depart, Reached, Report, Again}
use Rattle.driver.specs.Types.{Standing, Asked, Granted, UnderWay, Arrived}
use Rattle.driver.specs.State.{same_phase, awaiting, ended, own_move, past_start, last_move, in_phase, valid_unit}

-- 02, card 6: Again "gives the FA in Asked or Declined, the AM of the last move in Standing past the start, and else
-- 21".
abbrev pub may_repeat : Unit → Bool
may_repeat u = awaiting u.phase || (same_phase u.phase Standing && past_start u)

-- "Another button press is 21"
abbrev pub may_press : Unit → Button → Bool
may_press u Ask = same_phase u.phase Standing
may_press u Depart = same_phase u.phase Granted
may_press u Reached = same_phase u.phase UnderWay
may_press u Report = same_phase u.phase Arrived
may_press u Again = may_repeat u

abbrev pub is_again : Button → Bool
is_again Ask = false
is_again Depart = false
is_again Reached = false
is_again Report = false
is_again Again = true

-- "Ask at the end is 8": a valid unit there is Standing, so that no other button of a move comes as far as this. Again
-- needs no next post, and is never 8.
abbrev pub end_permits : Unit → Button → Bool
end_permits u b = is_again b || not (ended u)

abbrev pub press_checks : Unit → Button → List Check
press_checks u b =
    check strange_state (valid_unit u)
    ∷ check not_now (may_press u b)
    ∷ check at_its_end (end_permits u b)
    ∷ []

-- ---- the answers: the unit, the number of the refusal or 0, and a frame or none

abbrev pub silent : Unit → ℕ → Pressed
silent u n = record { unit = u; refusal = n; frame = None }

abbrev pub sending : Unit → Message → Pressed
sending u m = record { unit = u; refusal = 0; frame = Some (bytes_of m) }

-- whether there is a frame to be sent, and the bytes that are sent: none or the frame's
abbrev pub is_sent : Option (List ℕ) → Bool
is_sent None = false
is_sent (Some f) = true

abbrev pub sent_bytes : Option (List ℕ) → List ℕ
sent_bytes None = []
sent_bytes (Some f) = f

-- the seven bytes within the answer, which are 0 where no frame is given
abbrev pub seven_bytes : Option (List ℕ) → List ℕ
seven_bytes None = replicate frame_length 0
seven_bytes (Some f) = f

-- ---- the flow

-- Standing at the next post
abbrev pub moved_on : Unit → Unit
moved_on u = record {
  train = u.train;
  route = u.route;
  at = record { 0 = next_post u.at.0 u.route.end.0 };
  phase = Standing;
}

-- what Again gives: the FA for the unit's own move, or the AM of its last one
abbrev pub last_sent : Unit → Message
last_sent u = cond (awaiting u.phase) (Fa (own_move u)) (Am (last_move u))

-- "Ask: Standing to Asked, gives FA. .. Depart: Granted to Under way. Reached: Under way to Arrived. Report: Arrived to
-- Standing at the next post, gives AM (the source's two steps in one)." 02, card 6: "A new press, Again, changes no
-- state".
unfoldable pub carried_out : Unit → Button → Pressed
carried_out u Ask = sending (in_phase u Asked) (Fa (own_move u))
carried_out u Depart = silent (in_phase u UnderWay) 0
carried_out u Reached = silent (in_phase u Arrived) 0
carried_out u Report = sending (moved_on u) (Am (own_move u))
carried_out u Again = sending u (last_sent u)

-- "A refusal returns its number and the state unchanged"
unfoldable pub press_button : Unit → Button → Pressed
press_button u b = unless_refused (refusal (press_checks u b)) (carried_out u b) (silent u)
