-- Hearing a frame. 01: "Checks: 1, then 3, 4, 5, 6, 22 for frames".
use Rattle.std.specs.Prelude.{Bool, true, false, cond, not, ◌&&◌, ◌||◌, List, [], ◌∷◌, ◌++◌, ℕ, eqb}
use Rattle.std.specs.Prelude.{Result, Ok, Err}
use Rattle.common.specs.Check.{Check, check, refusal, unless_refused}
use Rattle.line.specs.Refusal.{strange_state, wrong_end, not_awaited}
use Rattle.frame.specs.Frame.{read_checks, read_frame}
use Rattle.driver.specs.Types.{Move, Message, Fa, Fe, Afe, Am, La, Le, Lb, Refused, Unit, Heard, Phase, Asked}
use Rattle.driver.specs.Types.{Declined, Granted}
use Rattle.driver.specs.State.{same_phase, awaiting, own_move, in_phase, valid_unit}

-- "for its own train"
abbrev pub for_train : Unit → Move → Bool
for_train u m = eqb m.train.0 u.train.0

-- "for its own train and move": from the present to the next post. At the end there is none, but a valid unit there is
-- Standing and awaits nothing.
unfoldable pub for_move : Unit → Move → Bool
for_move u m = for_train u m && (eqb m.from.0 (own_move u).from.0 && eqb m.to.0 (own_move u).to.0)

-- "FA, AM at a unit" are 6. 02, card 4: "Kinds 5, 6 and 7 are known now, and heard by a unit change nothing.": none of
-- them is refused, in any phase, whatever train and posts it names.
abbrev pub for_unit : Message → Bool
for_unit (Fa m) = false
for_unit (Fe m) = true
for_unit (Afe m) = true
for_unit (Am m) = false
for_unit (La m) = true
for_unit (Le m) = true
for_unit (Lb m) = true
for_unit (Refused n) = false

-- "FE in the wrong state or for another move" is 22; "an FE for another train" is not
abbrev pub awaited : Unit → Message → Bool
awaited u (Fa m) = true
awaited u (Fe m) = not (for_train u m) || (for_move u m && awaiting u.phase)
awaited u (Afe m) = true
awaited u (Am m) = true
awaited u (La m) = true
awaited u (Le m) = true
awaited u (Lb m) = true
awaited u (Refused n) = true

abbrev pub hear_checks : Unit → List ℕ → List Check
hear_checks u f =
    check strange_state (valid_unit u)
    ∷ (read_checks f ++ (check wrong_end (for_unit (read_frame f)) ∷ check not_awaited (awaited u (read_frame f)) ∷ []))

-- "Heard FE for its own train and move: Asked or Declined to Granted. Heard AFE for its own train and move: Asked to
-- Declined. .. Any other AFE, and an FE for another train, changes nothing." 02, card 4: kinds 5, 6 and 7 "heard by a
-- unit change nothing".
unfoldable pub phase_after : Unit → Message → Phase
phase_after u (Fa m) = u.phase
phase_after u (Fe m) = cond (for_move u m) Granted u.phase
phase_after u (Afe m) = cond (for_move u m && same_phase u.phase Asked) Declined u.phase
phase_after u (Am m) = u.phase
phase_after u (La m) = u.phase
phase_after u (Le m) = u.phase
phase_after u (Lb m) = u.phase
phase_after u (Refused n) = u.phase

-- the unit, and the number of the refusal or 0
abbrev pub heard_with : Unit → ℕ → Heard
heard_with u n = record { unit = u; refusal = n }

-- what a message does to a valid unit: the phase that it has then, or the number of the refusal
abbrev pub phase_told : Unit → Message → Result Phase ℕ
phase_told u (Fa m) = Err wrong_end
phase_told u (Fe m) = cond (awaited u (Fe m)) (Ok (phase_after u (Fe m))) (Err not_awaited)
phase_told u (Afe m) = Ok (phase_after u (Afe m))
phase_told u (Am m) = Err wrong_end
phase_told u (La m) = Ok u.phase
phase_told u (Le m) = Ok u.phase
phase_told u (Lb m) = Ok u.phase
phase_told u (Refused n) = Err n

abbrev pub heard_by : Unit → Result Phase ℕ → Heard
heard_by u (Ok p) = heard_with (in_phase u p) 0
heard_by u (Err n) = heard_with u n

-- "A refusal returns its number and the state unchanged"
unfoldable pub hear_frame : Unit → List ℕ → Heard
hear_frame u f =
    unless_refused (refusal (hear_checks u f)) (heard_with (in_phase u (phase_after u (read_frame f))) 0) (heard_with u)
