-- When a unit is valid, and that a valid unit stays valid: `specs/Validity.antt`,
-- proved.
use mathlib.Core.Path.{◌≡◌, refl, sym, ap, ◌∙◌}
use mathlib.Core.Logic.{◌≢◌}
use mathlib.Core.Bool.{true, false, not, false≢true}
use mathlib.Core.List.{List}
use Prim.Native.Nat.{ℕ}
use native.Mathlib.Omega.{arith}
use borrow.Author.Tests.{eq-eqb, ne_eqb, eqb-false, not-true}
use Rattle.common.proofs.Tests.{by_cases, by_equality, and_left, and_right}
use Rattle.line.proofs.Travel.{between_of, of_between, start_between, next_between, next_past, next_back}
use Rattle.driver.specs.Types.{Phase, Standing, Asked, Declined, Granted, UnderWay, Arrived, Button, Ask, Depart}
use Rattle.driver.specs.Types.{Reached, Report, Again, Unit, Made, Pressed, Heard}
use Rattle.driver.specs.State.{same_phase, numbers_fit, ended, own_move, past_start, last_move, in_ranges, on_route}
use Rattle.driver.specs.State.{in_phase, valid_unit}
use Rattle.driver.specs.Making.{standing_unit, empty_unit, make_unit}
use Rattle.driver.specs.Pressing.{end_permits, moved_on, carried_out}
use Rattle.driver.specs.Validity.{Validity}
use Rattle.driver.proofs.Numbers.{makes, makes_none}
use Rattle.driver.proofs.Phases.{awaiting_not_standing}
use Rattle.driver.proofs.Outcomes as outcomes

-- ---- at its end, and short of it

module _ (u : Unit) (fit : in_ranges u ≡ true) (on : on_route u ≡ true) where
  short_of_end : u.at.0 ≢ u.route.end.0 → true ≡ valid_unit u
  unfolding valid_unit
  short_of_end h = rw (fit, on, ne_eqb _ _ h)

  at_its_end_lem : u.at.0 ≡ u.route.end.0 → same_phase u.phase Standing ≡ valid_unit u
  unfolding valid_unit
  at_its_end_lem h = rw (fit, on, eq-eqb _ _ h)

  standing_valid : same_phase u.phase Standing ≡ true → valid_unit u ≡ true
  standing_valid h =
      by_equality u.at.0 u.route.end.0 (λ e. sym (at_its_end_lem e) ∙ h) (λ e. sym (short_of_end e))

-- ---- what follows for a valid unit

module _ (u : Unit) (good : valid_unit u ≡ true) where
  fits : in_ranges u ≡ true
  unfolding valid_unit
  fits = and_left (in_ranges u) _ good

  pub on_route_lem : on_route u ≡ true
  unfolding valid_unit
  on_route_lem = and_left (on_route u) _ (and_right (in_ranges u) _ good)

  -- "only Standing may be at the end"
  pub short_unless_standing : same_phase u.phase Standing ≡ false → u.at.0 ≢ u.route.end.0
  unfolding valid_unit
  short_unless_standing h z =
      let w = and_right (on_route u) _ (and_right (in_ranges u) _ good) in
      false≢true (rw (eq-eqb _ _ z, h) at w)

  module _ (short : u.at.0 ≢ u.route.end.0) where
    pub valid_in_phase : (p : Phase) → valid_unit (in_phase u p) ≡ true
    valid_in_phase p = sym (short_of_end (in_phase u p) fits on_route_lem short)

    pub valid_moved_on : valid_unit (moved_on u) ≡ true
    unfolding same_phase
    valid_moved_on =
        let between = next_between _ _ _ (between_of _ _ _ on_route_lem) short in
        standing_valid (moved_on u) fits (of_between _ _ _ between) refl

    -- it is past its start then, and its last move is the one that was its own
    pub moved_on_past : past_start (moved_on u) ≡ true
    moved_on_past = rw (ne_eqb _ _ (next_past _ _ _ (between_of _ _ _ on_route_lem) short))

    pub moved_on_last : last_move (moved_on u) ≡ own_move u
    moved_on_last = outcomes.same_move refl (next_back _ _ _ (between_of _ _ _ on_route_lem) short) refl

-- ---- a unit that is made

pub fits_made : (t a e : ℕ) → (make_unit t a e).refusal ≡ 0 → numbers_fit t a e ≡ true
fits_made t a e h = by_cases (numbers_fit t a e) (λ z. z)
    (λ z. let r = ap (λ (x : Made). x.refusal) (makes_none t a e z empty_unit refl) ∙ h in absurd (omega arith))

pub made_standing : (t a e : ℕ) → (make_unit t a e).refusal ≡ 0 → (make_unit t a e).unit ≡ standing_unit t a e
made_standing t a e h = sym (ap (λ (x : Made). x.unit) (makes t a e (fits_made t a e h) (standing_unit t a e) refl))

pub standing_unit_valid : (t a e : ℕ) → numbers_fit t a e ≡ true → valid_unit (standing_unit t a e) ≡ true
unfolding same_phase
standing_unit_valid t a e h = standing_valid (standing_unit t a e) h (of_between _ _ _ (start_between a e)) refl

-- ---- after a press and after a frame

-- where the end permits a button of a move, the unit is short of it
pub short : (u : Unit) → not (ended u) ≡ true → u.at.0 ≢ u.route.end.0
short u h = eqb-false _ _ (not-true _ h)

module _ (u : Unit) (good : valid_unit u ≡ true) where
  pub carried_out_valid : (b : Button) → end_permits u b ≡ true → valid_unit (carried_out u b).unit ≡ true
  unfolding carried_out
  carried_out_valid Ask h = valid_in_phase u good (short u h) Asked
  carried_out_valid Depart h = valid_in_phase u good (short u h) UnderWay
  carried_out_valid Reached h = valid_in_phase u good (short u h) Arrived
  carried_out_valid Report h = valid_moved_on u good (short u h)
  carried_out_valid Again h = good

  pressed_valid : {b : Button} {r : Pressed} → outcomes.PressOutcome u b r → valid_unit r.unit ≡ true
  pressed_valid (outcomes.refused n) = good
  pressed_valid (outcomes.accepted e h) = carried_out_valid _ h

  pub heard_valid : {f : List ℕ} {r : Heard} → outcomes.HearOutcome u f r → valid_unit r.unit ≡ true
  unfolding same_phase
  heard_valid (outcomes.refused n) = good
  heard_valid (outcomes.fe_passed_over m e h) = good
  heard_valid (outcomes.granted m e o h) =
      valid_in_phase u good (short_unless_standing u good (awaiting_not_standing u.phase h)) Granted
  heard_valid (outcomes.passed_over x e h) = good
  heard_valid (outcomes.declined m e h) = valid_in_phase u good (short_unless_standing u good (rw h)) Declined

-- ---- after a refusal

pub no_refusal : (u : Unit) (b : Button) → (carried_out u b).refusal ≡ 0
unfolding carried_out
no_refusal u Ask = refl
no_refusal u Depart = refl
no_refusal u Reached = refl
no_refusal u Report = refl
no_refusal u Again = refl

press_refused : {u : Unit} {b : Button} {r : Pressed} → outcomes.PressOutcome u b r → r.refusal ≢ 0 → r.unit ≡ u
press_refused (outcomes.refused n) h = refl
press_refused {u} {b} (outcomes.accepted e k) h = absurd (h (no_refusal u b))

hearing_refused : {u : Unit} {f : List ℕ} {r : Heard} → outcomes.HearOutcome u f r → r.refusal ≢ 0 → r.unit ≡ u
hearing_refused (outcomes.refused n) h = refl
hearing_refused (outcomes.fe_passed_over m e k) h = refl
hearing_refused (outcomes.granted m e o k) h = absurd (h refl)
hearing_refused (outcomes.passed_over x e k) h = refl
hearing_refused (outcomes.declined m e k) h = absurd (h refl)

-- ---- after Again

again_unchanged : {u : Unit} {r : Pressed} → outcomes.PressOutcome u Again r → r.unit ≡ u
unfolding carried_out
again_unchanged (outcomes.refused n) = refl
again_unchanged (outcomes.accepted e k) = refl

pub validity : Validity
unfolding valid_unit numbers_fit
validity = record {
  made = λ t a e h. rw (made_standing t a e h) (standing_unit_valid t a e (fits_made t a e h));
  not_made = λ t a e h. by_cases (numbers_fit t a e)
      (λ z. absurd (h (sym (ap (λ (x : Made). x.refusal) (makes t a e z (standing_unit t a e) refl)))))
      (λ z. ap (λ (x : Made). valid_unit x.unit) (sym (makes_none t a e z empty_unit refl)));
  pressed = λ u b good. pressed_valid u good (outcomes.press_outcome u b);
  heard = λ u f good. heard_valid u good (outcomes.hear_outcome u f);
  press_refused = λ u b. press_refused (outcomes.press_outcome u b);
  hearing_refused = λ u f. hearing_refused (outcomes.hear_outcome u f);
  again = λ u. again_unchanged (outcomes.press_outcome u Again);
}
