-- Which number refuses: `specs/Refusals.antt`, proved by the cases of `Buttons`, `Frames` and `Numbers`.
use mathlib.Core.Path.{◌≡◌, refl, sym, ap, ◌∙◌}
use mathlib.Core.Logic.{◌≢◌, ◌⊎◌, inl, inr, ⊎_elim}
use mathlib.Core.Bool.{true, false, false≢true, and-false}
use mathlib.Core.List.{List}
use Prim.Native.Nat.{ℕ, ◌<◌}
use lib.Dec.{leb}
use native.Mathlib.Omega.{arith}
use borrow.Author.Tests.{eq-eqb, ne_eqb, lt-leb}
use Rattle.common.specs.Check.{refusal}
use Rattle.common.proofs.Tests.{by_cases, not_passed}
use Rattle.common.proofs.Check.{not_given, number_told}
use Rattle.line.specs.Refusal.{strange_state, at_its_end, not_awaited}
use Rattle.frame.specs.Frame.{read_frame}
use Rattle.driver.specs.Types.{Move, Message, Fa, Am, Unit, Made, Pressed, Heard, Button, Ask, Depart, Reached}
use Rattle.driver.specs.Types.{Report, Again, Phase, Standing, Asked, Declined}
use Rattle.driver.specs.State.{same_phase, numbers_fit, awaiting, own_move, past_start, last_move, in_phase, valid_unit}
use Rattle.driver.specs.Making.{empty_unit}
use Rattle.driver.specs.Pressing.{may_press, end_permits, press_checks, silent, sending, is_sent, moved_on, last_sent}
use Rattle.driver.specs.Pressing.{carried_out, press_button}
use Rattle.driver.specs.Hearing.{for_move, hear_checks, phase_after, heard_with, hear_frame}
use Rattle.driver.specs.Refusals.{HearingRefused, HearsFe, WrongState, UnitRefusals}
use Rattle.driver.proofs.Phases.{same_phase_lem}
use Rattle.driver.proofs.Numbers.{makes_none}
use Rattle.driver.proofs.Outcomes.{PressOutcome, refused, accepted, press_outcome, own_move_lem}
use Rattle.driver.proofs.Validity.{short, carried_out_valid, no_refusal, moved_on_past, moved_on_last}
use Rattle.driver.proofs.Buttons as buttons
use Rattle.driver.proofs.Frames as frames

-- answers that are the same have the same number
press_number : {r s : Pressed} → r ≡ s → s.refusal ≡ r.refusal
press_number e = sym (ap (λ (x : Pressed). x.refusal) e)

hear_number : {r s : Heard} → r ≡ s → s.refusal ≡ r.refusal
hear_number e = sym (ap (λ (x : Heard). x.refusal) e)

numbers_off : (t a e : ℕ) → (5 < t) ⊎ ((7 < a) ⊎ (7 < e)) → numbers_fit t a e ≡ false
unfolding numbers_fit
numbers_off t a e (inl h) = rw (lt-leb t 5 h)
numbers_off t a e (inr (inl h)) = rw (lt-leb a 7 h, and-false (leb t 5))
numbers_off t a e (inr (inr h)) = rw (lt-leb e 7 h, and-false (leb a 7), and-false (leb t 5))

-- ---- buttons

same_standing : (u : Unit) → u.phase ≡ Standing → same_phase u.phase Standing ≡ true
unfolding same_phase
same_standing u h = rw h

other_phase : {p q : Phase} → p ≢ q → same_phase p q ≡ false
other_phase {p} {q} h = not_passed (same_phase p q) (λ s. h (same_phase_lem p q s))

wrong_state : (u : Unit) (b : Button) → WrongState u b → may_press u b ≡ false
unfolding same_phase
wrong_state u Ask h = other_phase h
wrong_state u Depart h = other_phase h
wrong_state u Reached h = other_phase h
wrong_state u Report h = other_phase h
wrong_state u Again (inl h) = rw (h.0, eq-eqb _ _ h.1)
wrong_state u Again (inr (inl h)) = rw h
wrong_state u Again (inr (inr (inl h))) = rw h
wrong_state u Again (inr (inr (inr h))) = rw h

-- ---- a valid unit

module _ (u : Unit) (good : valid_unit u ≡ true) where
  sound_press : (b : Button) → (press_button u b).refusal ≢ strange_state
  unfolding press_button
  sound_press b e =
      let told = number_told (λ (r : Pressed). r.refusal) (carried_out u b) (silent u) (no_refusal u b) (λ k. refl)
      (refusal (press_checks u b)) in
      not_given strange_state (press_checks u b) (omega arith) (rw good) (sym told ∙ e)

  sound_hearing : (f : List ℕ) → (hear_frame u f).refusal ≢ strange_state
  unfolding hear_frame
  sound_hearing f e =
      let told = number_told (λ (r : Heard). r.refusal) (heard_with (in_phase u (phase_after u (read_frame f))) 0)
      (heard_with u) refl (λ k. refl) (refusal (hear_checks u f)) in
      not_given strange_state (hear_checks u f) (omega arith) (rw good) (sym told ∙ e)

-- ---- Again

module _ (u : Unit) where
  never_ended : (press_button u Again).refusal ≢ at_its_end
  unfolding press_button carried_out
  never_ended e =
      let told = number_told (λ (r : Pressed). r.refusal) (carried_out u Again) (silent u) refl (λ k. refl)
      (refusal (press_checks u Again)) in
      not_given at_its_end (press_checks u Again) (omega arith) refl (sym told ∙ e)

  module _ (good : valid_unit u ≡ true) where
    given : (x : Message) → may_press u Again ≡ true → last_sent u ≡ x → press_button u Again ≡ sending u x
    given x may e = sym (buttons.again u Again good may refl refl x (sym e))

    asks_again : (u.phase ≡ Asked) ⊎ (u.phase ≡ Declined) → press_button u Again ≡ sending u (Fa (own_move u))
    unfolding same_phase
    asks_again (inl h) = given (Fa (own_move u)) (rw h) (rw h)
    asks_again (inr h) = given (Fa (own_move u)) (rw h) (rw h)

    reports_again : u.phase ≡ Standing → past_start u ≡ true → press_button u Again ≡ sending u (Am (last_move u))
    unfolding same_phase
    reports_again h k = given (Am (last_move u)) (rw (h, k)) (rw h)

module _ (u : Unit) (good : valid_unit u ≡ true) where
  given_again : (b : Button) → may_press u b ≡ true → end_permits u b ≡ true → is_sent (carried_out u b).frame ≡ true
      → press_button (carried_out u b).unit Again ≡ carried_out u b
  unfolding carried_out
  given_again Ask may permits h = asks_again (in_phase u Asked) (carried_out_valid u good Ask permits) (inl refl)
  given_again Depart may permits h = absurd (false≢true h)
  given_again Reached may permits h = absurd (false≢true h)
  given_again Report may permits h =
      reports_again (moved_on u) (carried_out_valid u good Report permits) refl (moved_on_past u good (short u permits))
      ∙ ap (λ (m : Move). sending (moved_on u) (Am m)) (moved_on_last u good (short u permits))
  given_again Again may permits h = sym (buttons.carried_out_lem u Again good may permits)

  repeated : {b : Button} {r : Pressed} → PressOutcome u b r → is_sent r.frame ≡ true → press_button r.unit Again ≡ r
  repeated (refused n) h = absurd (false≢true h)
  repeated {b} (accepted may permits) h = given_again b may permits h

-- a unit that is not valid sends nothing
repeats : (u : Unit) (b : Button) → is_sent (press_button u b).frame ≡ true
    → press_button (press_button u b).unit Again ≡ press_button u b
repeats u b = by_cases (valid_unit u)
    (λ good. repeated u good (press_outcome u b))
    (λ bad h. absurd (false≢true (ap (λ (r : Pressed). is_sent r.frame) (buttons.strange u b bad) ∙ h)))

-- ---- an FE for the unit's own train

module _ {u : Unit} {f : List ℕ} {m : Move} (h : HearsFe u f m) where
  not_now_lem : awaiting u.phase ≡ false → HearingRefused not_awaited u f
  not_now_lem w = by_cases (for_move u m)
      (λ o. hear_number (frames.fe_not_now u f h.good m h.reads h.own o w))
      (λ o. hear_number (frames.fe_for_another_move u f h.good m h.reads h.own o))

  other_move : m ≢ own_move u → HearingRefused not_awaited u f
  other_move w =
      let other = not_passed (for_move u m) (λ o. w (own_move_lem u m o)) in
      hear_number (frames.fe_for_another_move u f h.good m h.reads h.own other)

pub refusals : UnitRefusals
refusals = record {
  strange_press = λ u b h. press_number (buttons.strange u b h);
  strange_hearing = λ u f h. hear_number (frames.strange u f h);
  sound_press = λ u b good. sound_press u good b;
  sound_hearing = λ u f good. sound_hearing u good f;
  unread = λ u f n good r. hear_number (frames.not_read u f good n r);
  wrong_end_lem = λ u f m good. ⊎_elim
      (λ r. hear_number (frames.fa u f good m r)) (λ r. hear_number (frames.am u f good m r));
  ended = λ u good phase h. press_number (buttons.no_move u Ask good (same_standing u phase) (rw (eq-eqb _ _ h)));
  off_line = λ t a e h. sym (ap (λ (x : Made). x.refusal) (makes_none t a e (numbers_off t a e h) empty_unit refl));
  not_now_lem = λ u b good h. press_number (buttons.not_now_lem u b good (wrong_state u b h));
  not_awaited_lem = λ u f m h. ⊎_elim (not_now_lem h) (other_move h);
  local_run = λ u f m good. ⊎_elim
      (λ r. sym (frames.la u f good m r))
      (⊎_elim (λ r. sym (frames.le u f good m r)) (λ r. sym (frames.lb u f good m r)));
  asks_again = asks_again;
  reports_again = λ u good h k. reports_again u good h (rw (ne_eqb _ _ k));
  not_ended = never_ended;
  repeats = repeats;
}
