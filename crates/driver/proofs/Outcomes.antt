-- How a press and a frame come out, turned round from the definitions: a refusal leaves the unit as it was, and what is
-- accepted passed every check.
use mathlib.Core.Path.{◌≡◌, refl}
use mathlib.Core.Logic.{◌≢◌}
use mathlib.Core.Bool.{true, ◌&&◌, false≢true}
use mathlib.Core.List.{List}
use Prim.Native.Nat.{ℕ, zero, suc}
use lib.Dec.{eqb}
use borrow.Author.Tests.{eqb-true, eqb-false}
use Rattle.common.specs.Check.{refusal, unless_refused}
use Rattle.common.proofs.Tests.{by_cases, not_passed, and_left, and_right}
use Rattle.common.proofs.Check.{passed_by}
use Rattle.line.specs.Refusal.{wrong_end, at_its_end, not_now, not_awaited}
use Rattle.frame.specs.Frame.{move_of, read_frame}
use Rattle.driver.specs.Types.{Move, Message, Fa, Fe, Afe, Am, La, Le, Lb, Refused, Button, Unit, Pressed}
use Rattle.driver.specs.Types.{Heard, Again, Phase, Standing, Asked, Declined, Granted, UnderWay, Arrived}
use Rattle.driver.specs.State.{same_phase, awaiting, own_move, past_start, in_phase}
use Rattle.driver.specs.Pressing.{may_press, end_permits, press_checks, silent, carried_out, press_button}
use Rattle.driver.specs.Hearing.{for_train, for_move, for_unit, awaited, hear_checks, phase_after, heard_with}
use Rattle.driver.specs.Hearing.{hear_frame}
use Rattle.driver.specs.History.{other, accepted_event}
use Rattle.driver.proofs.Phases.{same_phase_lem}

pub data PressOutcome (u : Unit) (b : Button) : Pressed → Type 0 where
  refused : (n : ℕ) → PressOutcome u b (silent u (suc n))
  accepted : may_press u b ≡ true → end_permits u b ≡ true → PressOutcome u b (carried_out u b)

pub press_outcome : (u : Unit) (b : Button) → PressOutcome u b (press_button u b)
unfolding press_button unless_refused
press_outcome u b = at (refusal (press_checks u b)) refl
  where
    at : (n : ℕ) → refusal (press_checks u b) ≡ n → PressOutcome u b (unless_refused n (carried_out u b) (silent u))
    at zero e = let passed = passed_by (press_checks u b) refl e in accepted (passed not_now) (passed at_its_end)
    at (suc n) e = refused n

-- where Again may be pressed: an FA is still unanswered or declined, or a move was made and none is asked for
pub data MayRepeat (u : Unit) : Type 0 where
  asked : u.phase ≡ Asked → MayRepeat u
  declined : u.phase ≡ Declined → MayRepeat u
  past_start_lem : u.phase ≡ Standing → past_start u ≡ true → MayRepeat u

pub may_repeat_lem : (u : Unit) → may_press u Again ≡ true → MayRepeat u
unfolding same_phase
may_repeat_lem u h = at u.phase refl
  where
    at : (p : Phase) → u.phase ≡ p → MayRepeat u
    at Standing e = past_start_lem e (rw e at h)
    at Asked e = asked e
    at Declined e = declined e
    at Granted e = absurd (false≢true (rw e at h))
    at UnderWay e = absurd (false≢true (rw e at h))
    at Arrived e = absurd (false≢true (rw e at h))

-- an FE or another message that is passed over, or the FE or AFE for the unit's own move when it waits for one
pub data HearOutcome (u : Unit) (f : List ℕ) : Heard → Type 0 where
  refused : (n : ℕ) → HearOutcome u f (heard_with u (suc n))
  fe_passed_over : (m : Move) → read_frame f ≡ Fe m → m.train.0 ≢ u.train.0 → HearOutcome u f (heard_with u 0)
  granted : (m : Move) → read_frame f ≡ Fe m → m ≡ own_move u → awaiting u.phase ≡ true
      → HearOutcome u f (heard_with (in_phase u Granted) 0)
  passed_over : (x : Message) → read_frame f ≡ x → accepted_event x ≡ other → HearOutcome u f (heard_with u 0)
  declined : (m : Move) → read_frame f ≡ Afe m → u.phase ≡ Asked → HearOutcome u f (heard_with (in_phase u Declined) 0)

pub same_move : {t p q t' p' q' : ℕ} → t ≡ t' → p ≡ p' → q ≡ q' → move_of t p q ≡ move_of t' p' q'
same_move a b c = rw (a, b, c)

module _ (u : Unit) (m : Move) where
  own_train : for_move u m ≡ true → for_train u m ≡ true
  unfolding for_move
  own_train h = and_left (for_train u m) _ h

  pub own_move_lem : for_move u m ≡ true → m ≡ own_move u
  unfolding for_move
  own_move_lem h =
      let posts = and_right (for_train u m) _ h in
      let from = and_left (eqb m.from.0 (own_move u).from.0) _ posts in
      let to = and_right (eqb m.from.0 (own_move u).from.0) _ posts in
      same_move (eqb-true _ _ (own_train h)) (eqb-true _ _ from) (eqb-true _ _ to)

module _ (u : Unit) (f : List ℕ) where
  -- by the message, once the checks are passed
  taken : (x : Message) → read_frame f ≡ x → for_unit x ≡ true → awaited u x ≡ true
      → HearOutcome u f (heard_with (in_phase u (phase_after u x)) 0)
  unfolding phase_after
  taken (Fa m) e own w = absurd (false≢true own)
  taken (Fe m) e own w = by_cases (for_move u m)
      (λ h. let z : awaiting u.phase ≡ true = rw (own_train u m h, h) at w in rw h (granted m e (own_move_lem u m h) z))
      (λ h. rw h (fe_passed_over m e (eqb-false _ _ (not_passed (for_train u m) (λ t. false≢true (rw (t, h) at w))))))
  taken (Afe m) e own w = by_cases (for_move u m && same_phase u.phase Asked)
      (λ h. rw h (declined m e (same_phase_lem u.phase Asked (and_right (for_move u m) _ h))))
      (λ h. rw h (passed_over (Afe m) e refl))
  taken (Am m) e own w = absurd (false≢true own)
  taken (La m) e own w = passed_over (La m) e refl
  taken (Le m) e own w = passed_over (Le m) e refl
  taken (Lb m) e own w = passed_over (Lb m) e refl
  taken (Refused n) e own w = absurd (false≢true own)

  pub hear_outcome : HearOutcome u f (hear_frame u f)
  unfolding hear_frame unless_refused
  hear_outcome = at (refusal (hear_checks u f)) refl
    where
      at : (n : ℕ) → refusal (hear_checks u f) ≡ n
          → HearOutcome u f (unless_refused n (heard_with (in_phase u (phase_after u (read_frame f))) 0) (heard_with u))
      at zero e =
          let passed = passed_by (hear_checks u f) refl e in
          taken (read_frame f) refl (passed wrong_end) (passed not_awaited)
      at (suc n) e = refused n
