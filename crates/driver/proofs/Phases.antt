-- Laws of phases: two of the same number are the same, and who awaits an FE is not Standing.
use mathlib.Core.Path.{◌≡◌, refl, sym, ap, ◌∙◌}
use mathlib.Core.Bool.{true, false, false≢true}
use Prim.Native.Nat.{ℕ, zero, suc}
use borrow.Author.Tests.{eqb-true}
use Rattle.driver.specs.Types.{Phase, Standing, Asked, Declined, Granted, UnderWay, Arrived}
use Rattle.driver.specs.State.{phase_no, same_phase, awaiting}

-- the phase of a number
phase_of : ℕ → Phase
phase_of zero = Standing
phase_of (suc zero) = Asked
phase_of (suc (suc zero)) = Declined
phase_of (suc (suc (suc zero))) = Granted
phase_of (suc (suc (suc (suc zero)))) = UnderWay
phase_of (suc (suc (suc (suc (suc n))))) = Arrived

phase_of_lem : (p : Phase) → phase_of (phase_no p) ≡ p
unfolding phase_of
phase_of_lem Standing = refl
phase_of_lem Asked = refl
phase_of_lem Declined = refl
phase_of_lem Granted = refl
phase_of_lem UnderWay = refl
phase_of_lem Arrived = refl

pub same_phase_lem : (p q : Phase) → same_phase p q ≡ true → p ≡ q
unfolding same_phase
same_phase_lem p q h = sym (phase_of_lem p) ∙ ap phase_of (eqb-true (phase_no p) (phase_no q) h) ∙ phase_of_lem q

pub awaiting_not_standing : (p : Phase) → awaiting p ≡ true → same_phase p Standing ≡ false
unfolding same_phase
awaiting_not_standing Standing h = absurd (false≢true h)
awaiting_not_standing Asked h = refl
awaiting_not_standing Declined h = refl
awaiting_not_standing Granted h = refl
awaiting_not_standing UnderWay h = refl
awaiting_not_standing Arrived h = refl
