-- The numbers that a unit may have, and the unit that is made of them.
use mathlib.Core.Path.{◌≡◌}
use mathlib.Core.Bool.{true, false}
use Prim.Native.Nat.{ℕ}
use native.Mathlib.Omega.{arith}
use Rattle.common.proofs.Check.{none, stop, pass, accepted_by, refused_by_lem}
use Rattle.line.specs.Refusal.{off_the_line}
use Rattle.driver.specs.Types.{Unit}
use Rattle.driver.specs.State.{numbers_fit}
use Rattle.driver.specs.Making.{standing_unit, empty_unit, made, make_unit}

module _ (t a e : ℕ) where
  pub makes : numbers_fit t a e ≡ true → (u : Unit) → u ≡ standing_unit t a e → made u 0 ≡ make_unit t a e
  unfolding make_unit
  makes h u p = rw p (accepted_by (made (standing_unit t a e) 0) (made empty_unit) (pass h none))

  pub makes_none : numbers_fit t a e ≡ false → (u : Unit) → u ≡ empty_unit → made u off_the_line ≡ make_unit t a e
  unfolding make_unit
  makes_none h u p = rw p (refused_by_lem (made (standing_unit t a e) 0) (made empty_unit) (omega arith) (stop h))
