-- `nearer` meets its contract: half the sum of the positions is a number of the format, and the middle between them.
use mathlib.Core.Path.{◌∙◌}
use native.Mathlib.Omega.{arith}
use Rattle.locating.proofs.Exact.{whole_fits, in_order, by_middle}
use Rattle.locating.proofs.metres.nearer.Goals as goal

pub overflow_add-low : goal.overflow_add-low
overflow_add-low c = omega (arith, in_order _ _ _ c.requires.0, c.requires.1)

pub int_to_float-low : goal.int_to_float-low
int_to_float-low c = whole_fits _ (omega (arith, in_order _ _ _ c.requires.0, c.requires.1))

pub returns-then-x-low : goal.returns-then-x-low
returns-then-x-low c =
    rw (by_middle _ _ _ c.requires.0 c.requires.1 ∙ c.if-x-low.true)

pub returns : goal.returns
returns c =
    rw (by_middle _ _ _ c.requires.0 c.requires.1 ∙ c.if-x-low.false)
