-- `numbers_valid` meets its contract. The loop's invariant: the numbers of the trains passed are valid.
use mathlib.Core.Path.{sym, ◌∙◌}
use native.Mathlib.Omega.{arith}
use Rattle.common.proofs.Below.{passing_fails, passing_all}
use Rattle.validity.proofs.validity.numbers_valid.Goals as goal

pub returns-then-not-number_valid : goal.returns-then-not-number_valid
returns-then-not-number_valid c = passing_fails c.loop-t.invariant (omega arith)
    (sym c.number_valid.ensures ∙ c.if-not-number_valid.true)

pub returns : goal.returns
returns c = passing_all c.loop-t.invariant (omega arith)
