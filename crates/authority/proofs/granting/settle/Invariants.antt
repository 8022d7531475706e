-- `settle` meets its contract. Outer loop: the work is one that ends as the work it began with, and each turn has one
-- Asked train fewer. Inner loop: nothing is changed, and nobody whose request has a number below `from` can be granted.
use mathlib.Core.Path.{◌≡◌}
use Prim.Native.Nat.{◌-◌}
use Rattle.rules.specs.Granting.{begun}
use Rattle.rules.proofs.Grants.{asked_count}
use Rattle.authority.proofs.Askers.{Tried}
use Rattle.authority.proofs.Working.{Working}
use Rattle.authority.proofs.granting.settle.Given as goal

abbrev pub invariant-loop-asker : goal.invariant-loop-asker
invariant-loop-asker l = record {
  same : l.work ≡ l.initial.work;
  working : Working l.table (begun l.fn.state l.fn.entry) l.work;
  tried : Tried l.table l.work.state l.from;
}

abbrev pub decreases-loop-asker : goal.decreases-loop-asker
decreases-loop-asker l = 256 - l.from

abbrev pub invariant-again : goal.invariant-again
invariant-again l = Working l.table (begun l.fn.state l.fn.entry) l.work

abbrev pub decreases-again : goal.decreases-again
decreases-again l = asked_count l.work.state
