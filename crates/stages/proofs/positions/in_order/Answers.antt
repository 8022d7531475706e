-- `in_order` meets its contract: `all` tests each post from the second on against the one before it.
use mathlib.Core.Path.{◌∙◌}
use Prim.Native.Nat.{◌-◌}
use native.Mathlib.Omega.{arith}
use borrow.Author.Tests.{tests}
use Rattle.std.proofs.Common.{rules}
use Rattle.std.proofs.lemmas.Iterator.{YieldsList-from_range}
use Rattle.std.proofs.lemmas.Iterator.Search.{all_from_yields_List}
use Rattle.stages.proofs.Ordered.{rises, order_test}
use Rattle.stages.proofs.positions.in_order.Goals as goal

pub returns-then-positions-eq-FIRST_METRES : goal.returns-then-positions-eq-FIRST_METRES
returns-then-positions-eq-FIRST_METRES c =
    let ps = c.args.positions.now in
    let n = c.args.given in
    all_from_yields_List (rises ps) _ _ c.all.result c.all.ensures.ran
    (YieldsList-from_range 1 n (n - 1) (cc) (omega arith)) (λ x b q k. search (rules, tests))
    ∙ order_test n ps (omega arith)
