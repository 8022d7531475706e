-- `routes_on_line` meets its contract: `all` tests the numbers below that of the trains.
use mathlib.Core.Path.{◌∙◌}
use mathlib.Core.Bool.{◌&&◌}
use Prim.Native.Nat.{ℕ}
use native.Mathlib.Omega.{arith}
use lib.Dec.{ltb}
use borrow.Author.Tests.{tests}
use Rattle.std.proofs.Common.{rules}
use Rattle.std.proofs.lemmas.Iterator.{YieldsList-from_range}
use Rattle.std.proofs.lemmas.Iterator.Search.{all_from_yields_List}
use Rattle.line.specs.Line.{route_of}
use Rattle.form.proofs.FormTest.{range_test}
use Rattle.form.proofs.form.routes_on_line.Goals as goal

pub returns : goal.returns
returns c =
    let line = c.args.line.now in
    let test = λ (t : ℕ). ltb (route_of line t).start.0 line.posts && ltb (route_of line t).end.0 line.posts in
    all_from_yields_List test _ _ c.all.result c.all.ensures.ran
    (YieldsList-from_range 0 line.trains line.trains (cc) (omega arith)) (λ x b q k. search (rules, tests))
    ∙ range_test test line.trains
