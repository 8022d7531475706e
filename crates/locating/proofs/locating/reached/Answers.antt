-- `reached` meets its contract: from the last post down, none that is passed over has been reached, and post 0 is left
-- where no other is.
use mathlib.Core.Path.{sym, ◌∙◌}
use native.Mathlib.Omega.{arith}
use lib.Ieee.{Float}
use Rattle.line.proofs.InOrder.{bounded}
use Rattle.place.proofs.Reached.{reached_here, reached_before, reached_none}
use Rattle.place.proofs.Placed.{number_from_zero}
use Rattle.locating.proofs.locating.reached.Goals as goal

pub is_below-requires : goal.is_below-requires
is_below-requires c =
    let x : Float = c.args.x in
    let given = c.requires in (
      number_from_zero _ _ x given.0 given.1,
      bounded _ _ given.0.ordered _ (omega (arith, c.loop-p.invariant.0)),
    )

pub returns-then-not-is_below : goal.returns-then-not-is_below
returns-then-not-is_below c =
    let here = sym c.is_below.ensures ∙ c.if-not-is_below.true in
    sym (c.loop-p.invariant.1 ∙ reached_here _ _ _ here)

pub loop-p-preserved : goal.loop-p-preserved
loop-p-preserved c =
    let past = sym c.is_below.ensures ∙ c.if-not-is_below.false in
    (omega (arith, c.loop-p.invariant.0), c.loop-p.invariant.1 ∙ reached_before _ _ _ past)

pub returns : goal.returns
returns c = sym (c.loop-p.invariant.1 ∙ reached_none _ _ _ (omega (arith, c.loop-p-test.false)))
