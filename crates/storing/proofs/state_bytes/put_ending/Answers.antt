-- `put_ending` meets its contract. The loop's invariant: the sections passed are in their places, and all else is as it
-- was.
use mathlib.Core.Path.{◌≡◌}
use native.Mathlib.Omega.{arith}
use lib.ListN.{length, set}
use borrow.Author.Rules.{rules}
use Rattle.common.specs.Part.{replaced}
use Rattle.encoding.specs.StateBytes.{ending_bytes, possessions_at, given_at, logged_at}
use Rattle.storing.proofs.Ending.{ending_begun, section_more, ending_put}
use Rattle.storing.proofs.state_bytes.put_ending.Goals as goal

pub loop-i-init : goal.loop-i-init
loop-i-init c =
    let seven : length c.args.state.now.possessions ≡ 7 = search rules in
    (omega arith, ending_begun c.args.state.now seven c.args.to.now c.requires)

pub loop-i-preserved : goal.loop-i-preserved
loop-i-preserved c =
    let seven : length c.args.state.now.possessions ≡ 7 = search rules in (
      omega arith,
      section_more c.args.state.now seven c.args.to.now c.requires c.loop-i.invariant.1 (omega arith) _ c.from.ensures,
    )

pub returns : goal.returns
returns c =
    let seven : length c.args.state.now.possessions ≡ 7 = search rules in
    let written : set (set c.loop-i.to given_at c.args.state.now.given) logged_at c.args.state.now.logged
    ≡ replaced c.args.to.now possessions_at (ending_bytes c.args.state.now) =
    ending_put c.args.state.now seven c.args.to.now c.requires c.loop-i.invariant.1
    (omega (arith, c.loop-i.invariant.0, c.loop-i-test.false)) in
    written
