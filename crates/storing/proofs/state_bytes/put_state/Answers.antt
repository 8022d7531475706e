-- `put_state` meets its contract. The loop's invariant: the head and the trains passed are in their places.
use mathlib.Core.Path.{◌≡◌, ◌∙◌, sym}
use Prim.Native.Nat.{◌+◌}
use native.Mathlib.Omega.{arith}
use lib.ListN.{length}
use borrow.Author.Rules.{rules}
use Rattle.encoding.specs.StateBytes.{state_length, train_at, state_bytes}
use Rattle.encoding.specs.RoundTrip.{Shaped}
use Rattle.encoding.proofs.Fields.{state_length_lem, state_head, at_train}
use Rattle.placing.proofs.Filled.{part_more, head_begun}
use Rattle.storing.proofs.Ending.{ending_last}
use Rattle.storing.proofs.state_bytes.put_state.Goals as goal

pub loop-t-init : goal.loop-t-init
loop-t-init c =
    let six : length c.args.state.now.fleet ≡ 6 = search rules in
    let shaped : Shaped c.args.state.now = record { eight = search rules; six = six; seven = search rules } in
    let size : length (state_bytes c.args.state.now) ≡ state_length = state_length_lem c.args.state.now shaped in (
      omega arith,
      head_begun _ _ _ _ shaped.eight _ (c.requires ∙ sym size) (omega (arith, size))
          c.put_head.ensures (state_head c.args.state.now shaped),
    )

pub loop-t-preserved : goal.loop-t-preserved
loop-t-preserved c =
    let six : length c.args.state.now.fleet ≡ 6 = search rules in
    let shaped : Shaped c.args.state.now = record { eight = search rules; six = six; seven = search rules } in
    let size : length (state_bytes c.args.state.now) ≡ state_length = state_length_lem c.args.state.now shaped in
    let v = c.args.state.now in
    let t = c.loop-t.t in (
      omega arith,
      part_more c.loop-t.invariant.1 (at_train v shaped t (omega arith)) c.train_bytes.ensures
          c.put.ensures.to_after (omega (arith, size)) (train_at (t + 1)) (omega arith),
    )

pub returns : goal.returns
returns c =
    let six : length c.args.state.now.fleet ≡ 6 = search rules in
    let shaped : Shaped c.args.state.now = record { eight = search rules; six = six; seven = search rules } in
    let written : c.put_ending.new.to ≡ state_bytes c.args.state.now
    = ending_last c.args.state.now shaped c.loop-t.invariant.1
    (omega (arith, c.loop-t.invariant.0, c.loop-t-test.false)) c.put_ending.ensures in
    written
