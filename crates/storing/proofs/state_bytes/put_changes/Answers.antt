-- `put_changes` meets its contract. The loop's invariant: the line is there, the trains passed are in their places, and
-- what comes after them is as it was.
use mathlib.Core.Path.{◌≡◌, sym, ◌∙◌}
use Prim.Native.Nat.{◌+◌}
use native.Mathlib.Omega.{arith}
use lib.ListN.{length}
use borrow.Author.Rules.{rules}
use Rattle.encoding.specs.Parts.{head_length}
use Rattle.encoding.specs.LineBytes.{route_length}
use Rattle.encoding.specs.StateBytes.{state_length, train_at, state_bytes}
use Rattle.encoding.specs.RoundTrip.{Shaped}
use Rattle.encoding.proofs.Fields.{state_head_length, state_length_lem, state_head, at_ends, at_standing}
use Rattle.encoding.proofs.Reading.{head_kept, route_kept}
use Rattle.placing.proofs.Filled.{none_filled, already, part_more}
use Rattle.storing.proofs.Ending.{six_trains, ending_last}
use Rattle.storing.proofs.state_bytes.put_changes.Goals as goal

pub loop-t-init : goal.loop-t-init
loop-t-init c =
    let six = six_trains c.args.to.now c.args.state.now c.requires.1 in
    let shaped : Shaped c.args.state.now = record { eight = search rules; six = six; seven = search rules } in
    let size : length (state_bytes c.args.state.now) ≡ state_length = state_length_lem c.args.state.now shaped in
    let v = c.args.state.now in
    let eleven = state_head_length v shaped in (
      omega arith,
      already (none_filled (c.requires.0 ∙ sym size)) (head_kept c.args.to.now v c.requires.1)
          (state_head v shaped) head_length (omega (arith, eleven)),
    )

pub loop-t-preserved : goal.loop-t-preserved
loop-t-preserved c =
    let six = six_trains c.args.to.now c.args.state.now c.requires.1 in
    let shaped : Shaped c.args.state.now = record { eight = search rules; six = six; seven = search rules } in
    let size : length (state_bytes c.args.state.now) ≡ state_length = state_length_lem c.args.state.now shaped in
    let v = c.args.state.now in
    let t = c.loop-t.t in
    let route = already c.loop-t.invariant.1 (route_kept c.args.to.now v c.requires.1 t (omega arith))
    (at_ends v shaped t (omega arith)) (train_at t + route_length) (omega arith) in (
      omega arith,
      part_more route (at_standing v shaped t (omega arith)) c.standing_bytes.ensures c.put.ensures.to_after
          (omega (arith, size)) (train_at (t + 1)) (omega arith),
    )

pub returns : goal.returns
returns c =
    let six = six_trains c.args.to.now c.args.state.now c.requires.1 in
    let shaped : Shaped c.args.state.now = record { eight = search rules; six = six; seven = search rules } in
    let written : c.put_ending.new.to ≡ state_bytes c.args.state.now
    = ending_last c.args.state.now shaped c.loop-t.invariant.1
    (omega (arith, c.loop-t.invariant.0, c.loop-t-test.false)) c.put_ending.ensures in
    written
