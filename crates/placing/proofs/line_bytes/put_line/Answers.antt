-- `put_line` meets its contract. The loop's invariant: the head and the routes passed are in their places.
use mathlib.Core.Path.{◌≡◌, ◌∙◌, sym}
use Prim.Native.Nat.{◌+◌}
use native.Mathlib.Omega.{arith}
use lib.ListN.{length}
use borrow.Author.Rules.{rules}
use Rattle.encoding.specs.LineBytes.{line_length, route_at, line_bytes}
use Rattle.encoding.proofs.Fields.{line_length_lem, line_head, at_route}
use Rattle.placing.proofs.Filled.{part_more, filled, head_begun}
use Rattle.placing.proofs.line_bytes.put_line.Goals as goal

pub loop-t-init : goal.loop-t-init
loop-t-init c =
    let eight : length c.args.line.now.tracks ≡ 8 = search rules in
    let six : length c.args.line.now.routes ≡ 6 = search rules in
    let size : length (line_bytes c.args.line.now) ≡ line_length = line_length_lem c.args.line.now eight six in (
      omega arith,
      head_begun _ _ _ _ eight _ (c.requires ∙ sym size) (omega (arith, size))
          c.put_head.ensures (line_head c.args.line.now eight six),
    )

pub loop-t-preserved : goal.loop-t-preserved
loop-t-preserved c =
    let eight : length c.args.line.now.tracks ≡ 8 = search rules in
    let six : length c.args.line.now.routes ≡ 6 = search rules in
    let size : length (line_bytes c.args.line.now) ≡ line_length = line_length_lem c.args.line.now eight six in
    let l = c.args.line.now in
    let t = c.loop-t.t in (
      omega arith,
      part_more c.loop-t.invariant.1 (at_route l eight six t (omega arith)) c.route_ends.ensures
          c.put.ensures.to_after (omega (arith, size)) (route_at (t + 1)) (omega arith),
    )

pub returns : goal.returns
returns c =
    let eight : length c.args.line.now.tracks ≡ 8 = search rules in
    let six : length c.args.line.now.routes ≡ 6 = search rules in
    let size : length (line_bytes c.args.line.now) ≡ line_length = line_length_lem c.args.line.now eight six in
    let written : c.loop-t.to ≡ line_bytes c.args.line.now = filled c.loop-t.invariant.1 (omega (arith, size)) in
    written
