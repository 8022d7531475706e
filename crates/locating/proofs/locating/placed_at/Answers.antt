-- `placed_at` meets its contract: at the post reached, or in the section past it, whose other post is on the line.
use mathlib.Core.Path.{sym, ◌∙◌}
use Prim.Native.Nat.{◌+◌, ◌<◌}
use native.Mathlib.Omega.{arith}
use Rattle.line.proofs.InOrder.{bounded}
use Rattle.place.proofs.Placed.{number_from_zero, post_on_line, short, within}
use Rattle.locating.proofs.locating.placed_at.Goals as goal

pub bounds-positions-i : goal.bounds-positions-i
bounds-positions-i c =
    let given = c.requires in
    let on_line : c.reached-p.result < c.args.posts = post_on_line _ _ c.args.x given.0 given.1 _ c.reached-p.ensures in
    omega (arith, on_line, given.0.few)

pub is_at-requires : goal.is_at-requires
is_at-requires c =
    let given = c.requires in (
      number_from_zero _ _ c.args.x given.0 given.1,
      bounded _ _ given.0.ordered _ (post_on_line _ _ c.args.x given.0 given.1 _ c.reached-p.ensures),
    )

pub bounds-positions-i-2 : goal.bounds-positions-i-2
bounds-positions-i-2 c =
    let given = c.requires in
    let off = sym c.is_at.ensures ∙ c.if-is_at.false in
    let next : c.reached-p.result + 1 < c.args.posts = short _ _ c.args.x given.0 given.1 _ c.reached-p.ensures off in
    omega (arith, next, given.0.few)

pub bounds-positions-i-3 : goal.bounds-positions-i-3
bounds-positions-i-3 c =
    let given = c.requires in
    let off = sym c.is_at.ensures ∙ c.if-is_at.false in
    let next : c.reached-p.result + 1 < c.args.posts = short _ _ c.args.x given.0 given.1 _ c.reached-p.ensures off in
    omega (arith, next, given.0.few)

pub nearer-near-requires : goal.nearer-near-requires
nearer-near-requires c =
    let given = c.requires in
    let off = sym c.is_at.ensures ∙ c.if-is_at.false in
    let next : c.reached-p.result + 1 < c.args.posts = short _ _ c.args.x given.0 given.1 _ c.reached-p.ensures off in (
      within _ _ c.args.x given.0 given.1 _ c.reached-p.ensures off,
      bounded _ _ given.0.ordered _ next,
      omega (arith, next, given.0.few),
    )
