-- `on_survey` meets its contract: each sort of report by its tests.
use mathlib.Core.Path.{◌≡◌, sym, ◌∙◌}
use mathlib.Core.List.{List}
use Prim.Native.Nat.{ℕ}
use native.Mathlib.Omega.{arith}
use lib.Ieee.{Float}
use Rattle.line.proofs.InOrder.{bounded}
use Rattle.line.specs.declared.sorts.PostNo.{PostNo}
use Rattle.place.specs.declared.report.Report.TheVariants.{Post, Metres}
use Rattle.place.proofs.Cases.{post_off, post_on, metres_off, metres_on, is_missing}
use Rattle.locating.proofs.locating.on_survey.Goals as goal

pub returns-then-posts-post : goal.returns-then-posts-post
returns-then-posts-post c =
    let posts : ℕ = c.args.posts in
    let positions : List ℕ = c.args.positions in
    let post : PostNo = c.in-Post.post in
    let is-post : c.args.report ≡ Post post = c.in-Post.is in
    rw is-post (post_off posts positions post c.if-posts-post.true)

pub on_line-requires : goal.on_line-requires
on_line-requires c =
    let given = c.requires in
    bounded _ _ given.ordered _ (omega (arith, given.some))

pub returns-then-not-on_line : goal.returns-then-not-on_line
returns-then-not-on_line c =
    let x : Float = c.in-Metres.x in
    let is-metres : c.args.report ≡ Metres x = c.in-Metres.is in
    let args = c.args in
    let off = sym c.on_line.ensures ∙ c.if-not-on_line.true in
    rw is-metres (metres_off args.posts args.positions x off)

pub returns-else-posts-post : goal.returns-else-posts-post
returns-else-posts-post c =
    let posts : ℕ = c.args.posts in
    let positions : List ℕ = c.args.positions in
    let post : PostNo = c.in-Post.post in
    let is-post : c.args.report ≡ Post post = c.in-Post.is in
    rw is-post (post_on posts positions post c.if-posts-post.false)

pub returns-else-not-on_line : goal.returns-else-not-on_line
returns-else-not-on_line c =
    let x : Float = c.in-Metres.x in
    let is-metres : c.args.report ≡ Metres x = c.in-Metres.is in
    let args = c.args in
    let on = sym c.on_line.ensures ∙ c.if-not-on_line.false in
    rw (is-metres, c.placed_at.ensures) (metres_on args.posts args.positions x on)

pub returns-in-Missing : goal.returns-in-Missing
returns-in-Missing c =
    let args = c.args in
    rw c.in-Missing.is (is_missing args.posts args.positions)
