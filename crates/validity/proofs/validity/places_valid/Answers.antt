-- `places_valid` meets its contract. The loop's invariant: the posts passed, and the sections after them, have no more
-- holders than they may, each on a track of its own.
use mathlib.Core.Path.{sym, ◌∙◌}
use Prim.Native.Nat.{◌<◌}
use native.Mathlib.Omega.{arith}
use Rattle.common.proofs.Below.{passing_more, passing_fails, passing_all}
use Rattle.validity.proofs.Tested.{beyond, place_tested}
use Rattle.validity.proofs.validity.places_valid.Goals as goal

pub returns-then-not-held_within : goal.returns-then-not-held_within
returns-then-not-held_within c =
    let low : c.loop-p.p < 8 = omega (arith, c.requires.0, c.loop-p-test.true) in
    passing_fails c.loop-p.invariant (omega arith)
    (beyond c.args.state.now _ c.holders_of-holders.ensures c.loop-p.p low
    _ c.possessed_of-gang.ensures (sym c.held_within.ensures ∙ c.if-not-held_within.true))

pub returns-then-not-own_tracks : goal.returns-then-not-own_tracks
returns-then-not-own_tracks c =
    let low : c.loop-p.p < 8 = omega (arith, c.requires.0, c.loop-p-test.true) in
    let within = sym c.held_within.ensures ∙ c.if-not-held_within.false in
    passing_fails c.loop-p.invariant (omega arith)
    (place_tested c.args.state.now _ c.holders_of-holders.ensures c.loop-p.p low
    _ c.possessed_of-gang.ensures within _ c.own_tracks.ensures ∙ c.if-not-own_tracks.true)

pub loop-p-preserved : goal.loop-p-preserved
loop-p-preserved c =
    let low : c.loop-p.p < 8 = omega (arith, c.requires.0, c.loop-p-test.true) in
    let within = sym c.held_within.ensures ∙ c.if-not-held_within.false in
    passing_more c.loop-p.invariant (omega arith)
    (place_tested c.args.state.now _ c.holders_of-holders.ensures c.loop-p.p low
    _ c.possessed_of-gang.ensures within _ c.own_tracks.ensures ∙ c.if-not-own_tracks.false)

pub returns : goal.returns
returns c = passing_all c.loop-p.invariant (omega arith)
