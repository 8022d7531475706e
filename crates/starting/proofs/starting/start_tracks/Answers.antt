-- `start_tracks` meets its contract. The loop's invariant: the trains passed have their tracks, and each post's set has
-- those that they hold there.
use mathlib.Core.Path.{◌≡◌, ◌∙◌}
use Prim.Native.Nat.{◌<◌}
use native.Mathlib.Omega.{arith}
use Rattle.common.proofs.Tabulate.{padded_none, padded_more}
use Rattle.line.specs.Line.{route_of}
use Rattle.line.proofs.WellFormed.{well_formed_lem}
use Rattle.rules.specs.Opening.{opened_track}
use Rattle.starting.proofs.StartTracks.{six_tracks, held_none, post_few, tracks_few}
use Rattle.starting.proofs.StartTracks.{start_found, held_more}
use Rattle.starting.proofs.starting.start_tracks.Goals as goal
use Rattle.starting.proofs.starting.start_tracks.Goals.{In-loop-t}

pub loop-t-init : goal.loop-t-init
loop-t-init c = (padded_none 6 (opened_track c.args.line) 0, held_none c.args.line)

-- the train has a place, and its post too
place : (c : In-loop-t) → c.loop-t.t < 6
place c = let w = well_formed_lem c.args.line c.requires in omega arith

post : (c : In-loop-t) → (route_of c.args.line c.loop-t.t).start.0 < 8
post c = post_few c.args.line c.requires c.loop-t.t c.loop-t-test.true

pub bounds-line-t : goal.bounds-line-t
bounds-line-t c = place (goal.at.bounds-line-t c).In-loop-t

pub bounds-held-p : goal.bounds-held-p
bounds-held-p c = post (goal.at.bounds-held-p c).In-loop-t

pub bounds-line-p : goal.bounds-line-p
bounds-line-p c = post (goal.at.bounds-line-p c).In-loop-t

pub start_track-track-requires : goal.start_track-track-requires
start_track-track-requires c = tracks_few c.args.line c.requires c.loop-t.t c.loop-t-test.true

pub bounds-starts-t : goal.bounds-starts-t
bounds-starts-t c = place (goal.at.bounds-starts-t c).In-loop-t

pub bounds-held-p-in-loop-t : goal.bounds-held-p-in-loop-t
bounds-held-p-in-loop-t c = post (goal.at.bounds-held-p-in-loop-t c).In-loop-t

pub bounds-held-p-in-loop-t-2 : goal.bounds-held-p-in-loop-t-2
bounds-held-p-in-loop-t-2 c = post (goal.at.bounds-held-p-in-loop-t-2 c).In-loop-t

pub loop-t-preserved : goal.loop-t-preserved
loop-t-preserved c =
    let line = c.args.line in
    let t = c.loop-t.t in
    let known : t < line.trains = c.loop-t-test.true in
    let is = start_found line c.requires t known c.loop-t.held c.loop-t.invariant.1 _ c.start_track-track.ensures in (
      rw (c.loop-t.invariant.0, is)
          (padded_more 6 (opened_track line) 0 t (place (goal.at.loop-t-preserved c).In-loop-t)),
      rw (c.with_track.ensures, is) (held_more line c.requires t known c.loop-t.held c.loop-t.invariant.1),
    )

pub returns : goal.returns
returns c =
    let l = c.args.line in
    let all : c.loop-t.t ≡ l.trains = omega arith in
    (rw all at c.loop-t.invariant.0) ∙ six_tracks l
