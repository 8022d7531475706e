-- `start_tracks` meets its contract. The loop's invariant: the trains passed have their tracks, and each post's set has
-- those that they hold there.
use mathlib.Core.Path.{◌≡◌}
use Rattle.common.specs.Tabulate.{padded}
use Rattle.rules.specs.Opening.{opened_track}
use Rattle.starting.proofs.StartTracks.{HeldTracks}
use Rattle.starting.proofs.starting.start_tracks.Given as goal

abbrev pub invariant-loop-t : goal.invariant-loop-t
invariant-loop-t l =
    (l.starts ≡ padded 6 l.t (opened_track l.line) 0) × HeldTracks l.line l.t l.held
