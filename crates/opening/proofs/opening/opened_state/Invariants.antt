-- `opening::opened_state` meets its contract. The loop's invariant: the trains passed stand at their starts,
-- on their tracks.
use mathlib.Core.Path.{◌≡◌}
use Rattle.common.specs.Tabulate.{padded}
use Rattle.line.specs.Line.{route_of}
use Rattle.rules.specs.State.{no_train}
use Rattle.rules.specs.Opening.{fresh, opened_track}
use Rattle.opening.proofs.opening.opened_state.Given as goal

abbrev pub invariant-loop-t : goal.invariant-loop-t
invariant-loop-t l =
    l.fleet ≡ padded 6 l.t (λ u. fresh (route_of l.line u) (opened_track l.line u)) no_train
