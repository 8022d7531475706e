-- `read_positions` meets its contract. The loop's invariant:
-- the positions of the posts passed are stored, and 0 stands at the other places.
use mathlib.Core.Path.{◌≡◌}
use Prim.Native.Nat.{◌≤◌}
use Rattle.common.specs.Tabulate.{padded}
use Rattle.line.specs.Book.{position_in}
use Rattle.stages.proofs.positions.read_positions.Given as goal

abbrev pub invariant-loop-p : goal.invariant-loop-p
invariant-loop-p l =
    (l.p ≤ l.given) × (l.positions ≡ padded 8 l.p (position_in l.book l.posts) 0)
