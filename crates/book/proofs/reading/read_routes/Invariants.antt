-- `book::reading::read_routes` meets its contract. The loop's invariant:
-- the routes of the trains passed are stored, and 0 stands at the other places.
use mathlib.Core.Path.{◌≡◌}
use Prim.Native.Nat.{◌≤◌}
use Rattle.common.specs.Tabulate.{padded}
use Rattle.line.specs.Line.{no_route}
use Rattle.line.specs.Book.{route_in}
use Rattle.book.proofs.reading.read_routes.Given as goal

abbrev pub invariant-loop-t : goal.invariant-loop-t
invariant-loop-t l = (l.t ≤ l.trains) × (l.routes ≡ padded 6 l.t (route_in l.book l.at) no_route)
