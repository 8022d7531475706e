-- `book::reading::read_routes` meets its contract. The loop's invariant:
-- the routes of the trains passed are stored, and 0 stands at the other places.
use native.Mathlib.Omega.{arith}
use Rattle.common.proofs.Tabulate.{padded_none, padded_more}
use Rattle.line.specs.Line.{no_route}
use Rattle.book.proofs.reading.read_routes.Goals as goal

pub loop-t-init : goal.loop-t-init
loop-t-init c = (omega arith, padded_none 6 _ no_route)

pub loop-t-preserved : goal.loop-t-preserved
loop-t-preserved c =
    (omega arith, rw c.loop-t.invariant.1 (padded_more 6 _ no_route c.loop-t.t (omega arith)))
