-- `put_line` meets its contract. The loop's invariant: the head and the routes passed are in their places.
use Prim.Native.Nat.{◌≤◌}
use Rattle.encoding.specs.LineBytes.{route_at, line_bytes}
use Rattle.placing.proofs.Filled.{Filled}
use Rattle.placing.proofs.line_bytes.put_line.Given as goal

abbrev pub invariant-loop-t : goal.invariant-loop-t
invariant-loop-t l = (l.t ≤ 6) × Filled l.initial.to (line_bytes l.line) l.to (route_at l.t)
