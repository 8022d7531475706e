-- `put_changes` meets its contract. The loop's invariant: the line is there, the trains passed are in their places, and
-- what comes after them is as it was.
use Prim.Native.Nat.{◌≤◌}
use Rattle.encoding.specs.StateBytes.{train_at, state_bytes}
use Rattle.placing.proofs.Filled.{Filled}
use Rattle.storing.proofs.state_bytes.put_changes.Given as goal

abbrev pub invariant-loop-t : goal.invariant-loop-t
invariant-loop-t l = (l.t ≤ 6) × Filled l.initial.to (state_bytes l.state) l.to (train_at l.t)
