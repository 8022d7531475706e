-- `put_state` meets its contract. The loop's invariant: the head and the trains passed are in their places.
use Prim.Native.Nat.{◌≤◌}
use Rattle.encoding.specs.StateBytes.{train_at, state_bytes}
use Rattle.placing.proofs.Filled.{Filled}
use Rattle.storing.proofs.state_bytes.put_state.Given as goal

abbrev pub invariant-loop-t : goal.invariant-loop-t
invariant-loop-t l = (l.t ≤ 6) × Filled l.initial.to (state_bytes l.state) l.to (train_at l.t)
