-- `smallest` meets its contract. The loop's invariant: the tracks passed are held.
use Prim.Native.Nat.{◌≤◌}
use Rattle.common.specs.Bits.{bit_at}
use Rattle.tracks.proofs.Choice.{HeldFrom}
use Rattle.tracks.proofs.free.smallest.Given as goal

abbrev pub invariant-loop-k : goal.invariant-loop-k
invariant-loop-k l = (1 ≤ l.k) × HeldFrom (bit_at l.held) 1 l.k
