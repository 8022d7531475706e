-- `largest` meets its contract. The loop's invariant: the tracks passed are held.
use Prim.Native.Nat.{◌+◌, ◌≤◌}
use Rattle.common.specs.Bits.{bit_at}
use Rattle.tracks.proofs.Choice.{HeldFrom}
use Rattle.tracks.proofs.free.largest.Given as goal

abbrev pub invariant-loop-k : goal.invariant-loop-k
invariant-loop-k l = (l.k ≤ l.tracks) × HeldFrom (bit_at l.held) (l.k + 1) (l.tracks + 1)
