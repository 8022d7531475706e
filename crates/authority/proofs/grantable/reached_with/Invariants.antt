-- `reached_with` meets its contract. The loop's invariant: the posts of the trains passed are stored.
use Prim.Native.Nat.{◌≤◌}
use Rattle.authority.proofs.GrantTest.{Stored}
use Rattle.authority.proofs.grantable.reached_with.Given as goal

abbrev pub invariant-loop-u : goal.invariant-loop-u
invariant-loop-u l = (l.u ≤ l.state.trains) × Stored l.state l.u l.travelled
