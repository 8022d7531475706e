-- `next_asked` meets its contract. The loop's invariant: the best so far is the next one among the trains passed.
use Prim.Native.Nat.{◌≤◌}
use Rattle.authority.specs.Asking.{NextAsked}
use Rattle.authority.proofs.asking.next_asked.Given as goal

abbrev pub invariant-loop-t : goal.invariant-loop-t
invariant-loop-t l = (l.t ≤ l.state.trains) × NextAsked l.state l.from l.t l.best
