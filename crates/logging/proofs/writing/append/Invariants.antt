-- `logging::append` meets its contract. The loop's invariant: the first k records of the batch stand in their places.
use mathlib.Core.Path.{◌≡◌}
use Prim.Native.Nat.{◌≤◌}
use Rattle.journal.proofs.Appended.{written}
use Rattle.logging.proofs.writing.append.Given as goal

abbrev pub invariant-loop-k : goal.invariant-loop-k
invariant-loop-k l = (l.k ≤ l.n) × (l.journal ≡ written l.initial.journal l.at l.batch l.k)
