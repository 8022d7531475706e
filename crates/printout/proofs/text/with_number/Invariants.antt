-- The digits from `first` on are written, and those of `rest` come before them.
use Rattle.printout.proofs.Decimals.{Written}
use Rattle.printout.proofs.text.with_number.Given as goal

abbrev pub invariant-loop-first : goal.invariant-loop-first
invariant-loop-first l = Written l.n l.first l.rest l.digits
