-- `run_text` meets its contract: each turn adds the line of the next record.
use Rattle.printout.proofs.Records.{Printed}
use Rattle.printout.proofs.printing.run_text.Given as goal

abbrev pub invariant-loop-i : goal.invariant-loop-i
invariant-loop-i l = Printed l.log.records l.i l.text
