-- Each turn takes what the reader gives.
use Rattle.console.specs.Console.{desk_of}
use Rattle.descriptor.specs.Reading.{TakesOf}
use Rattle.descriptor.proofs.reading.read_all.Given as goal

abbrev pub invariant-loop : goal.invariant-loop
invariant-loop g l =
    TakesOf (g.R.Read.remaining l.initial.input) (g.R.Read.remaining l.input)
    (desk_of l.initial.console l.initial.table) (desk_of l.console l.table)
