-- `numbers_valid` meets its contract. The loop's invariant: the numbers of the trains passed are valid.
use Rattle.common.proofs.Below.{Passing}
use Rattle.rules.specs.Valid.{number_valid}
use Rattle.validity.proofs.validity.numbers_valid.Given as goal

abbrev pub invariant-loop-t : goal.invariant-loop-t
invariant-loop-t l = Passing l.state.trains (number_valid l.state) l.t
