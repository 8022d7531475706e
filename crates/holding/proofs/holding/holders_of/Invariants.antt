-- `holders_of` meets its contract. The loop's invariant: the sets have the holders among the trains passed.
use Rattle.holding.proofs.HolderSets.{Sets}
use Rattle.holding.proofs.holding.holders_of.Given as goal

abbrev pub invariant-loop-t : goal.invariant-loop-t
invariant-loop-t l = Sets l.state l.t l.posts l.sections l.tracks
