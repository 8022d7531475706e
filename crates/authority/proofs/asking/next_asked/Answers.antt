-- `next_asked` meets its contract. The loop's invariant: the best so far is the next one among the trains passed.
use mathlib.Core.Path.{refl}
use native.Mathlib.Numerals.{add-one}
use native.Mathlib.Omega.{arith}
use Rattle.authority.proofs.Askers.{next_more}
use Rattle.authority.proofs.asking.next_asked.Goals as goal

pub loop-t-preserved : goal.loop-t-preserved
loop-t-preserved c = (
  omega arith,
  rw (c.elder-best.ensures, add-one) (next_more c.args.state c.args.from
      c.loop-t.t _ _ refl c.loop-t.invariant.1),
)
