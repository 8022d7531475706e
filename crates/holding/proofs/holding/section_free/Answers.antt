-- `section_free` meets its contract: the holders of the section are counted, its gang among them.
use mathlib.Core.Path.{ap, ◌∙◌}
use Prim.Native.Nat.{ℕ}
use lib.Dec.{eqb}
use Rattle.holding.proofs.HolderSets.{section_counted}
use Rattle.holding.proofs.holding.section_free.Goals as goal

pub returns : goal.returns
returns c =
    ap (λ (n : ℕ). eqb n 0) (c.holders_in.ensures
    ∙ section_counted c.args.state _ c.requires.2 c.args.i.0 c.requires.1 _ c.possessed.ensures)
