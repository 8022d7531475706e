-- `encodes_possessions` meets its contract: the bytes of all seven sections are tested.
use mathlib.Core.Path.{refl, ◌∙◌}
use mathlib.Core.Bool.{Bool}
use Prim.Native.Nat.{ℕ}
use lib.Dec.{leb}
use native.Mathlib.Omega.{arith}
use borrow.Author.Rules.{rules}
use borrow.Author.Tests.{tests}
use Rattle.std.proofs.lemmas.Iterator.{YieldsList-from_slice}
use Rattle.std.proofs.lemmas.Iterator.Search.{all_from_yields_List}
use Rattle.encoding.specs.StateBytes.{possessions_at, given_at}
use Rattle.decoding.proofs.Lists.{all_in_part}
use Rattle.decoding.proofs.encodes.encodes_possessions.Goals as goal

pub returns : goal.returns
returns c =
    let test : ℕ → Bool = λ k. leb k 1 in
    all_from_yields_List test _ _ _ c.all.ensures.ran (YieldsList-from_slice _ c.iter.ensures.rest)
    (λ x b q k. search (rules, tests))
    ∙ all_in_part test c.args.bytes.now possessions_at given_at 7 refl (omega arith)
