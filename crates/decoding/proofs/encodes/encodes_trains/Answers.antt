-- `encodes_trains` meets its contract: the numbers of all six trains are tested.
use mathlib.Core.Path.{refl, ◌∙◌}
use mathlib.Core.Bool.{Bool}
use Prim.Native.Nat.{ℕ}
use borrow.Author.Rules.{rules}
use borrow.Author.Tests.{tests}
use Rattle.std.proofs.lemmas.Iterator.{YieldsList-from_range}
use Rattle.std.proofs.lemmas.Iterator.Search.{all_from_yields_List}
use Rattle.encoding.specs.StateBytes.{train_at, encodes_train}
use Rattle.decoding.proofs.Lists.{all_in_range}
use Rattle.decoding.proofs.encodes.encodes_trains.Goals as goal

pub returns : goal.returns
returns c =
    let test : ℕ → Bool = λ t. encodes_train c.args.bytes.now (train_at t) in
    all_from_yields_List test _ _ _ c.all.ensures.ran (YieldsList-from_range 0 6 6 refl refl)
    (λ t b q k. search (rules, tests))
    ∙ all_in_range test 6
