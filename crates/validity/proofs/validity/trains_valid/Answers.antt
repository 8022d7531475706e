-- `trains_valid` meets its contract: the records tested are those of the line's trains.
use mathlib.Core.Path.{◌∙◌}
use native.Mathlib.Omega.{arith}
use lib.ListN.{take}
use Rattle.std.proofs.Common.{rules, tests}
use Rattle.std.proofs.lemmas.Iterator.{YieldsList-from_slice}
use Rattle.std.proofs.lemmas.Iterator.Search.{all_from_yields_List}
use Rattle.rules.specs.State.{no_train}
use Rattle.validity.specs.Types.{State}
use Rattle.validity.specs.Tests.{record_valid}
use Rattle.validity.proofs.Records.{first_all}
use Rattle.validity.proofs.validity.trains_valid.Goals as goal

pub returns : goal.returns
returns c =
    let given : State = c.args.state.now in
    all_from_yields_List (record_valid given.posts given.sidings) _ _ _ c.all.ensures.ran
    (YieldsList-from_slice (take given.trains given.fleet) cc)
    (λ x b q k. search (rules, tests))
    ∙ first_all (record_valid given.posts given.sidings) given.fleet no_train given.trains (omega arith)
