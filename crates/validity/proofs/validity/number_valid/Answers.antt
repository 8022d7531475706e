-- `number_valid` meets its contract: the trains that are asked for their numbers are those before train t.
use mathlib.Core.Path.{sym, ◌∙◌}
use mathlib.Core.Bool.{Bool, not}
use native.Mathlib.Omega.{arith}
use lib.ListN.{take}
use Rattle.std.proofs.Common.{rules, tests}
use Rattle.std.proofs.lemmas.Iterator.{YieldsList-from_slice}
use Rattle.std.proofs.lemmas.Iterator.Search.{all_from_yields_List}
use Rattle.rules.specs.State.{no_train}
use Rattle.rules.specs.Valid.{same_number}
use Rattle.validity.specs.Types.{Status, Train, State}
use Rattle.validity.proofs.Records.{first_all}
use Rattle.validity.proofs.Tested.{number_late, number_decides}
use Rattle.validity.proofs.validity.number_valid.Goals as goal

-- another train's number is not that of a train with status w
abbrev other : Status → Train → Bool
other w x = not (same_number w x.status)

pub returns-then-number_below : goal.returns-then-number_below
returns-then-number_below c =
    let given : State = c.args.state.now in
    let status : Status = c.status_of-status.result in
    number_decides given c.args.t.0 status c.status_of-status.ensures
    (sym c.number_below.ensures ∙ c.if-number_below.true) _
    (all_from_yields_List (other status) _ _ _ c.all.ensures.ran
    (YieldsList-from_slice (take c.args.t.0 given.fleet) cc)
    (λ x b q k. search (rules, tests))
    ∙ first_all (other status) given.fleet no_train c.args.t.0 (omega arith))

pub returns-else-number_below : goal.returns-else-number_below
returns-else-number_below c =
    c.if-number_below.false
    ∙ number_late c.args.state.now c.args.t.0 _ c.status_of-status.ensures
    (sym c.number_below.ensures ∙ c.if-number_below.false)
