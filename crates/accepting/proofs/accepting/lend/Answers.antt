-- `lend` meets its contract: the section is the one that is named, the LA is logged with it, and then the LE.
use mathlib.Core.Path.{◌≡◌, ap, ◌∙◌}
use mathlib.Core.Bool.{true}
use Prim.Native.Nat.{◌+◌}
use Rattle.journal.specs.Journal.{empty_batch, record_of}
use Rattle.accepting.specs.Types.{La, State, Progress}
use Rattle.rules.specs.State.{with_possession}
use Rattle.authority.specs.Progress.{progress_with}
use Rattle.accepting.proofs.Lending.{possession_named, lent_told}
use Rattle.accepting.proofs.accepting.lend.Goals as goal

pub returns : goal.returns
returns c =
    let after : State = c.with_possession-lent.result in
    let lent : let s = c.args.state in
    after ≡ with_possession s c.args.m.from.0 true (s.given + 1) =
    possession_named _ _ c.requires.0 _ c.section.ensures after _ _
    c.with_possession-lent.ensures in
    let asked : c.logged-asked.result ≡ progress_with after empty_batch (record_of (La c.args.m)) =
    c.logged-asked.ensures
    ∙ ap (progress_with c.new.result.state c.new.result.batch) c.record_of.ensures
    ∙ ap (λ (p : Progress). progress_with p.state p.batch (record_of (La c.args.m))) c.new.ensures in
    λ table.
    c.logged.ensures
    ∙ ap (progress_with c.logged-asked.result.state c.logged-asked.result.batch) c.record_of-2.ensures
    ∙ lent_told _ _ _ lent _ asked table
