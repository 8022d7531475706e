-- `decline` meets its contract: the asker is still Asked, or it was granted.
use mathlib.Core.Path.{◌≡◌, sym, ap, ◌∙◌}
use Rattle.accepting.specs.Types.{Status}
use Rattle.rules.specs.State.{is_asked, train_of}
use Rattle.authority.specs.Progress.{progress_with}
use Rattle.accepting.proofs.Declining.{declined_asker}
use Rattle.accepting.proofs.accepting.decline.Goals as goal

pub returns-then-is_asked : goal.returns-then-is_asked
returns-then-is_asked c =
    let tested : is_asked (train_of c.args.work.state c.args.m.train.0).status ≡ c.is_asked.result =
    ap (λ (w : Status). is_asked w) (sym c.status_of.ensures) ∙ sym c.is_asked.ensures in
    let work = c.args.work in
    λ w held. c.logged.ensures ∙ ap (progress_with work.state work.batch) c.record_of.ensures
    ∙ declined_asker w _ held _ (tested ∙ c.if-is_asked.true)
