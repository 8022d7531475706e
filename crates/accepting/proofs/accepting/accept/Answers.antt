-- `accept` meets its contract: a gang's section is lent whatever the table is.
use mathlib.Core.Path.{sym, ap, ◌∙◌}
use Rattle.accepting.specs.Types.{Message}
use Rattle.rules.specs.Answer.{anew}
use Rattle.authority.specs.Progress.{progress_of}
use Rattle.accepting.proofs.accepting.accept.Goals as goal

pub returns-in-La : goal.returns-in-La
returns-in-La c =
    c.lend.ensures c.args.table.now
    ∙ ap (λ (a : Message). progress_of (anew c.args.table.now c.args.state a)) (sym c.in-La.is)
