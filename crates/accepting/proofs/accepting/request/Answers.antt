-- `request` meets its contract: the train's new record is the definition's, then the granting is, and then its AFE.
use mathlib.Core.Path.{◌≡◌, ap, subst⁻¹, ◌∙◌}
use Prim.Native.Nat.{◌≤◌}
use Rattle.journal.specs.Journal.{journal_length}
use Rattle.accepting.specs.Types.{Fa, Asked, Train, Progress}
use Rattle.rules.specs.State.{train_of, with_status}
use Rattle.rules.specs.Granting.{Work, settled}
use Rattle.rules.specs.Answer.{taken, anew}
use Rattle.authority.specs.Progress.{progress_of}
use Rattle.accepting.proofs.Declining.{ready_train, taken_with, ready_logged}
use Rattle.accepting.proofs.accepting.request.Goals as goal

pub train_of-requires : goal.train_of-requires
train_of-requires c = let a = c.args in ready_train a.state (Fa a.m) _ c.requires

pub take-work-requires-clause-t_bound : goal.take-work-requires-clause-t_bound
take-work-requires-clause-t_bound c =
    let ready = c.requires in (ready_train c.args.state (Fa c.args.m) _ ready, ready.1)

pub decline-requires : goal.decline-requires
decline-requires c =
    let asked : Train = with_status (train_of c.args.state c.args.m.train.0) (Asked c.args.state.logged) in
    let record-made : c.with_status-asked.result ≡ asked = c.with_status-asked.ensures
    ∙ ap (λ (y : Train). with_status y (Asked c.args.state.logged)) c.train_of.ensures in
    let work : Work = settled c.args.table.now (taken c.args.state (Fa c.args.m) asked) in
    let settles : c.take-work.result ≡ progress_of work = c.take-work.ensures
    ∙ taken_with c.args.state (Fa c.args.m) _ c.requires c.args.table.now _
    record-made _ c.record_of.ensures in (
      ready_train c.args.state (Fa c.args.m) asked c.requires,
      subst⁻¹ (λ (p : Progress). p.state.logged ≤ journal_length) settles
          (ready_logged c.args.state (Fa c.args.m) asked c.requires c.args.table.now),
    )

pub returns : goal.returns
unfolding anew
returns c =
    let asked : Train = with_status (train_of c.args.state c.args.m.train.0) (Asked c.args.state.logged) in
    let work : Work = settled c.args.table.now (taken c.args.state (Fa c.args.m) asked) in
    let record-made : c.with_status-asked.result ≡ asked = c.with_status-asked.ensures
    ∙ ap (λ (y : Train). with_status y (Asked c.args.state.logged)) c.train_of.ensures in
    let settles : c.take-work.result ≡ progress_of work = c.take-work.ensures
    ∙ taken_with c.args.state (Fa c.args.m) _ c.requires c.args.table.now _
    record-made _ c.record_of.ensures in
    c.decline.ensures work settles
