-- `arrival` meets its contract: the train's new record is the definition's, and then the granting is.
use mathlib.Core.Path.{◌≡◌, ap, ◌∙◌}
use Rattle.accepting.specs.Types.{Am, Train}
use Rattle.rules.specs.State.{train_of, arrived_next}
use Rattle.rules.specs.Answer.{anew}
use Rattle.accepting.proofs.Declining.{ready_train, taken_with}
use Rattle.accepting.proofs.accepting.arrival.Goals as goal

pub train_of-requires : goal.train_of-requires
train_of-requires c = let a = c.args in ready_train a.state (Am a.m) _ c.requires

pub take-requires-clause-t_bound : goal.take-requires-clause-t_bound
take-requires-clause-t_bound c =
    let ready = c.requires in (ready_train c.args.state (Am c.args.m) _ ready, ready.1)

pub returns : goal.returns
unfolding anew
returns c =
    let free : Train = arrived_next c.args.state.sidings (train_of c.args.state c.args.m.train.0) in
    let record-made : c.arrived-free.result ≡ free =
    c.arrived-free.ensures ∙ ap (arrived_next c.args.state.sidings) c.train_of.ensures in
    c.take.ensures
    ∙ taken_with c.args.state (Am c.args.m) _ c.requires c.args.table.now _
    record-made _ c.record_of.ensures
