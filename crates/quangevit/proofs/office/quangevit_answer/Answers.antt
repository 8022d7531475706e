-- `quangevit_answer` meets its contract: the bytes encode no state; or the frame is refused, and nothing is written; or
-- the records of the step and its state are written as bytes.
use mathlib.Core.Path.{◌≡◌, sym, ap, ◌∙◌}
use mathlib.Core.Bool.{true}
use Rattle.encoding.specs.StateBytes.{encodes_state}
use Rattle.encoding.proofs.Statuses.{encoded_length}
use Rattle.calls.proofs.BoxSteps.{not_answered}
use Rattle.quangevit.proofs.Answering.{verdict_word, answered, same_line, answer_refused}
use Rattle.quangevit.proofs.office.quangevit_answer.Goals as goal

pub returns-then-not-encodes_state : goal.returns-then-not-encodes_state
returns-then-not-encodes_state c =
    let a = c.args in
    not_answered a.state.now a.table.now a.journal.now a.frame.now a.out.now
    (sym c.encodes_state.ensures ∙ c.if-not-encodes_state.true) _ c.word_of.ensures

pub state_in-before-requires : goal.state_in-before-requires
state_in-before-requires c =
    let encoded : encodes_state c.args.state.now ≡ true = sym c.encodes_state.ensures ∙ c.if-not-encodes_state.false in
    encoded_length _ encoded

pub put_changes-requires : goal.put_changes-requires
put_changes-requires c =
    let encoded : encodes_state c.args.state.now ≡ true = sym c.encodes_state.ensures ∙ c.if-not-encodes_state.false in
    let a = c.args in (
      encoded_length _ encoded,
      same_line a.state.now a.table.now a.journal.now a.frame.now a.out.now _
          c.state_in-before.ensures _ _ c.step-outcome.ensures,
    )

pub returns-in-Err : goal.returns-in-Err
returns-in-Err c =
    let encoded : encodes_state c.args.state.now ≡ true = sym c.encodes_state.ensures ∙ c.if-not-encodes_state.false in
    let a = c.args in
    answer_refused a.state.now a.table.now a.journal.now a.frame.now a.out.now
    encoded _ c.state_in-before.ensures _ _ c.step-outcome.ensures _ c.in-Err.is _
    c.word_of-in-Err.ensures

pub returns-in-Ok : goal.returns-in-Ok
returns-in-Ok c =
    let encoded : encodes_state c.args.state.now ≡ true = sym c.encodes_state.ensures ∙ c.if-not-encodes_state.false in
    let a = c.args in
    answered a.state.now a.table.now a.journal.now a.frame.now a.out.now encoded _
    c.state_in-before.ensures _ _ c.step-outcome.ensures _ c.append.ensures _ c.put_changes.ensures _
    (c.word_of-in-Ok.ensures ∙ ap verdict_word (sym c.in-Ok.is))
