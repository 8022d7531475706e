-- `step` meets its contract: a refused frame leaves everything as it was, and an accepted one what the definition says.
use mathlib.Core.Path.{sym, ap, subst⁻¹, ◌∙◌}
use Rattle.rules.specs.Answer.{again}
use Rattle.accepting.specs.Acceptable.{Acceptable}
use Rattle.accepting.specs.Repeating.{NamesTrain}
use Rattle.dispatcher.proofs.Outcomes.{taken_acceptable, train_placed, some_told, step_refused}
use Rattle.dispatcher.proofs.Outcomes.{step_passed, step_again, step_taken, step_some, step_sent, step_within}
use Rattle.dispatcher.proofs.Outcomes.{step_accepted}
use Rattle.dispatcher.proofs.stepping.step.Goals as goal

pub returns-in-Err : goal.returns-in-Err
returns-in-Err c =
    let a = c.args in
    let told = c.in-Err.ensures in
    step_refused a.state a.table.now a.records a.frame.now a.out.now _ told.number told.named _ c.refused.ensures

pub again-repeat-requires : goal.again-repeat-requires
again-repeat-requires c =
    let a = c.args in
    let passed = step_passed a.state a.table.now a.records a.frame.now a.out.now c.in_default.ensures.number in
    subst⁻¹ NamesTrain c.read-message.ensures (train_placed a.state passed.valid_state _ passed.message)

pub told_again-requires : goal.told_again-requires
told_again-requires c =
    let a = c.args in
    (step_passed a.state a.table.now a.records a.frame.now a.out.now c.in_default.ensures.number).long_out

pub returns-then-is_repeat : goal.returns-then-is_repeat
returns-then-is_repeat c =
    let a = c.args in
    let looked-up = c.again-repeat.ensures ∙ ap (again a.state) c.read-message.ensures in
    step_again a.state a.table.now a.records a.frame.now a.out.now c.in_default.ensures.number _
    (sym looked-up ∙ some_told c.again-repeat.result (sym c.is_repeat.ensures ∙ c.if-is_repeat.true))
    _ c.told_again.ensures.value _ c.told_again.ensures.out_after

pub accept-work-requires : goal.accept-work-requires
accept-work-requires c =
    let a = c.args in
    let new = sym c.is_repeat.ensures ∙ c.if-is_repeat.false in
    let zero = c.in_default.ensures.number in
    let passed = step_passed a.state a.table.now a.records a.frame.now a.out.now zero in
    let taken = step_taken a.state a.table.now a.records a.frame.now a.out.now zero
    _ c.read-message.ensures _ c.again-repeat.ensures new in
    subst⁻¹ (Acceptable a.state) c.read-message.ensures
    (taken_acceptable a.state passed.valid_state passed.room _ taken)

pub slice_bounds-send-count : goal.slice_bounds-send-count
slice_bounds-send-count c =
    let a = c.args in
    let new = sym c.is_repeat.ensures ∙ c.if-is_repeat.false in
    step_some a.state a.table.now a.records a.frame.now a.out.now c.in_default.ensures.number
    _ c.read-message.ensures _ c.again-repeat.ensures new _ c.accept-work.ensures

pub slice_bounds-send-start : goal.slice_bounds-send-start
slice_bounds-send-start c =
    let a = c.args in
    let new = sym c.is_repeat.ensures ∙ c.if-is_repeat.false in
    step_some a.state a.table.now a.records a.frame.now a.out.now c.in_default.ensures.number
    _ c.read-message.ensures _ c.again-repeat.ensures new _ c.accept-work.ensures

pub slice_bounds-send-end : goal.slice_bounds-send-end
slice_bounds-send-end c =
    let a = c.args in
    let new = sym c.is_repeat.ensures ∙ c.if-is_repeat.false in
    step_within a.state a.table.now a.records a.frame.now a.out.now c.in_default.ensures.number
    _ c.read-message.ensures _ c.again-repeat.ensures new _ c.accept-work.ensures

pub send-sent-requires : goal.send-sent-requires
send-sent-requires c =
    let a = c.args in
    let new = sym c.is_repeat.ensures ∙ c.if-is_repeat.false in
    let zero = c.in_default.ensures.number in
    let sent = step_sent a.state a.table.now a.records a.frame.now a.out.now zero
    _ c.read-message.ensures _ c.again-repeat.ensures new _ c.accept-work.ensures in
    (sent, (step_passed a.state a.table.now a.records a.frame.now a.out.now zero).long_out)

pub returns : goal.returns
returns c =
    let a = c.args in
    let new = sym c.is_repeat.ensures ∙ c.if-is_repeat.false in
    let sent = c.send-sent.ensures in
    rw c.outcome_of.ensures
    (step_accepted a.state a.table.now a.records a.frame.now a.out.now c.in_default.ensures.number
    _ c.read-message.ensures _ c.again-repeat.ensures new _ c.accept-work.ensures _ sent.0 _ sent.1)
