-- `check_frame` meets its contract: 1, then 2, then what the frame reads as.
use mathlib.Core.Path.{sym, ◌∙◌}
use Rattle.std.proofs.lemmas.Result.{err_from_is_err_and}
use Rattle.checks.proofs.Refusals.{some_number, strange, short_stores_lem, reading_refuses, message_decides}
use Rattle.checks.proofs.checks.check_frame.Goals as goal

pub returns-then-not-valid-clause-number : goal.returns-then-not-valid-clause-number
returns-then-not-valid-clause-number c =
    let a = c.args in
    strange a.state a.table a.records a.frame.now a.room (sym c.valid.ensures ∙ c.if-not-valid.true)

pub returns-then-not-long_enough-clause-number : goal.returns-then-not-long_enough-clause-number
returns-then-not-long_enough-clause-number c =
    let a = c.args in
    short_stores_lem a.state a.table a.records a.frame.now a.room (sym c.valid.ensures ∙ c.if-not-valid.false)
    (sym c.long_enough.ensures ∙ c.if-not-long_enough.true)

pub returns-in-Refused : goal.returns-in-Refused
returns-in-Refused c =
    let a = c.args in
    let told = reading_refuses a.state a.table a.records a.frame.now a.room (sym c.valid.ensures ∙ c.if-not-valid.false)
    (sym c.long_enough.ensures ∙ c.if-not-long_enough.false) _ c.in-Refused.ensures in
    record { number = told.0; named = told.1 }

pub returns-in_err-check_message-in_default : goal.returns-in_err-check_message-in_default
returns-in_err-check_message-in_default c =
    let a = c.args in
    let p = err_from_is_err_and c.from_residual.result c.from_residual.ensures.1 in
    rw (p.1, p.2) (record {
      number =
          message_decides a.state a.table a.records a.frame.now a.room (sym c.valid.ensures ∙ c.if-not-valid.false)
          (sym c.long_enough.ensures ∙ c.if-not-long_enough.false) _ c.read.ensures
          c.in_default.not-Refused c.in_err-check_message-in_default.ensures;
      named = some_number _;
    })

pub returns-in_ok-check_message-in_default : goal.returns-in_ok-check_message-in_default
returns-in_ok-check_message-in_default c =
    let a = c.args in
    record {
      number =
          message_decides a.state a.table a.records a.frame.now a.room (sym c.valid.ensures ∙ c.if-not-valid.false)
          (sym c.long_enough.ensures ∙ c.if-not-long_enough.false) _ c.read.ensures
          c.in_default.not-Refused c.in_ok-check_message-in_default.ensures;
      named = tt;
    }
