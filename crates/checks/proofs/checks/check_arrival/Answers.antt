-- `check_arrival` meets its contract: 7, then an AM of the last finished move passes, and any other goes by the checks
-- of the move and 12.
use mathlib.Core.Path.{sym, ◌∙◌}
use Rattle.std.proofs.lemmas.Result.{err_from_is_err_and}
use Rattle.checks.proofs.Refusals.{some_number, train_found, train_unknown, no_train_arrives, am_again, am_refuses}
use Rattle.checks.proofs.Refusals.{no_authority_lem, am_passes}
use Rattle.checks.proofs.checks.check_arrival.Goals as goal

pub returns-in_err-train : goal.returns-in_err-train
returns-in_err-train c =
    let p = err_from_is_err_and c.from_residual.result c.from_residual.ensures.1 in
    let none = train_unknown c.args.state c.args.m.train _ c.in_err-train.ensures in
    rw (p.1, p.2, none.0) (no_train_arrives c.args.state c.args.m none.1)

pub returns-then-is_last : goal.returns-then-is_last
returns-then-is_last c =
    let own = train_found c.args.state c.args.m.train _ c.in_ok-train.ensures in
    am_again c.args.state c.args.m own.0 _ own.1 (sym c.is_last.ensures ∙ c.if-is_last.true)

pub returns-in_err-check_move : goal.returns-in_err-check_move
returns-in_err-check_move c =
    let p = err_from_is_err_and c.from_residual-in_err-check_move.result c.from_residual-in_err-check_move.ensures.1 in
    let own = train_found c.args.state c.args.m.train _ c.in_ok-train.ensures in
    rw (p.1, p.2) (am_refuses c.args.state c.args.m own.0 _ own.1 (sym c.is_last.ensures ∙ c.if-is_last.false)
    c.in_err-check_move.ensures (some_number _))

pub returns-then-not-is_running : goal.returns-then-not-is_running
returns-then-not-is_running c =
    let own = train_found c.args.state c.args.m.train _ c.in_ok-train.ensures in
    no_authority_lem c.args.state c.args.m own.0 _ own.1 (sym c.is_last.ensures ∙ c.if-is_last.false)
    c.in_ok-check_move.ensures (sym c.is_running.ensures ∙ c.if-not-is_running.true)

pub returns : goal.returns
returns c =
    let own = train_found c.args.state c.args.m.train _ c.in_ok-train.ensures in
    am_passes c.args.state c.args.m own.0 _ own.1 (sym c.is_last.ensures ∙ c.if-is_last.false)
    c.in_ok-check_move.ensures (sym c.is_running.ensures ∙ c.if-not-is_running.false)
