-- `check_request` meets its contract: 7, then the checks of the move.
use Rattle.std.proofs.lemmas.Result.{err_from_is_err_and}
use Rattle.checks.proofs.Refusals.{train_found, train_unknown, no_train_asks, move_decides}
use Rattle.checks.proofs.checks.check_request.Goals as goal

pub returns-in_err-train : goal.returns-in_err-train
returns-in_err-train c =
    let p = err_from_is_err_and c.from_residual.result c.from_residual.ensures.1 in
    let none = train_unknown c.args.state c.args.m.train _ c.in_err-train.ensures in
    rw (p.1, p.2, none.0) (no_train_asks c.args.state c.args.m none.1)

pub returns : goal.returns
returns c =
    let own = train_found c.args.state c.args.m.train _ c.in_ok-train.ensures in
    move_decides c.args.state c.args.m own.0 _ own.1 c.check_move.ensures
