-- `check_return` meets its contract: the checks of the section, then 25.
use mathlib.Core.Path.{sym, ◌∙◌}
use Rattle.std.proofs.lemmas.Result.{err_from_is_err_and}
use Rattle.checks.proofs.Refusals.{some_number, section_refuses, no_local_run_lem, return_passes}
use Rattle.checks.proofs.checks.check_return.Goals as goal

pub returns-in_err-check_section : goal.returns-in_err-check_section
returns-in_err-check_section c =
    let p = err_from_is_err_and c.from_residual.result c.from_residual.ensures.1 in
    rw (p.1, p.2) (section_refuses c.args.state c.args.m _ c.in_err-check_section.ensures (some_number _))

pub returns-then-not-possessed : goal.returns-then-not-possessed
returns-then-not-possessed c =
    no_local_run_lem c.args.state c.args.m c.in_ok-check_section.ensures c.section.ensures
    (sym c.possessed.ensures ∙ c.if-not-possessed.true)

pub returns : goal.returns
returns c =
    return_passes c.args.state c.args.m c.in_ok-check_section.ensures c.section.ensures
    (sym c.possessed.ensures ∙ c.if-not-possessed.false)
