-- `check_move` meets its contract: the checks pass one by one up to the one that fails, and 9 is two tests.
use mathlib.Core.Path.{sym, ◌∙◌}
use Rattle.checks.proofs.Refusals.{train_ended, other_from, other_to, move_passes}
use Rattle.checks.proofs.checks.check_move.Goals as goal

pub returns-then-at_end : goal.returns-then-at_end
returns-then-at_end c = train_ended c.args.train c.args.m (sym c.at_end.ensures ∙ c.if-at_end.true)

pub returns-then-ne : goal.returns-then-ne
returns-then-ne c =
    other_from c.args.train c.args.m (sym c.at_end.ensures ∙ c.if-at_end.false) c.if-ne.ensures

pub returns-then-ne-2 : goal.returns-then-ne-2
returns-then-ne-2 c =
    other_to c.args.train c.args.m (sym c.at_end.ensures ∙ c.if-at_end.false) c.if-ne.ensures _ c.next_post.ensures
    c.if-ne-2.ensures

pub returns : goal.returns
returns c =
    move_passes c.args.train c.args.m (sym c.at_end.ensures ∙ c.if-at_end.false) c.if-ne.ensures _ c.next_post.ensures
    c.if-ne-2.ensures
