-- The digits are the number's decimal.
use Rattle.std.proofs.Common.{◌≡◌, arith, ap, ◌∙◌}
use Rattle.printout.specs.Text.{followed}
use Rattle.printout.proofs.Decimals.{Written, next_written, first_written, all_written}
use Rattle.printout.proofs.text.with_number.Goals as goal

pub loop-first-preserved : goal.loop-first-preserved
loop-first-preserved c = next_written _ _ _ _ (omega arith) (omega arith) c.if-rest-eq0.false c.loop-first.invariant

pub returns-then-rest-eq0 : goal.returns-then-rest-eq0
returns-then-rest-eq0 c =
    c.with_word.ensures
    ∙ ap (followed c.args.text)
    (first_written _ _ _ _ (omega arith) (omega arith) c.if-rest-eq0.true c.loop-first.invariant)

pub returns : goal.returns
returns c =
    let l = c.loop-first in
    let none : l.first ≡ 0 = omega arith in
    let w : Written c.args.n 0 l.rest l.digits = rw none at l.invariant in
    c.with_word-2.ensures ∙ ap (followed c.args.text) (all_written _ _ _ w)
