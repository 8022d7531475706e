-- Each turn adds the line of the next record.
use Rattle.std.proofs.Common.{◌≡◌, arith, rules}
use Rattle.printout.proofs.Records.{Printed, none_printed, printed_next, printed_whole}
use Rattle.printout.proofs.printing.run_text.Goals as goal

pub loop-i-init : goal.loop-i-init
loop-i-init c = none_printed _ _ c.empty-text.ensures

pub loop-i-preserved : goal.loop-i-preserved
loop-i-preserved c =
    let line = c.with_record-text.ensures in
    printed_next _ _ _ _ _ (omega arith) c.loop-i.invariant c.log_at.ensures line.value line.len_bound

pub returns : goal.returns
returns c =
    let e : c.loop-i.i ≡ c.args.logged = omega arith in
    let p : Printed c.args.log.records c.args.logged c.loop-i.text = rw e at c.loop-i.invariant in
    let end = c.with_end.ensures in
    let all = printed_whole _ _ c.args.refused _ _ (search rules) p end.value end.refused_len_bound in
    record { length_le_text_length = all.0; value = all.1 }
