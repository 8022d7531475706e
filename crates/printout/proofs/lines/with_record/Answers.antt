-- A word follows the other, and the line fits.
use Rattle.std.proofs.Common.{rules}
use Rattle.printout.specs.Lines.{decimal, spaced, kind_name, newline}
use Rattle.printout.proofs.Room.{Follows, then_more}
use Rattle.printout.proofs.Decimals.{record_fits}
use Rattle.printout.proofs.lines.with_record.Goals as goal

pub returns-clause-value : goal.returns-clause-value
returns-clause-value c =
    let r = c.args.entry in
    let number : Follows c.args.text (decimal c.args.number) c.with_number-text.result =
    record { is = c.with_number-text.ensures } in
    let kind = then_more (kind_name r.kind) number c.with_kind-text.ensures in
    let train = then_more (spaced r.train.0) kind c.with_spaced-text.ensures in
    let from = then_more (spaced r.from.0) train c.with_spaced-text-2.ensures in
    let to = then_more (spaced r.to.0) from c.with_spaced-text-3.ensures in
    let track = then_more (spaced r.track.0) to c.with_spaced-text-4.ensures in
    (then_more newline track c.with_word.ensures).is

pub returns-clause-len_bound : goal.returns-clause-len_bound
returns-clause-len_bound c =
    record_fits c.args.number c.args.entry (search rules) (search rules) (search rules) (search rules)
    (search rules)
