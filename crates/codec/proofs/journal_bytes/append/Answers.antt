-- `append` meets its contract. The loop's invariant: the bytes are those of the journal with the first k records of the
-- batch in their places.
use lib.ListN.{length}
use borrow.Author.Rules.{rules}
use Rattle.journal.specs.Journal.{batch_length}
use mathlib.Core.Path.{◌≡◌}
use native.Mathlib.Omega.{arith}
use Rattle.codec.proofs.Writing.{start, taken_length, entry_more, all_written}
use Rattle.codec.proofs.journal_bytes.append.Goals as goal

pub loop-k-init : goal.loop-k-init
loop-k-init c =
    let seven : length c.args.batch.items ≡ batch_length = search rules in
    start c.args.bytes.now c.args.at c.args.batch seven _ c.fitting-n.ensures

pub loop-k-preserved : goal.loop-k-preserved
loop-k-preserved c =
    entry_more c.loop-k.invariant (omega arith) _ c.record_bytes.ensures _ c.put.ensures.to_after

pub returns : goal.returns
returns c =
    let a = c.args in
    all_written a.bytes.now a.at a.batch _ c.fitting-n.ensures _ _ c.loop-k.invariant
    (omega (arith, taken_length c.loop-k.invariant))
