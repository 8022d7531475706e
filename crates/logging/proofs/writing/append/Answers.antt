-- `logging::append` meets its contract: the k-th record has a place in the batch and in the journal, and where it is
-- written the first k + 1 stand in their places.
use mathlib.Core.Path.{◌≡◌, ap, ◌∙◌}
use Prim.Native.Nat.{◌<◌}
use native.Mathlib.Omega.{arith}
use lib.ListN.{length}
use borrow.Author.Rules.{rules}
use Rattle.journal.specs.Journal.{fitting}
use Rattle.journal.proofs.Appended.{fitting_room, count, written, all_written}
use Rattle.logging.proofs.writing.append.Goals as goal

pub overflow_add-at : goal.overflow_add-at
overflow_add-at c =
    let less : c.loop-k.k < fitting (length c.args.journal.now) c.args.at c.args.batch.n =
    omega (arith, c.fitting-n.ensures) in
    let place = fitting_room (length c.args.journal.now) c.args.at c.args.batch.n c.loop-k.k less in
    search (rules, place)

pub offset_bounds-journal-at : goal.offset_bounds-journal-at
offset_bounds-journal-at c =
    let less : c.loop-k.k < fitting (length c.args.journal.now) c.args.at c.args.batch.n =
    omega (arith, c.fitting-n.ensures) in
    let place = fitting_room (length c.args.journal.now) c.args.at c.args.batch.n c.loop-k.k less in
    search (rules, place)

pub bounds-journal-at : goal.bounds-journal-at
bounds-journal-at c =
    let less : c.loop-k.k < fitting (length c.args.journal.now) c.args.at c.args.batch.n =
    omega (arith, c.fitting-n.ensures) in
    let place = fitting_room (length c.args.journal.now) c.args.at c.args.batch.n c.loop-k.k less in
    omega (arith, place)

pub returns : goal.returns
returns c =
    let j = c.args.journal.now in
    let at = c.args.at in
    let b = c.args.batch in
    let end : c.loop-k.k ≡ count j at b = omega (arith, c.fitting-n.ensures) in
    c.loop-k.invariant.1 ∙ (ap (written j at b) end ∙ all_written j at b)
