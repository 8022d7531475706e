-- `append` meets its contract. The loop's invariant: the bytes are those of the journal with the first k records of the
-- batch in their places.
use Rattle.codec.proofs.Writing.{Writing}
use Rattle.codec.proofs.journal_bytes.append.Given as goal

abbrev pub invariant-loop-k : goal.invariant-loop-k
invariant-loop-k l = Writing l.initial.bytes l.at l.fn.batch.items l.n l.bytes l.k
