-- The line fits.
use Rattle.std.proofs.Common.{rules}
use Rattle.printout.proofs.Decimals.{book_fits}
use Rattle.printout.proofs.lines.with_book.Goals as goal

pub returns-clause-refusal_len_bound : goal.returns-clause-refusal_len_bound
returns-clause-refusal_len_bound c = book_fits c.args.refusal (search rules)
