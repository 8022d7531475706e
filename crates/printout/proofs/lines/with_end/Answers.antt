-- The line fits.
use Rattle.std.proofs.Common.{rules}
use Rattle.printout.proofs.Decimals.{end_fits}
use Rattle.printout.proofs.lines.with_end.Goals as goal

pub returns-clause-refused_len_bound : goal.returns-clause-refused_len_bound
returns-clause-refused_len_bound c = end_fits c.args.logged c.args.refused (search rules) (search rules)
