-- `is_below` meets its contract: whole metres are a number of the format, and the comparison is that of the exact
-- values.
use mathlib.Core.Path.{◌∙◌}
use native.Mathlib.Omega.{arith}
use native.Mathlib.Nat.{mul-one}
use lib.Dec.{lit<}
use Rattle.locating.proofs.Exact.{whole_value, compared}
use Rattle.locating.proofs.metres.is_below.Goals as goal

pub returns : goal.returns
returns c =
    let m = c.args.metres in
    (compared c.args.x _ m 1 (lit< tt) c.requires.0 (whole_value m (omega (arith, c.requires.1)))).less
    ∙ rw mul-one
