-- `on_line` meets its contract: a number below zero, or none, fails the first comparison, plus infinity the second.
use mathlib.Core.Path.{sym, ◌∙◌}
use native.Mathlib.Omega.{arith}
use Rattle.locating.proofs.Exact.{on_line_to, off_the_line_lem}
use Rattle.locating.proofs.metres.on_line.Goals as goal

pub returns-then-x : goal.returns-then-x
returns-then-x c =
    on_line_to c.args.x c.args.last (omega (arith, c.requires)) c.if-x.true

pub returns-else-x : goal.returns-else-x
returns-else-x c =
    c.if-x.false ∙ sym (off_the_line_lem c.args.x c.args.last c.if-x.false)
