-- `check_section` meets its contract: 7, then 9, which the two tests of the posts make together.
use Rattle.checks.proofs.Refusals.{no_gang, not_next, past_line, section_passes}
use Rattle.checks.proofs.checks.check_section.Goals as goal

pub returns-then-m-ne-GANG_BYTE : goal.returns-then-m-ne-GANG_BYTE
returns-then-m-ne-GANG_BYTE c = let a = c.args in no_gang a.state a.m c.if-m-ne-GANG_BYTE.true

pub returns-then-m : goal.returns-then-m
returns-then-m c =
    let a = c.args in
    not_next a.state a.m c.if-m-ne-GANG_BYTE.false c.if-m.true

pub returns-then-state-m : goal.returns-then-state-m
returns-then-state-m c =
    let a = c.args in
    past_line a.state a.m c.if-m-ne-GANG_BYTE.false c.if-m.false c.if-state-m.true

pub returns : goal.returns
returns c =
    let a = c.args in
    section_passes a.state a.m c.if-m-ne-GANG_BYTE.false c.if-m.false c.if-state-m.false
