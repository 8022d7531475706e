-- `give_back` meets its contract: the section is the one that is named, and the granting begins without its gang.
use mathlib.Core.Path.{◌≡◌, ◌∙◌}
use mathlib.Core.Bool.{false}
use Rattle.rules.specs.State.{with_possession}
use Rattle.accepting.proofs.Lending.{possession_named, returned_told}
use Rattle.accepting.proofs.accepting.give_back.Goals as goal

pub returns : goal.returns
returns c =
    let freed : let s = c.args.state in
    c.with_possession-freed.result ≡ with_possession s c.args.m.from.0 false s.given =
    possession_named _ _ c.requires.0 _ c.section.ensures _ _ _ c.with_possession-freed.ensures in
    c.settle.ensures
    ∙ returned_told _ _ _ freed _ c.record_of.ensures c.args.table.now
