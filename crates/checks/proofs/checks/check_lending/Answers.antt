-- `check_lending` meets its contract: the checks of the section, then 24 and 26.
use mathlib.Core.Path.{sym, ◌∙◌}
use Rattle.std.proofs.lemmas.Result.{err_from_is_err_and}
use Rattle.checks.proofs.Refusals.{some_number, section_refuses, section_low, section_taken_lem, twenty_given_lem}
use Rattle.checks.proofs.Refusals.{lending_passes}
use Rattle.rules.proofs.Validity.{valid_facts}
use Rattle.holding.proofs.Located.{consistent_placed}
use Rattle.checks.proofs.checks.check_lending.Goals as goal

pub returns-in_err-check_section : goal.returns-in_err-check_section
returns-in_err-check_section c =
    let p = err_from_is_err_and c.from_residual.result c.from_residual.ensures.1 in
    rw (p.1, p.2) (section_refuses c.args.state c.args.m _ c.in_err-check_section.ensures (some_number _))

pub holders_of-holders-requires : goal.holders_of-holders-requires
holders_of-holders-requires c = let d = valid_facts _ c.requires in (d.line.few_trains, consistent_placed _ d)

pub section_free-requires : goal.section_free-requires
section_free-requires c =
    let few = (valid_facts _ c.requires).line.few_posts in (
      few,
      section_low c.args.state c.args.m c.in_ok-check_section.ensures c.section.ensures few,
      c.holders_of-holders.ensures,
    )

pub returns-then-not-section_free : goal.returns-then-not-section_free
returns-then-not-section_free c =
    section_taken_lem c.args.state c.args.m c.in_ok-check_section.ensures c.section.ensures
    (sym c.section_free.ensures ∙ c.if-not-section_free.true)

pub returns-then-state-ge-MOST_GIVEN : goal.returns-then-state-ge-MOST_GIVEN
returns-then-state-ge-MOST_GIVEN c =
    twenty_given_lem c.args.state c.args.m c.in_ok-check_section.ensures c.section.ensures
    (sym c.section_free.ensures ∙ c.if-not-section_free.false) c.if-state-ge-MOST_GIVEN.true

pub returns : goal.returns
returns c =
    lending_passes c.args.state c.args.m c.in_ok-check_section.ensures c.section.ensures
    (sym c.section_free.ensures ∙ c.if-not-section_free.false) c.if-state-ge-MOST_GIVEN.false
