-- `settle` meets its contract. Outer loop: the work is one that ends as the work it began with, and each turn has one
-- Asked train fewer. Inner loop: nothing is changed, and nobody whose request has a number below `from` can be granted.
use mathlib.Core.Path.{◌≡◌, sym, ap, subst, ◌∙◌}
use mathlib.Core.Bool.{true, false}
use Prim.Native.Nat.{◌<◌}
use native.Mathlib.Omega.{arith}
use Rattle.journal.specs.Journal.{journal_length}
use Rattle.tracks.specs.Answers.{track_number, NamesTrack}
use Rattle.authority.specs.Types.{Progress}
use Rattle.rules.specs.Valid.{consistent}
use Rattle.rules.specs.Granting.{grantable}
use Rattle.authority.specs.Asking.{NextAsked}
use Rattle.authority.specs.Progress.{progress_with}
use Rattle.rules.proofs.Grants.{asked_count}
use Rattle.authority.proofs.GrantTest.{few_trains, named_grantable, none_grantable}
use Rattle.authority.proofs.Askers.{Next, next_found, next_small, tried_all, first_oldest, tried_more}
use Rattle.authority.proofs.Working.{working_start, working_valid, working_room, working_end, working_next}
use Rattle.authority.proofs.Working.{working_less}
use Rattle.authority.proofs.granting.settle.Goals as goal

pub again-init : goal.again-init
again-init c =
    working_start c.args.table.now c.args.state _ _ c.requires.0 c.requires.1
    (c.logged-work.ensures ∙ ap (λ (p : Progress). progress_with p.state p.batch c.args.entry) c.new.ensures)

pub next_asked-requires : goal.next_asked-requires
next_asked-requires c = few_trains _ (working_valid _ _ _ c.loop-asker.invariant.working)

pub returns-in_default : goal.returns-in_default
returns-in_default c =
    let k = c.loop-asker.invariant in
    working_end _ _ _ k.working (tried_all _ _ _ k.tried (subst (NextAsked _ _ _) c.in_default.is c.next_asked.ensures))

pub grantable-requires : goal.grantable-requires
grantable-requires c =
    (working_valid _ _ _ c.loop-asker.invariant.working, (next_found _ _ _ _ c.in-Some.ensures).known)

pub granted-work-requires-clause-t_bound : goal.granted-work-requires-clause-t_bound
granted-work-requires-clause-t_bound c =
    let on = c.loop-asker.invariant.working in
    let next : Next c.loop-asker.work.state c.loop-asker.from c.in-Some.asker.train c.in-Some.asker.number =
    next_found _ _ _ _ c.in-Some.ensures in
    (omega (arith, next.known, few_trains _ (working_valid _ _ _ on)), working_room _ _ _ on)

pub again-smaller : goal.again-smaller
again-smaller c =
    let k = c.loop-asker.invariant in
    let told = ap track_number (sym c.in-Some-grantable.is) ∙ c.grantable.ensures.0 in
    let from-1 = subst NamesTrack c.in-Some-grantable.is c.grantable.ensures.1 in
    let oldest = first_oldest _ _ _ k.tried _ _ (next_found _ _ _ _ c.in-Some.ensures)
    (named_grantable c.args.table.now _ _ _ told from-1) in
    subst (λ (p : Progress). asked_count c.granted-work.result.state < asked_count p.state) k.same
    (working_less _ _ _ k.working _ oldest _ c.granted-work.ensures)

pub again-preserved : goal.again-preserved
again-preserved c =
    let k = c.loop-asker.invariant in
    let told = ap track_number (sym c.in-Some-grantable.is) ∙ c.grantable.ensures.0 in
    let from-1 = subst NamesTrack c.in-Some-grantable.is c.grantable.ensures.1 in
    let oldest = first_oldest _ _ _ k.tried _ _ (next_found _ _ _ _ c.in-Some.ensures)
    (named_grantable c.args.table.now _ _ _ told from-1) in
    working_next _ _ _ k.working _ oldest _ c.granted-work.ensures

pub overflow_add-from : goal.overflow_add-from
overflow_add-from c =
    let on = c.loop-asker.invariant.working in
    let next : Next c.loop-asker.work.state c.loop-asker.from c.in-Some.asker.train c.in-Some.asker.number =
    next_found _ _ _ _ c.in-Some.ensures in
    let small : c.in-Some.asker.number < journal_length =
    next_small _ _ _ _ (working_valid _ _ _ on) (working_room _ _ _ on) next in
    omega (arith, small)

pub loop-asker-smaller : goal.loop-asker-smaller
loop-asker-smaller c =
    let on = c.loop-asker.invariant.working in
    let next : Next c.loop-asker.work.state c.loop-asker.from c.in-Some.asker.train c.in-Some.asker.number =
    next_found _ _ _ _ c.in-Some.ensures in
    let small : c.in-Some.asker.number < journal_length =
    next_small _ _ _ _ (working_valid _ _ _ on) (working_room _ _ _ on) next in
    omega (arith, small, next.low)

pub loop-asker-preserved : goal.loop-asker-preserved
loop-asker-preserved c =
    let k = c.loop-asker.invariant in
    let next : Next c.loop-asker.work.state c.loop-asker.from c.in-Some.asker.train c.in-Some.asker.number =
    next_found _ _ _ _ c.in-Some.ensures in
    let valid : consistent c.loop-asker.work.state ≡ true = working_valid _ _ _ k.working in
    let barred : grantable c.args.table.now c.loop-asker.work.state c.in-Some.asker.train.0 ≡ false =
    none_grantable _ _ _ (ap track_number (sym c.in_default-grantable.is) ∙ c.grantable.ensures.0) in
    record { same = k.same; working = k.working; tried = tried_more _ _ _ k.tried _ _ next valid barred }
