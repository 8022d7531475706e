-- Demand 3 over a whole list of frames, proved by citation: an accepted opening establishes the invariant (`Opened`),
-- every answer keeps it (`Exchanged`), so that it holds after the run (`Ran`), where it says what is claimed (`Told`).
use mathlib.Core.Path.{◌≡◌, sym, subst, ◌∙◌}
use mathlib.Core.List.{List}
use Prim.Native.Nat.{ℕ}
use Rattle.line.specs.Book.{line_in}
use Rattle.completion.specs.Table.{filled}
use Rattle.rules.specs.Opening.{Opening, opened_state, opening}
use Rattle.assurance.specs.Types.{Line, Record}
use Rattle.assurance.specs.Run.{Input, run}
use Rattle.assurance.specs.Observer.{at_opening, observe}
use Rattle.assurance.specs.Tracks.{tracks_at_opening, observe_tracks}
use Rattle.assurance.specs.WholeList.{Assured, WholeList}
use Rattle.assurance.proofs.Tracking.{TracksAgree, run_tells}
use Rattle.assurance.proofs.Opened.{opening_accepted, opened_line_lem, opened_settled, opened_tracks}
use Rattle.assurance.proofs.Ran.{RunKept, run_kept}
use Rattle.assurance.proofs.Told.{assured}

-- the run from an accepted opening keeps the invariant
pub opened_run : (book table : List ℕ) (journal : List Record) (inputs : List Input)
    → (opening book table journal).number ≡ 0
    → let l = line_in book in
    RunKept (filled l table) (opened_state l) journal (at_opening l)
    (run (filled l table) (opened_state l) journal inputs)
opened_run book table journal inputs e =
    let l = line_in book in
    run_kept (filled l table) inputs (opened_state l) journal (at_opening l)
    (opened_settled l table journal (opening_accepted book table journal e).1 (opened_line_lem book))

-- and tells its tracks
pub opened_told : (book table : List ℕ) (journal : List Record) (inputs : List Input)
    → (opening book table journal).number ≡ 0
    → let l = line_in book in
    let r = run (filled l table) (opened_state l) journal inputs in
    TracksAgree r.state (observe_tracks l (at_opening l) (tracks_at_opening l) r.exchanges)
opened_told book table journal inputs e =
    let l = line_in book in
    let a = (opening_accepted book table journal e).1 in
    let r = run (filled l table) (opened_state l) journal inputs in
    subst
    (λ (z : Line). TracksAgree r.state (observe_tracks z (at_opening l) (tracks_at_opening l) r.exchanges))
    (opened_line_lem book)
    (run_tells (filled l table) inputs (opened_state l) journal (at_opening l) (tracks_at_opening l)
    (opened_settled l table journal a (opened_line_lem book)) (opened_tracks l table journal a (opened_line_lem book)))

pub whole_list : WholeList
whole_list book table journal inputs e =
    let l = line_in book in
    let k = opened_run book table journal inputs e in
    let r = run (filled l table) (opened_state l) journal inputs in
    let tracks = observe_tracks l (at_opening l) (tracks_at_opening l) r.exchanges in
    subst
    (λ (o : Opening).
    let r = run o.table o.state journal inputs in
    Assured l r (observe (at_opening l) r.exchanges)
    (observe_tracks l (at_opening l) (tracks_at_opening l) r.exchanges))
    (sym (opening_accepted book table journal e).0)
    (subst (λ (z : Line). Assured z r (observe (at_opening l) r.exchanges) tracks) (k.line ∙ opened_line_lem book)
    (assured (filled l table) r (observe (at_opening l) r.exchanges) k.after k.requested tracks
    (opened_told book table journal inputs e)))
