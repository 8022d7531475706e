-- The claim over both ends, proved by citation: an opened book establishes the invariant of the pair, every event keeps
-- it (`Kept`), and it says what is claimed; what the observer tells, and that the box is never strange, comes of the
-- box's own run (`Alone`).
use mathlib.Core.Path.{◌≡◌, refl, sym, ap, subst, ◌∙◌}
use mathlib.Core.Logic.{◌≢◌, inl, ⊎_elim}
use mathlib.Core.Bool.{true, false, not, false≢true}
use mathlib.Core.List.Memᴰ
use mathlib.Core.List.{List}
use Prim.Native.Nat.{ℕ, ◌≤◌, ◌<◌}
use native.Mathlib.Omega.{arith}
use lib.Dec.{eqb}
use lib.ListN.{length}
use borrow.Author.Tests.{eq-eqb, le-leb}
use Rattle.common.specs.Below.{of_bool}
use Rattle.common.proofs.Tests.{by_cases, not_passed, and_right, and_both, or_left, or_right}
use Rattle.common.proofs.Below.{count_mono, count_some}
use Rattle.line.specs.Refusal.{strange_state, no_authority}
use Rattle.line.specs.Route.{section_of}
use Rattle.line.specs.Line.{route_of, tracks_at}
use Rattle.line.specs.Holding.{moving, is_stabled, standing, holds_post, holds_section, post_holders}
use Rattle.line.proofs.Holding.{standing_holds}
use Rattle.line.specs.Book.{line_in}
use Rattle.frame.specs.Frame.{read_frame}
use Rattle.driver.specs.State.{numbers_fit, own_move, valid_unit}
use Rattle.driver.specs.History.{CabInput, press, frame, cab_exchange}
use Rattle.driver.proofs.Refusals.{refusals}
use Rattle.driver.specs.Making.{standing_unit}
use Rattle.driver.proofs.Numbers.{makes}
use Rattle.driver.proofs.Validity.{standing_unit_valid}
use Rattle.completion.specs.Table.{filled}
use Rattle.rules.specs.State.{is_running, next_of, train_of, line_of, located, possessed, next_move}
use Rattle.rules.specs.Opening.{Opening, opened_state}
use Rattle.rules.proofs.Trains.{route_of_lem}
use Rattle.rules.proofs.Validity.{section_one, one_holder}
use Rattle.rules.proofs.Acceptance.{Unauthorised, refused_unauthorised, not_by, not_strange}
use Rattle.assurance.specs.Observer.{authority, Seen, Observer, at_opening, observe}
use Rattle.assurance.proofs.Invariant.{running_claim}
use Rattle.assurance.proofs.Exchanged.{Settled, valid_settled}
use Rattle.assurance.proofs.Opened.{Accepted, fresh_train, opening_accepted, opened_line_lem, opened_settled}
use Rattle.assurance.proofs.WholeList.{opened_run}
use Rattle.pair.specs.Types.{Line, Move, Record, Train, State, Unit, Made}
use Rattle.pair.specs.Pair.{Pair, made_of, pair_of, run_pair}
use Rattle.pair.specs.Alone.{box_inputs, box_run}
use Rattle.pair.specs.Together.{under_authority, Entitled, section_ahead, unit_place, NeverBy, Together}
use Rattle.pair.specs.Together.{CabAndDesk, UnitsMade}
use Rattle.pair.proofs.Link.{Before, Linked, idle_level}
use Rattle.pair.proofs.Pool.{InPool}
use Rattle.pair.proofs.Kept.{Kept, run_kept}
use Rattle.pair.proofs.Alone.{box_alone}

-- a valid unit refuses nothing by 1
never_strange : (u : Unit) → valid_unit u ≡ true → (c : CabInput) → (cab_exchange u c).refusal ≢ strange_state
never_strange u good (press b) = refusals.sound_press u b good
never_strange u good (frame f) = refusals.sound_hearing u f good

-- ---- what the invariant says

module _ (l : Line) (p : Pair) (k : Kept l p) where
  known : (t : ℕ) → t < l.trains → t < p.box.trains
  known t h = rw (ap (λ (z : Line). z.trains) k.line) h

  runs : (t : ℕ) → Entitled l p t → is_running (train_of p.box t).status ≡ true
  runs t e = ((k.linked t (known t e.0)).covered e.1).0

  same_move : (t : ℕ) → Entitled l p t → next_move p.box t ≡ own_move (p.units t)
  same_move t e =
      let q = k.linked t (known t e.0) in
      rw (q.train, q.route, (q.covered e.1).1)

  -- its train holds the section
  holds : (t : ℕ) → Entitled l p t → holds_section (located p.box t) (section_ahead (p.units t)) ≡ true
  holds t e =
      let x = train_of p.box t in
      let section : section_of x.at.0 (next_of x) ≡ section_ahead (p.units t) =
      ap (λ (m : Move). section_of m.from.0 m.to.0) (same_move t e) in
      rw (runs t e) (eq-eqb _ _ section)

  alone_there : (t : ℕ) → Entitled l p t → possessed p.box (section_ahead (p.units t)) ≡ false
  alone_there t e =
      let i = section_ahead (p.units t) in
      not_passed (possessed p.box i) (λ z.
      let gang : of_bool (possessed p.box i) ≡ 1 = rw z in
      let one = count_some p.box.trains (λ v. holds_section (located p.box v) i) t (known t e.0) (holds t e) in
      omega (arith, section_one p.box k.valid_state i))

  module _ (q t : ℕ) (h : t < l.trains) where
    abbrev x : Train
    x = train_of p.box t

    abbrev u : Unit
    u = p.units t

    link : Linked (InPool p.sent) t x u
    link = k.linked t (known t h)

    -- where it stands at post q it is not stabled
    abbrev Stands : Type 0
    Stands = holds_post (standing l.sidings u.route.end.0 u.at.0) q ≡ true

    here : Stands → eqb u.at.0 q ≡ true
    here held = and_right (not (is_stabled l.sidings u.route.end.0 u.at.0)) _
        (sym (standing_holds l.sidings u.route.end.0 u.at.0 q) ∙ held)

    -- its train holds the post as well
    level_held : Stands → u.at.0 ≡ x.at.0 → holds_post (located p.box t) q ≡ true
    level_held held level = by_cases (is_running x.status)
        (λ r. rw (r, ← level) (or_left (eqb u.at.0 q) _ (here held)))
        (λ r. rw (r, ← level, ← link.route, ap (λ (z : Line). z.sidings) k.line) held)

    ahead_held : Stands → (is_running x.status ≡ true) × (u.at.0 ≡ next_of x)
        → holds_post (located p.box t) q ≡ true
    ahead_held held ahead = rw (ahead.0, ← ahead.1) (or_right (eqb x.at.0 q) _ (here held))

    post_held : holds_post (unit_place l p t) q ≡ true → holds_post (located p.box t) q ≡ true
    post_held = by_cases (under_authority u.phase)
        (λ a. rw (a, runs t (h, a))
        (subst (λ (m : Move). holds_post (moving m.from.0 m.to.0) q ≡ true) (sym (same_move t (h, a)))))
        (λ a. rw a (λ held. ⊎_elim (level_held held) (ahead_held held) link.level))

  room : (q : ℕ) → q < l.posts → post_holders l.trains (unit_place l p) q ≤ tracks_at l q
  room q h =
      let fewer = count_mono l.trains (λ t. holds_post (unit_place l p t) q) (λ t. holds_post (located p.box t) q)
      (post_held q) in
      let held = subst (λ (z : Line). post_holders z.trains (located p.box) q ≤ tracks_at z q) k.line
      (k.valid_state.posts q (rw (ap (λ (z : Line). z.posts) k.line) h)) in
      omega (arith, fewer, held)

  -- an AM that was sent is of a move that the unit has left, and a train that is not Running is where its unit is
  none_unauthorised : (table : List ℕ) → NeverBy no_authority table p
  none_unauthorised table i among =
      not_by p.box table p.journal i.frame i.out no_authority (λ e. contradiction
      (refused_unauthorised p.box (length table) (length p.journal) i.frame (length i.out) e))
    where
      contradiction : Unauthorised p.box (read_frame i.frame) → ⊥
      contradiction r =
          let t = r.move.train.0 in
          let q = k.linked t r.next.known in
          let past = q.arrivals r.move (record { frame = i.frame; among = among; reads = r.message }) refl in
          let z : Before (train_of p.box t) (train_of p.box t).at.0 (train_of p.box t).at.0 =
          rw (r.next.from, idle_level q r.idle) at past in
          omega arith

  -- with the box's own run, whose observer is o
  pub together : (table : List ℕ) (o : Observer) → Settled table p.box p.journal o → Together table l p o
  together table o s = record {
    running = runs;
    move = same_move;
    told = λ t e.
        let x = train_of p.box t in
        ap (λ (y : Seen). y.claim) (s.kept.each t (known t e.0)).seen
        ∙ running_claim x.status x.at.0 (next_of x) (runs t e)
        ∙ ap (λ (m : Move). authority m.from.0 m.to.0) (same_move t e);
    apart = λ t u et eu e.
        one_holder p.box k.valid_state (section_ahead (p.units t)) t u (known t et.0) (known u eu.0)
        (holds t et) (rw e (holds u eu));
    no_gang = alone_there;
    no_gang_told = λ t e.
        s.kept.gangs (section_ahead (p.units t)) ∙ ap of_bool (alone_there t e);
    held = post_held;
    posts = room;
    own = λ t h.
        let q = k.linked t (known t h) in
        (q.train, q.route ∙ sym (route_of_lem p.box t) ∙ ap (λ (z : Line). route_of z t) k.line);
    level = λ t h. (k.linked t (known t h)).level;
    never_12 = none_unauthorised table;
    never_1 = λ i among. not_strange p.box table p.journal i.frame i.out (valid_settled s);
    valid_box = valid_settled s;
    valid_units = λ t h. (k.linked t (known t h)).good;
    units_never_1 = λ t h. never_strange (p.units t) (k.linked t (known t h)).good;
  }

-- ---- from an opened book

module _ (l : Line) (table : List ℕ) (journal : List Record) (a : Accepted l table journal)
    (same : line_of (opened_state l) ≡ l) where
  fits : (t : ℕ) → t < l.trains → numbers_fit t (route_of l t).start.0 (route_of l t).end.0 ≡ true
  unfolding numbers_fit
  fits t k =
      let f = a.line in
      and_both _ _ (le-leb t 5 (omega (arith, f.few_trains)))
      (and_both _ _ (le-leb (route_of l t).start.0 7 (omega (arith, f.few_posts, f.starts t k)))
      (le-leb (route_of l t).end.0 7 (omega (arith, f.few_posts, f.ends t k))))

  unit_made : (t : ℕ) → t < l.trains
      → let m = made_of l t in
      (m.refusal ≡ 0) × (m.unit ≡ standing_unit t (route_of l t).start.0 (route_of l t).end.0)
  unit_made t k =
      let e = makes t _ _ (fits t k) (standing_unit t _ _) refl in
      (sym (ap (λ (m : Made). m.refusal) e), sym (ap (λ (m : Made). m.unit) e))

  begins : Kept l (pair_of l (opened_state l) journal)
  begins = record {
    valid_state = (opened_settled l table journal a same).kept.valid_state;
    line = same;
    linked = λ t k. rw (fresh_train l table journal a same t k, (unit_made t k).1) (record {
      train = refl;
      route = refl;
      good = standing_unit_valid t _ _ (fits t k);
      level = inl refl;
      covered = λ q. absurd (false≢true q);
      arrivals = λ m h e. absurd (Memᴰ.not-nil h.among);
      authorities = λ m h e. absurd (Memᴰ.not-nil h.among);
    });
  }

pub cab_and_desk : CabAndDesk
cab_and_desk book table journal events e =
    let l = line_in book in
    let a = opening_accepted book table journal e in
    let p = pair_of l (opened_state l) journal in
    let q = run_pair (filled l table) p events in
    let r = box_run (filled l table) p events in
    let o = observe (at_opening l) r.exchanges in
    let b = box_alone (filled l table) p events in
    let after = (opened_run book table journal (box_inputs (filled l table) p events) e).after in
    let settled = subst (λ (s : State). Settled (filled l table) s q.journal o) b.0
    (subst (λ (j : List Record). Settled (filled l table) r.state j o) b.1 after) in
    let kept = run_kept l (filled l table) p (begins l table journal a.1 (opened_line_lem book)) events in
    subst
    (λ (w : Opening).
    let p = pair_of l w.state journal in
    Together w.table l (run_pair w.table p events)
    (observe (at_opening l) (box_run w.table p events).exchanges))
    (sym a.0)
    (together l q kept (filled l table) o settled)

pub units_made : UnitsMade
units_made book table journal e t k =
    let a = opening_accepted book table journal e in
    (unit_made (line_in book) table journal a.1 (opened_line_lem book) t k).0
