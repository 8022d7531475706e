-- A request, an arrival and a grant keep the invariant, each a change of one train's record with one record logged; so
-- do an AFE and an LA, which are logged alone, and a section lent or given back.
use mathlib.Core.Path.{◌≡◌, refl, sym, ap, ◌∙◌}
use mathlib.Core.Logic.{◌≢◌}
use mathlib.Core.Bool.{true, false, and-false, false≢true}
use mathlib.Core.List.{List}
use Prim.Native.Nat.{ℕ, ◌+◌, ◌<◌}
use native.Mathlib.Omega.{arith}
use lib.Dec.{eqb}
use lib.ListN.{length, set, length-set}
use lib.Seq.{get_or-set_same, get_or-set_other}
use borrow.Author.Tests.{eq-eqb, ne_eqb}
use Rattle.common.specs.Below.{of_bool}
use Rattle.common.specs.Update.{update}
use Rattle.common.proofs.Tests.{by_equality}
use Rattle.common.proofs.Update.{update_own, update_other}
use Rattle.frame.specs.RoundTrip.{IsMessage}
use Rattle.journal.specs.Journal.{journal_length, blank, record_of, frame_of}
use Rattle.journal.proofs.Records.{logged_as_sent}
use Rattle.line.proofs.Travel.{next_travelled, next_other}
use Rattle.completion.specs.Configuration.{Completable, moved}
use Rattle.completion.proofs.Agreement.{completable_cong}
use Rattle.rules.specs.declared.state.Status.{Status}
use Rattle.rules.specs.declared.state.Status.TheVariants.{Free, Asked, Running}
use Rattle.rules.specs.declared.state.Train.{Train}
use Rattle.rules.specs.State.{is_free, is_asked, is_running, asked_as, is_last, next_of, reached_by, train_of, line_of}
use Rattle.rules.specs.State.{possessed, holders_of, reached, next_move, with_status, arrived_next, with_train}
use Rattle.rules.specs.State.{with_possession, one_logged}
use Rattle.rules.specs.Valid.{most_given}
use Rattle.rules.specs.Granting.{grantable, granting, grant_record}
use Rattle.rules.proofs.Trains.{asked_idle, running_is, in_fleet}
use Rattle.rules.proofs.Changes.{grantable_facts, short_place, valid_logged, valid_request, valid_arrival, valid_grant}
use Rattle.rules.proofs.Possessions.{others_possessed, lent_possessed, back_unpossessed, valid_possession}
use Rattle.rules.proofs.Validity.{finished_move}
use Rattle.rules.proofs.Acceptance.{RoomLeft, NextMove}
use Rattle.rules.proofs.Reached.{moved_within}
use Rattle.assurance.specs.Types.{Move, Message, Fa, Fe, Am, Le, Lb, Record, State}
use Rattle.assurance.specs.Observer.{Claim, nothing, asked, authority, Seen, Observer, is_for, note_frame}
use Rattle.assurance.specs.Observer.{with_seen, note_answer}
use Rattle.assurance.specs.WholeList.{Requested, is_fe_of}
use Rattle.assurance.proofs.Invariant.{claim_of, given, given_more, other_train, Invariant, changed_kept}
use Rattle.assurance.proofs.Invariant.{record_kept}

-- the record of an FE is one of its train's
pub own_authority : (m : Move) → is_fe_of m.train.0 (record_of (Fe m)) ≡ true
unfolding record_of
own_authority m = eq-eqb m.train.0 m.train.0 refl

-- the message's record gives no train an authority
abbrev pub NoFe : Message → Type 0
NoFe a = (u : ℕ) → is_fe_of u (record_of a) ≡ false

abbrev seen_with : ℕ → Claim → Seen
seen_with p c = record { post = p; claim = c }

-- ---- a grant

module _ (table : List ℕ) (s : State) (j : List Record) (o : Observer) (inv : Invariant table s j o) (t : ℕ)
    (known : t < s.trains)
    (space : s.logged < journal_length) where
  -- the FE of a grant has its request
  pub grant_requested : grantable table s t ≡ true
      → Requested (s.logged + 1) (set j s.logged (grant_record s t)) (next_move s t)
  unfolding IsMessage
  grant_requested e =
      let m = next_move s t in
      let number = asked_as (train_of s t).status in
      let asks = (grantable_facts table s t e).asks in
      let lower : number < s.logged = (inv.valid_state.each t known).numbered asks in
      record {
        granted = s.logged;
        below = omega arith;
        authority = ap frame_of (get_or-set_same j s.logged (grant_record s t) blank (omega (arith, inv.room)))
            ∙ sym (logged_as_sent (Fe m) tt);
        requested = number;
        lower = lower;
        request = ap frame_of (get_or-set_other j s.logged number (grant_record s t) blank (λ z. omega arith)
            ∙ (inv.each t known).request asks)
            ∙ sym (logged_as_sent (Fa m) tt);
      }

  pub grant_kept : grantable table s t ≡ true
      → Invariant table (one_logged (with_train s t (granting s t))) (set j s.logged (grant_record s t))
      (note_answer o (Fe (next_move s t)))
  grant_kept e =
      let g = grantable_facts table s t e in
      let d = inv.valid_state in
      let x = granting s t in
      let idle = asked_idle (train_of s t).status g.asks in
      let permit = authority (train_of s t).at.0 (next_of (train_of s t)) in
      let further : reached_by x ≡ reached s t + 1 = rw idle (omega arith) in
      let a = Fe (next_move s t) in
      changed_kept table s j o (note_answer o a) t (grant_record s t) x inv (other_train a) space
      (λ u h. update_other o.train t _ u h) (λ i. refl)
      (in_fleet s t (λ y. is_asked y.status) refl g.asks) refl (valid_grant s d t known table e)
      (record {
        seen = update_own o.train t _ ∙ ap (λ (y : Seen). seen_with y.post permit) (inv.each t known).seen;
        request = λ q. absurd (false≢true q);
        authorities = given_more s.logged j (grant_record s t) t (omega (arith, inv.room))
            ∙ rw (own_authority (next_move s t), (inv.each t known).authorities, idle) (omega arith);
        granted = λ q. grant_requested e;
      })
      (rw further (inv.right.sound (moved (reached s) t) (moved_within s d t known g.asks) g.bit))

-- ---- the frame itself, and the AFE

module _ (table : List ℕ) (s : State) (j : List Record) (o : Observer) (inv : Invariant table s j o) where
  -- a change that leaves a train where it has reached keeps the configuration
  stays : (t : ℕ) (x : Train) → reached_by x ≡ reached s t
      → Completable (line_of s) (update (reached s) t (reached_by x))
  stays t x e = completable_cong (line_of s) (reached s) (update (reached s) t (reached_by x)) (λ u k. by_equality u t
      (λ q. rw (q, update_own (reached s) t (reached_by x)) (sym e))
      (λ h. sym (update_other (reached s) t (reached_by x) u h)))
      inv.completable

  journal_room : s.logged < journal_length → s.logged < length j
  journal_room space = omega (arith, inv.room)

  -- a message that is no FE gives no authority
  same_given : (a : Message) (t : ℕ) → is_fe_of t (record_of a) ≡ false → s.logged < journal_length
      → given (s.logged + 1) (set j s.logged (record_of a)) t ≡ given s.logged j t
  same_given a t e space = given_more s.logged j (record_of a) t (journal_room space) ∙ rw e (omega arith)

  -- a new AM is for its train's authority
  pub authorised : (m : Move) → NextMove s m → is_running (train_of s m.train.0).status ≡ true
      → is_for (o.train m.train.0).claim m.from.0 m.to.0 ≡ true
  authorised m n runs = rw (
    (inv.each m.train.0 n.known).seen,
    (running_is (train_of s m.train.0).status runs).1,
    n.to,
    n.from,
    eq-eqb (train_of s m.train.0).at.0 _ refl,
    eq-eqb (next_of (train_of s m.train.0)) _ refl,
  )

  -- an AM of the last finished move is for no authority: one is for the way on from the present post
  pub finished_unauthorised : (m : Move) → m.train.0 < s.trains
      → is_last (train_of s m.train.0).last m.from.0 m.to.0 ≡ true
      → is_for (o.train m.train.0).claim m.from.0 m.to.0 ≡ false
  finished_unauthorised m known finished =
      let x = train_of s m.train.0 in
      let v = inv.valid_state.each m.train.0 known in
      let here = (finished_move x v.finished _ _ finished).2 in
      rw (inv.each m.train.0 known).seen
      (elsewhere x.status x.at.0 (next_of x) (λ busy z. next_other _ _ _ v.inside (v.busy busy) (z ∙ here)))
    where
      elsewhere : (w : Status) (p q : ℕ) → (is_free w ≡ false → q ≢ m.to.0)
          → is_for (claim_of w p q) m.from.0 m.to.0 ≡ false
      elsewhere Free p q h = refl
      elsewhere (Asked k) p q h = refl
      elsewhere (Running k) p q h = rw (ne_eqb q m.to.0 (h refl)) (and-false (eqb p m.from.0))

  module _ (m : Move) (n : NextMove s m) (room : RoomLeft s) where
    space : s.logged < journal_length
    space = omega (arith, room)

    place : m.train.0 < length s.fleet
    place = short_place s m.train.0 n.short

    pub request_kept : is_running (train_of s m.train.0).status ≡ false
        → let x = with_status (train_of s m.train.0) (Asked s.logged) in
        Invariant table (one_logged (with_train s m.train.0 x)) (set j s.logged (record_of (Fa m)))
        (note_frame o (Fa m))
    unfolding record_of
    request_kept idle =
        let t = m.train.0 in
        let x = with_status (train_of s t) (Asked s.logged) in
        changed_kept table s j o (note_frame o (Fa m)) t (record_of (Fa m)) x inv (other_train (Fa m)) space
        (λ u h. update_other o.train t _ u h) (λ i. refl) place refl
        (valid_request s inv.valid_state t n.known n.short idle)
        (record {
          seen = update_own o.train t _ ∙ ap (λ (y : Seen). seen_with y.post asked) (inv.each t n.known).seen;
          request = λ q.
              get_or-set_same j s.logged (record_of (Fa m)) blank (journal_room space) ∙ rw (← n.to, ← n.from);
          authorities = same_given (Fa m) t refl space ∙ (inv.each t n.known).authorities ∙ rw idle;
          granted = λ q. absurd (false≢true q);
        })
        (stays t x (rw idle))

    pub arrival_kept : is_running (train_of s m.train.0).status ≡ true
        → let x = arrived_next s.sidings (train_of s m.train.0) in
        Invariant table (one_logged (with_train s m.train.0 x)) (set j s.logged (record_of (Am m)))
        (note_frame o (Am m))
    unfolding record_of
    arrival_kept runs =
        let t = m.train.0 in
        let x = arrived_next s.sidings (train_of s t) in
        let v = inv.each t n.known in
        let further : reached_by x ≡ reached s t =
        rw runs (omega (arith, next_travelled _ _ _ (inv.valid_state.each t n.known).inside n.short)) in
        let arrived : Observer = with_seen o t (seen_with m.to.0 nothing) in
        let heard : note_frame o (Am m) ≡ arrived = rw (authorised m n runs) in
        rw heard (changed_kept table s j o arrived t (record_of (Am m)) x inv (other_train (Am m)) space
        (λ u h. update_other o.train t _ u h) (λ i. refl) place refl
        (valid_arrival s inv.valid_state t n.known n.short runs)
        (record {
          seen = update_own o.train t _ ∙ rw n.to;
          request = λ q. absurd (false≢true q);
          authorities = same_given (Am m) t refl space ∙ v.authorities ∙ sym further;
          granted = λ q. absurd (false≢true q);
        })
        (stays t x further))

  -- an AFE, and a gang's LA, change nobody's record and no section
  pub logged_kept : (a : Message) → NoFe a → s.logged < journal_length
      → Invariant table (one_logged s) (set j s.logged (record_of a)) o
  logged_kept a plain room =
      record_kept table s j o o (record_of a) s.possessions s.given inv room plain
      (valid_logged s inv.valid_state) (λ u. refl) inv.gangs inv.seven

  -- ---- a section that is lent or given back, as the observer hears it

  module _ (m : Move) (on : m.from.0 + 1 < s.posts) (space : s.logged < journal_length) where
    abbrev i : ℕ
    i = m.from.0

    section_place : i < length s.possessions
    section_place = rw inv.seven (omega (arith, inv.valid_state.line.few_posts))

    pub lent_kept : holders_of s i ≡ 0 → s.given < most_given
        → Invariant table (one_logged (with_possession s i true (s.given + 1))) (set j s.logged (record_of (Le m)))
        (note_answer o (Le m))
    unfolding record_of
    lent_kept free few =
        let b = with_possession s i true (s.given + 1) in
        record_kept table s j o (note_answer o (Le m)) (record_of (Le m)) b.possessions b.given inv
        space (λ u. refl)
        (valid_logged b (valid_possession s inv.valid_state i true (s.given + 1) (λ e. free) (omega arith)))
        (λ u. refl)
        (λ k. by_equality k i
        (λ e. rw e (update_own o.gangs i _
        ∙ omega (arith, inv.gangs i, free, ap of_bool (lent_possessed s i (s.given + 1) on section_place))))
        (λ e. update_other o.gangs i _ k e ∙ inv.gangs k
        ∙ ap of_bool (sym (others_possessed s i true (s.given + 1) k e))))
        (length-set s.possessions i true ∙ inv.seven)

    pub return_kept : possessed s i ≡ true
        → Invariant table (one_logged (with_possession s i false s.given)) (set j s.logged (record_of (Lb m)))
        (note_frame o (Lb m))
    unfolding record_of
    return_kept held =
        let b = with_possession s i false s.given in
        record_kept table s j o (note_frame o (Lb m)) (record_of (Lb m)) b.possessions b.given inv
        space (λ u. refl)
        (valid_logged b (valid_possession s inv.valid_state i false s.given (λ e. absurd (false≢true e))
        inv.valid_state.few_given))
        (λ u. refl)
        (λ k. by_equality k i
        (λ e. rw e (update_own o.gangs i _
        ∙ omega (arith, inv.gangs i, ap of_bool held, ap of_bool (back_unpossessed s i s.given))))
        (λ e. update_other o.gangs i _ k e ∙ inv.gangs k
        ∙ ap of_bool (sym (others_possessed s i false s.given k e))))
        (length-set s.possessions i false ∙ inv.seven)
