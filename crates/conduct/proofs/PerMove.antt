-- Each move logs at most four records. Those of a train's move from post p are none while p is ahead of it, at most as
-- many as its status pays for (`asked_for`) while it is there, and at most four afterwards. Every new frame keeps that,
-- for any table: an FA has an AFE to spare until the asker is declined.
use mathlib.Core.Path.{◌≡◌, sym, subst}
use mathlib.Core.Logic.{◌≢◌}
use mathlib.Core.Bool.{true, false, and-false}
use mathlib.Core.List.{List}
use Prim.Native.Nat.{ℕ, ◌+◌, ◌≤◌, ◌<◌}
use native.Mathlib.Omega.{arith}
use lib.Dec.{eqb}
use lib.ListN.{length}
use borrow.Author.Tests.{ne_eqb}
use Rattle.common.specs.Below.{of_bool}
use Rattle.common.proofs.Tests.{by_cases, by_equality}
use Rattle.common.proofs.Below.{of_bool_le}
use Rattle.line.specs.Route.{distance}
use Rattle.line.proofs.Travel.{next_travelled}
use Rattle.journal.specs.Journal.{record_of}
use Rattle.rules.specs.declared.state.Status.{Status}
use Rattle.rules.specs.declared.state.Status.TheVariants.{Asked}
use Rattle.rules.specs.declared.state.Train.{Train}
use Rattle.rules.specs.State.{is_free, is_asked, is_running, next_of, train_of, with_status, arrived_next, with_train}
use Rattle.rules.specs.State.{with_possession}
use Rattle.rules.specs.Granting.{Work, begun, granting, grant_record, granted, settled}
use Rattle.rules.specs.Answer.{gang_byte, declined, anew}
use Rattle.rules.proofs.Trains.{running_is, changed, changed_own, changed_other}
use Rattle.rules.proofs.Validity.{Consistent}
use Rattle.rules.proofs.Changes.{grantable_facts, short_place}
use Rattle.rules.proofs.Grants.{Turn, grants_keep, granted_place}
use Rattle.rules.proofs.Acceptance.{NextMove, Taken, request, arrival, lending, return}
use Rattle.assurance.specs.Types.{Move, Message, Fa, Afe, Am, La, Le, Lb, Record, State}
use Rattle.assurance.proofs.Records.{asked_for, free_none, asked_two, most_three}
use Rattle.conduct.specs.FewRecords.{is_of_move}
use Rattle.conduct.proofs.Counted.{count_in, count_one, count_more}

-- train x, which has n records of a move from post p
pub record Few (p : ℕ) (x : Train) (n : ℕ) : Type 0 where
  pub ahead : distance x.route.start.0 x.at.0 < distance x.route.start.0 p → n ≡ 0
  pub here : p ≡ x.at.0 → n ≤ asked_for x.status
  pub most : n ≤ 4

module _ (p : ℕ) (x : Train) (n : ℕ) (f : Few p x n) where
  fewer : (m : ℕ) → m ≤ n → Few p x m
  fewer m h = record {
    ahead = λ e. omega (arith, f.ahead e);
    here = λ e. omega (arith, f.here e);
    most = omega (arith, f.most);
  }

  -- e records more of it, which are from its post
  module _ (e : ℕ) (own : p ≢ x.at.0 → e ≡ 0) where
    -- with another status, which pays for them
    status_few : (w : Status) → e + asked_for x.status ≤ asked_for w → Few p (with_status x w) (n + e)
    status_few w paid = record {
      ahead = λ h. omega (arith, f.ahead h, own (λ z. omega arith));
      here = λ z. omega (arith, f.here z);
      most = by_equality p x.at.0
          (λ z. omega (arith, f.here z, most_three w))
          (λ h. omega (arith, f.most, own h));
    }

    -- at its next post: the fourth
    arrived_few : (sidings : ℕ) → asked_for x.status ≡ 3 → e ≤ 1
        → distance x.route.start.0 (next_of x) ≡ distance x.route.start.0 x.at.0 + 1
        → Few p (arrived_next sidings x) (n + e)
    arrived_few sidings three one far = record {
      ahead = λ h. omega (arith, f.ahead (omega arith), own (λ z. omega arith));
      here = λ z. omega (arith, f.ahead (omega arith), own (λ y. omega arith));
      most = by_equality p x.at.0
          (λ z. omega (arith, f.here z))
          (λ h. omega (arith, f.most, own h));
    }

module _ (table : List ℕ) (t p q : ℕ) where
  -- the records that a list has of the move
  abbrev of_move : List Record → ℕ
  of_move = count_in (is_of_move t p q)

  abbrev one : Record → ℕ
  one r = of_bool (is_of_move t p q r)

  other_train : (r : Record) → r.train.0 ≢ t → one r ≡ 0
  other_train r h = rw (ne_eqb r.train.0 t h)

  other_post : (r : Record) → r.from.0 ≢ p → one r ≡ 0
  other_post r h = rw (ne_eqb r.from.0 p h, and-false (eqb r.train.0 t))

  -- ---- one train's change

  -- where train u's record becomes x, with e records more, which are of it alone
  changed_few : (s : State) (u : ℕ) (x : Train) (k n e : ℕ) → u < length s.fleet → (u ≢ t → e ≡ 0)
      → (Few p (train_of s u) n → Few p x (n + e))
      → Few p (train_of s t) n → Few p (train_of (changed s u x k) t) (n + e)
  changed_few s u x k n e place own step f = by_equality t u
      (λ z. subst (λ (v : ℕ). Few p (train_of (changed s u x k) v) (n + e)) (sym z)
      (rw (changed_own s u x k place) (step (subst (λ (v : ℕ). Few p (train_of s v) n) z f))))
      (λ h. rw (changed_other s u x k t h)
      (fewer p (train_of s t) n f (n + e) (omega (arith, own (λ z. h (sym z))))))

  -- ---- the granting

  -- with c of them besides those of the list
  abbrev FewIn : ℕ → Work → Type 0
  FewIn c w = Few p (train_of w.state t) (c + of_move w.logged)

  granted_few : (c : ℕ) (w : Work) (u : ℕ) → FewIn c w → Turn table w u → FewIn c (granted w u)
  unfolding record_of
  granted_few c w u f turn =
      let s = w.state in
      let r = grant_record s u in
      let asks = (grantable_facts table s u turn.can).asks in
      let n = c + of_move w.logged in
      fewer p _ (n + one r)
      (changed_few s u (granting s u) (s.logged + 1) n (one r) (granted_place table w u turn)
      (other_train r)
      (λ g. status_few p (train_of s u) n g (one r) (λ h. other_post r (λ z. h (sym z))) _
      (omega (arith, asked_two (train_of s u).status asks, of_bool_le (is_of_move t p q r))))
      f)
      _ (omega (arith, count_more (is_of_move t p q) w.logged r))

  settled_few : (c : ℕ) (w : Work) → FewIn c w → FewIn c (settled table w)
  settled_few c w = grants_keep table (FewIn c) (granted_few c) w.state.trains w

  -- an AFE is paid for by the request
  declined_few : (n : ℕ) (m : Move) (w : Work) → FewIn (n + one (record_of (Fa m))) w → FewIn n (declined m w)
  unfolding record_of
  declined_few n m w f = by_cases (is_asked (train_of w.state m.train.0).status)
      (λ e. rw e (fewer p _ _ f _ (omega (arith, count_more (is_of_move t p q) w.logged (record_of (Afe m))))))
      (λ e. rw e (fewer p _ _ f _ (omega arith)))

  -- ---- a new frame

  module _ (s : State) (m : Move) (k : NextMove s m) (n : ℕ) (f : Few p (train_of s t) n) where
    abbrev u : ℕ
    u = m.train.0

    -- its FA, and its AFE, which may follow
    requested_few : is_free (train_of s u).status ≡ true
        → let e = one (record_of (Fa m)) in
        Few p (train_of (with_train s u (with_status (train_of s u) (Asked s.logged))) t) (n + (e + e))
    unfolding record_of
    requested_few free =
        let r = record_of (Fa m) in
        changed_few s u _ s.logged n (one r + one r) (short_place s u k.short)
        (λ h. omega (arith, other_train r h))
        (λ g. status_few p (train_of s u) n g (one r + one r)
        (λ h. omega (arith, other_post r (λ z. omega (arith, k.from)))) (Asked s.logged)
        (omega (arith, free_none (train_of s u).status free, of_bool_le (is_of_move t p q r)))) f

    -- its AM
    reported_few : Consistent s → is_running (train_of s u).status ≡ true
        → Few p (train_of (with_train s u (arrived_next s.sidings (train_of s u))) t) (n + one (record_of (Am m)))
    unfolding record_of
    reported_few d runs =
        let r = record_of (Am m) in
        changed_few s u _ s.logged n (one r) (short_place s u k.short)
        (other_train r)
        (λ g. arrived_few p (train_of s u) n g (one r) (λ h. other_post r (λ z. omega (arith, k.from)))
        s.sidings (rw (running_is (train_of s u).status runs).1) (of_bool_le (is_of_move t p q r))
        (next_travelled _ _ _ (d.each u k.known).inside k.short)) f

  -- the first record of a frame's list, for which there is room
  begun_few : (c n : ℕ) (s : State) (r : Record) → Few p (train_of s t) n → c + one r ≤ n → FewIn c (begun s r)
  begun_few c n s r f h = fewer p _ n f _ (omega (arith, count_one (is_of_move t p q) r))

  -- a gang's is no train's
  pub accepted_few : t < gang_byte → (s : State) → Consistent s → (a : Message) → Taken s a
      → (n : ℕ) → Few p (train_of s t) n → FewIn n (anew table s a)
  unfolding anew record_of
  accepted_few low s d a (request m k free) n f =
      let r = record_of (Fa m) in
      let b = with_train s m.train.0 (with_status (train_of s m.train.0) (Asked s.logged)) in
      declined_few n m (settled table (begun b r))
      (settled_few (n + one r) (begun b r)
      (begun_few (n + one r) _ b r (requested_few s m k n f free) (omega arith)))
  accepted_few low s d a (arrival m k runs) n f =
      let r = record_of (Am m) in
      let b = with_train s m.train.0 (arrived_next s.sidings (train_of s m.train.0)) in
      settled_few n (begun b r) (begun_few n _ b r (reported_few s m k n f d runs) (omega arith))
  accepted_few low s d a (lending m k free few) n f =
      let r = record_of (La m) in
      let none = other_train r (λ z. omega (arith, k.gang)) in
      fewer p _ n f _ (omega (
        arith,
        count_one (is_of_move t p q) r,
        count_more (is_of_move t p q) (begun s r).logged (record_of (Le m)),
      ))
  accepted_few low s d a (return m k held) n f =
      let r = record_of (Lb m) in
      let none = other_train r (λ z. omega (arith, k.gang)) in
      let b = with_possession s m.from.0 false s.given in
      settled_few n (begun b r) (begun_few n n b r f (omega arith))
