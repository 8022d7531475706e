-- The box's end: the answer to a frame that was sent keeps every train linked to its unit.
use mathlib.Core.Path.{◌≡◌, refl, sym, ap, subst, ◌∙◌}
use mathlib.Core.Logic.{◌⊎◌, inl, inr, ⊎_elim}
use mathlib.Core.Bool.{false}
use mathlib.Core.List.Memᴰ
use mathlib.Core.List.{List, [], ◌∷◌, ◌++◌}
use Prim.Native.Nat.{ℕ, ◌+◌, ◌<◌}
use lib.ListN.{length}
use Rattle.common.proofs.Tests.{by_cases}
use Rattle.frame.specs.Frame.{move_in, read_frame}
use Rattle.journal.specs.Journal.{record_of}
use Rattle.rules.specs.State.{is_asked, train_of, next_move, with_status, arrived_next, with_possession}
use Rattle.rules.specs.Granting.{Work, begun, granted, settled, granting}
use Rattle.rules.specs.Answer.{taken, declined, anew, answer}
use Rattle.rules.proofs.Trains.{asked_idle, free_idle, changed_each}
use Rattle.rules.proofs.Validity.{Consistent}
use Rattle.rules.proofs.Changes.{grantable_facts, short_place}
use Rattle.rules.proofs.Grants.{Turn, grants_keep, granted_place}
use Rattle.rules.proofs.Acceptance.{Taken, request, arrival, lending, return, Repeats, declined_before}
use Rattle.rules.proofs.Acceptance.{granted_before, arrived_before, by_verdict, accepted_facts}
use Rattle.assurance.specs.Observer.{written_frames}
use Rattle.assurance.proofs.Exchanged.{frames_back, again_messages}
use Rattle.pair.specs.Types.{Move, Message, Fa, Fe, Afe, Am, Le, Lb, Record, Requested, Train, State, Unit}
use Rattle.pair.proofs.Link.{Given, Linked, status_linked, arrived_linked, known_more, With, one_more}
use Rattle.pair.proofs.Link.{fe_is, am_not_fe, none_sent, other_sent}
use Rattle.pair.proofs.Pool.{InPool, sent_linked}

-- every train of a state is linked to its unit
abbrev pub AllLinked : (Message → Type 0) → State → (ℕ → Unit) → Type 0
AllLinked Known s units = (t : ℕ) → t < s.trains → Linked Known t (train_of s t) (units t)

module _ (Known : Message → Type 0) (units : ℕ → Unit) where
  -- the trains are linked with what the work has sent so far
  abbrev WorkLinked : Work → Type 0
  WorkLinked w = AllLinked (With Known w.sent) w.state units

  granted_linked : (table : List ℕ) (w : Work) (t : ℕ) → WorkLinked w → Turn table w t → WorkLinked (granted w t)
  granted_linked table w t k f u ku =
      let s = w.state in
      let own = next_move s t in
      let idle = asked_idle (train_of s t).status (grantable_facts table s t f.can).asks in
      let am : (m : Move) → With Known (w.sent ++ Fe own ∷ []) (Am m) → With Known w.sent (Am m) =
      λ m h. ⊎_elim (λ q. q) (λ e. absurd (am_not_fe e)) (one_more Known w.sent (Fe own) (Am m) h) in
      let fe : (m : Move) → With Known (w.sent ++ Fe own ∷ []) (Fe m) → With Known w.sent (Fe m) ⊎ (m ≡ own) =
      λ m h. ⊎_elim (λ q. inl q) (λ e. inr (fe_is e)) (one_more Known w.sent (Fe own) (Fe m) h) in
      changed_each s t (granting s t) (s.logged + 1) (λ v y. Linked (With Known (granted w t).sent) v y (units v))
      (granted_place table w t f)
      (status_linked (k t f.known) _ idle am
      (λ m h. ⊎_elim (λ q. inl q) (λ e. inr (ap (λ (z : Move). z.from.0) e, refl)) (fe m h)))
      u
      (λ other. known_more (k u ku) (λ m h. inl (am m h))
      (λ m h. ⊎_elim (λ q. inl q)
      (λ e. inr (λ mine. absurd (other (sym mine ∙ ap (λ (z : Move). z.train.0) e)))) (fe m h)))

  settled_linked : (table : List ℕ) (w : Work) → WorkLinked w → WorkLinked (settled table w)
  settled_linked table w k = grants_keep table WorkLinked (granted_linked table) w.state.trains w k

  -- the frame's own change of its train's record
  taken_linked : (s : State) (a : Message) (x : Train) → (move_in a).train.0 < length s.fleet
      → AllLinked Known s units → Linked Known (move_in a).train.0 x (units (move_in a).train.0)
      → WorkLinked (taken s a x)
  taken_linked s a x place all own u ku =
      changed_each s (move_in a).train.0 x (s.logged + 1) (λ v y. Linked (With Known []) v y (units v)) place
      (none_sent own) u (λ other. none_sent (all u ku))

  -- "If the asker was not granted, its AFE comes last."
  declined_linked : (m : Move) (w : Work) → WorkLinked w → WorkLinked (declined m w)
  declined_linked m w k = by_cases (is_asked (train_of w.state m.train.0).status)
      (λ e. rw e (λ u ku. other_sent w.sent (Afe m) refl (k u ku)))
      (λ e. rw e k)

  -- a new frame; an AM was sent
  accepted_linked : (table : List ℕ) (s : State) → Consistent s → AllLinked Known s units → (a : Message)
      → ((m : Move) → a ≡ Am m → Known (Am m)) → Taken s a → WorkLinked (anew table s a)
  unfolding anew
  accepted_linked table s d all a h (request m q free) =
      let t = m.train.0 in
      let x = with_status (train_of s t) (Requested s.logged) in
      let w = taken s (Fa m) x in
      declined_linked m (settled table w) (settled_linked table w
      (taken_linked s (Fa m) x (short_place s t q.short) all
      (status_linked (all t q.known) (Requested s.logged) (free_idle (train_of s t).status free)
      (λ n k. k) (λ n k. inl k))))
  accepted_linked table s d all a h (arrival m q runs) =
      let t = m.train.0 in
      let x = arrived_next s.sidings (train_of s t) in
      settled_linked table (taken s (Am m) x) (taken_linked s (Am m) x (short_place s t q.short) all
      (arrived_linked (all t q.known) s.sidings m (h m refl) refl q.from (d.each t q.known).inside
      q.short))
  accepted_linked table s d all a h (lending m q free few) =
      λ u ku. other_sent [] (Le m) refl (none_sent (all u ku))
  accepted_linked table s d all a h (return m q held) =
      settled_linked table (begun (with_possession s m.from.0 false s.given) (record_of (Lb m)))
      (λ u ku. none_sent (all u ku))

  -- a repeat: an FE again is for a train that is Running by that very move
  again_linked : (s : State) → AllLinked Known s units → (a : Message) (answers : List Message) → Repeats s a answers
      → AllLinked (With Known answers) s units
  again_linked s all a answers (declined_before m q asks) =
      λ u ku. other_sent [] (Afe m) refl (none_sent (all u ku))
  again_linked s all a answers (granted_before m q runs) = λ u ku. known_more (all u ku)
      (λ n k. inl (⊎_elim (λ z. z) (λ z. absurd (am_not_fe (Memᴰ.eq_of_singleton z))) k))
      (λ n k. ⊎_elim (λ z. inl z)
      (λ z.
      let e : n ≡ m = fe_is (Memᴰ.eq_of_singleton z) in
      inr (λ mine. subst (λ (v : ℕ). Given (train_of s v) n.from.0) (sym (ap (λ (y : Move). y.train.0) e) ∙ mine)
      (inr (ap (λ (y : Move). y.from.0) e ∙ q.from, runs)))) k)
  again_linked s all a answers (arrived_before m known finished) = λ u ku. none_sent (all u ku)

-- the answer to a frame; an AM was sent
pub answer_linked : (table : List ℕ) (s : State) (j : List Record) (sent : List (List ℕ)) (units : ℕ → Unit)
    → AllLinked (InPool sent) s units → (frame out : List ℕ)
    → ((m : Move) → read_frame frame ≡ Am m → InPool sent (Am m))
    → let a = answer s table j frame out in
    AllLinked (InPool (sent ++ written_frames a.verdict a.out)) a.state units
answer_linked table s j sent units all frame out was-sent =
    by_verdict s table j frame out
    (λ a. AllLinked (InPool (sent ++ written_frames a.verdict a.out)) a.state units)
    (λ n e t k. sent_linked [] (λ b m. absurd (Memᴰ.not-nil m)) (none_sent (all t k)))
    (λ p answers r t k.
    rw (frames_back answers out) (sent_linked answers (again_messages r)
    (again_linked (InPool sent) units s all (read_frame frame) answers r t k)))
    (λ p new t k.
    let d = p.valid_state in
    let w = anew table s (read_frame frame) in
    let facts = accepted_facts table s d (read_frame frame) new in
    rw (frames_back w.sent out) (sent_linked w.sent facts.messages
    (accepted_linked (InPool sent) units table s d all (read_frame frame) was-sent new t k)))
