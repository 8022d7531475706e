-- "A train keeps its track while it holds the post": the granting gives tracks and takes none, and the frame's own
-- change leaves a train on its track or takes it from the post.
use mathlib.Core.Path.{◌≡◌, refl, sym, ap, ◌∙◌}
use mathlib.Core.Bool.{true, false}
use mathlib.Core.List.{List}
use Prim.Native.Nat.{ℕ, ◌+◌}
use lib.Dec.{eqb}
use Rattle.common.proofs.Tests.{clash, by_cases, by_equality}
use Rattle.line.specs.Holding.{Whereabouts, holds_post}
use Rattle.frame.specs.Frame.{read_frame}
use Rattle.rules.specs.declared.state.Status.TheVariants.{Asked}
use Rattle.journal.specs.Journal.{record_of}
use Rattle.rules.specs.State.{is_asked, located_at, track_at, train_of, located, with_status, arrived_next}
use Rattle.rules.specs.State.{with_possession}
use Rattle.rules.specs.Granting.{Work, begun, granting, granted, settled}
use Rattle.rules.specs.Answer.{taken, declined, anew}
use Rattle.rules.proofs.Trains.{free_idle, idle_ahead, changed_own, changed_other}
use Rattle.rules.proofs.Validity.{Consistent}
use Rattle.rules.proofs.Changes.{grantable_facts, short_place, valid_request, valid_arrival, arrival_track}
use Rattle.rules.proofs.Changes.{asker_stands}
use Rattle.rules.proofs.Grants.{Turn, grants_keep, granted_place}
use Rattle.rules.proofs.Settling.{settled_settles, granted_valid}
use Rattle.rules.proofs.Acceptance.{Taken, request, arrival, lending, return, by_verdict, return_begins}
use Rattle.assurance.specs.Types.{Line, Move, Message, Fa, Am, Lb, State}
use Rattle.conduct.specs.OneFrame.{TrackKept}

-- where a train of s and of v holds the same post, it is on the same track
abbrev KeptFrom : State → State → Type 0
KeptFrom s v = (t p : ℕ) → holds_post (located s t) p ≡ true → holds_post (located v t) p ≡ true
    → track_at (train_of v t) p ≡ track_at (train_of s t) p

-- ---- the granting, from the state b on

record Gives (b : State) (w : Work) : Type 0 where
  valid_state : Consistent w.state
  -- a train holds what it held, on the same track
  keeps : (t p : ℕ) → holds_post (located b t) p ≡ true
      → (holds_post (located w.state t) p ≡ true) × (track_at (train_of w.state t) p ≡ track_at (train_of b t) p)
  -- one that did not ask is as it was
  stays : (t : ℕ) → is_asked (train_of b t).status ≡ false → train_of w.state t ≡ train_of b t

granted_gives : (table : List ℕ) (b : State) (w : Work) (t : ℕ) → Gives b w → Turn table w t → Gives b (granted w t)
granted_gives table b w t h f =
    let s = w.state in
    let place = granted_place table w t f in
    let own = changed_own s t (granting s t) (s.logged + 1) place in
    let other = changed_other s t (granting s t) (s.logged + 1) in
    let asks = (grantable_facts table s t f.can).asks in
    record {
      valid_state = granted_valid table w t h.valid_state f;
      keeps = λ u p held.
          let k = h.keeps u p held in
          by_equality u t
          (λ e.
          let here : eqb (train_of s t).at.0 p ≡ true =
          ap (λ (z : Whereabouts). holds_post z p) (sym (asker_stands s h.valid_state t f.known table f.can))
          ∙ rw e at k.0 in
          (rw (e, own, here), rw (e, own, here) (rw (e, here) at k.1)))
          (λ e. rw (other u e) k);
      stays = λ u e. by_equality u t
          (λ q. clash (is_asked (train_of s t).status) asks (rw (← q, h.stays u e) e))
          (λ q. other u q ∙ h.stays u e);
    }

settled_gives : (table : List ℕ) (w : Work) → Consistent w.state → Gives w.state (settled table w)
settled_gives table w d =
    grants_keep table (Gives w.state) (granted_gives table w.state) w.state.trains w (record {
      valid_state = d;
      keeps = λ t p held. (held, refl);
      stays = λ t e. refl;
    })

-- an AFE changes no train
declined_kept : (s : State) (m : Move) (w : Work) → KeptFrom s w.state → KeptFrom s (declined m w).state
declined_kept s m w h = by_cases (is_asked (train_of w.state m.train.0).status) (λ e. rw e h) (λ e. rw e h)

-- ---- a new frame

accepted_kept : (table : List ℕ) (s : State) → Consistent s → (a : Message) → Taken s a
    → KeptFrom s (anew table s a).state
unfolding anew
-- the asker stays where it is, on its track
accepted_kept table s d a (request m n free) =
    let t = m.train.0 in
    let idle = free_idle (train_of s t).status free in
    let x = with_status (train_of s t) (Asked s.logged) in
    let w = taken s (Fa m) x in
    let g = settled_gives table w (valid_request s d t n.known n.short idle) in
    let own = changed_own s t x (s.logged + 1) (short_place s t n.short) in
    let other = changed_other s t x (s.logged + 1) in
    declined_kept s m (settled table w) (λ u p held after.
    by_equality u t
    (λ e. rw e (
    let still : holds_post (located w.state t) p ≡ true = rw own (rw (e, idle) at held) in
    (g.keeps t p still).1 ∙ rw (own, idle_ahead (train_of s t).status idle)))
    (λ e.
    let still : holds_post (located w.state u) p ≡ true = rw (other u e) held in
    (g.keeps u p still).1 ∙ rw (other u e)))
-- the train that arrives has left its post, and has at the next one the track it ran to
accepted_kept table s d a (arrival m n runs) =
    let t = m.train.0 in
    let x = arrived_next s.sidings (train_of s t) in
    let w = taken s (Am m) x in
    let end = (settled table w).state in
    let g = settled_gives table w (valid_arrival s d t n.known n.short runs) in
    let own = changed_own s t x (s.logged + 1) (short_place s t n.short) in
    let other = changed_other s t x (s.logged + 1) in
    let sidings : end.sidings ≡ s.sidings = ap (λ (l : Line). l.sidings) (settled_settles table w).line in
    let same : train_of end t ≡ x = g.stays t (rw own) ∙ own in
    λ u p held after. by_equality u t
    (λ e.
    let there : holds_post (located_at s.sidings x) p ≡ true = rw (e, sidings, same) at after in
    rw (e, same) (arrival_track s d t n.known n.short runs p there))
    (λ e.
    let still : holds_post (located w.state u) p ≡ true = rw (other u e) held in
    (g.keeps u p still).1 ∙ rw (other u e))
-- a gang holds no track
accepted_kept table s d a (lending m n free few) = λ u p held after. refl
accepted_kept table s d a (return m n back) =
    let w = begun (with_possession s m.from.0 false s.given) (record_of (Lb m)) in
    let k = return_begins s d m.from.0 in
    λ u p held after. ((settled_gives table w k.valid_state).keeps u p held).1

pub track_kept : TrackKept
track_kept s table journal frame out t p =
    by_verdict s table journal frame out (λ a. KeptFrom s a.state)
    (λ n e u i held after. refl)
    (λ q answers r u i held after. refl)
    (λ q k. accepted_kept table s q.valid_state (read_frame frame) k) t p
