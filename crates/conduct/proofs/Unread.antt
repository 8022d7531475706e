-- The claims of `specs/Unread.antt`, proved over the laws of alike states.
use mathlib.Core.Path.{◌≡◌, refl, sym, ap, subst, ◌∙◌}
use mathlib.Core.Logic.{◌≢◌}
use mathlib.Core.Bool.{Bool, true, false}
use mathlib.Core.List.{List}
use Prim.Native.Nat.{ℕ, ◌+◌, ◌≤◌, ◌<◌}
use native.Mathlib.Omega.{arith}
use lib.ListN.{length, set, get_or, length-set}
use lib.Seq.{get_or-set_other}
use Rattle.common.specs.Check.{refusal, unless_refused}
use Rattle.common.proofs.Tests.{by_cases, by_equality}
use Rattle.common.proofs.Check.{refuses}
use Rattle.frame.specs.Frame.{move_in, read_frame}
use Rattle.journal.specs.Journal.{record_of}
use Rattle.rules.specs.declared.state.Train.{Train}
use Rattle.rules.specs.declared.state.Status.TheVariants.{Asked}
use Rattle.rules.specs.State.{is_asked, train_of, with_status, arrived_next, state_with, with_possession, one_logged}
use Rattle.rules.specs.Granting.{Work, begun, sends, grants, settled}
use Rattle.rules.specs.Answer.{again, frame_checks, taken, declined, anew, accepted, answered, refused, answer}
use Rattle.rules.proofs.Trains.{free_idle, changed, changed_other, changed_each}
use Rattle.rules.proofs.Validity.{Consistent}
use Rattle.rules.proofs.Changes.{short_place, valid_request, valid_arrival}
use Rattle.rules.proofs.Grants.{grants_keep, granted_place}
use Rattle.rules.proofs.Settling.{settled_settles}
use Rattle.rules.proofs.Acceptance.{NextMove, Taken, request, arrival, lending, return, Repeats, declined_before}
use Rattle.rules.proofs.Acceptance.{granted_before, arrived_before, Content, new, old, frame_passed, taken_new}
use Rattle.rules.proofs.Acceptance.{repeats_again, accepted_again, accepted_anew, by_verdict, return_begins}
use Rattle.assurance.specs.Types.{Line, Move, Message, Fa, Afe, Am, Lb, Record, State}
use Rattle.conduct.specs.Unread.{Alike, SameAnswer, Unread, Kept, LeftAlone}
use Rattle.conduct.proofs.Alike.{SameWork, refusal_same, changed_alike, possession_alike, logged_alike}
use Rattle.conduct.proofs.Alike.{grants_same}

-- ---- the places are not read

-- the granting
settled_same : (table : List ℕ) (w v : Work) → Consistent w.state → SameWork w v
    → SameWork (settled table w) (settled table v)
settled_same table w v d k =
    subst (λ (n : ℕ). SameWork (settled table w) (grants table n v)) (sym k.state.trains)
    (grants_same table w.state.trains w v d k)

-- the frame's own change of its train's record
taken_same : (s u : State) → Alike s u → (b : Message) (x y : Train) → y ≡ x
    → let t = (move_in b).train.0 in
    t < s.trains → (train_of s t).at.0 ≢ (train_of s t).route.end.0 → SameWork (taken s b x) (taken u b y)
taken_same s u a b x y same known short =
    let t = (move_in b).train.0 in
    record {
      state = changed_alike s u a t x y _ _ (short_place s t short) (short_place u t (rw (a.train t known) short))
          same (ap (λ (n : ℕ). n + 1) a.logged);
      logged = refl;
      sent = refl;
    }

-- "If the asker was not granted, its AFE comes last."
declined_same : (m : Move) (w v : Work) → SameWork w v → m.train.0 < w.state.trains
    → SameWork (declined m w) (declined m v)
declined_same m w v k known = rw (k.state.train m.train.0 known)
    (by_cases (is_asked (train_of w.state m.train.0).status) (λ e. rw e more) (λ e. rw e k))
  where
    more : SameWork (sends w.state w (record_of (Afe m)) (Afe m)) (sends v.state v (record_of (Afe m)) (Afe m))
    more = record {
      state = logged_alike w.state v.state k.state;
      logged = rw k.logged;
      sent = rw k.sent;
    }

accepted_same : (table : List ℕ) (s u : State) → Alike s u → Consistent s → (b : Message) → Taken s b
    → SameWork (anew table s b) (anew table u b)
unfolding anew
accepted_same table s u a d b (request m n free) =
    let x = with_status (train_of s m.train.0) (Asked s.logged) in
    let y = with_status (train_of u m.train.0) (Asked u.logged) in
    let same : y ≡ x = rw (a.train m.train.0 n.known, a.logged) in
    let v = valid_request s d m.train.0 n.known n.short (free_idle (train_of s m.train.0).status free) in
    let line = (settled_settles table (taken s (Fa m) x)).line in
    declined_same m _ _ (settled_same table _ _ v (taken_same s u a (Fa m) x y same n.known n.short))
    (rw (ap (λ (l : Line). l.trains) line) n.known)
accepted_same table s u a d b (arrival m n runs) =
    let x = arrived_next s.sidings (train_of s m.train.0) in
    let y = arrived_next u.sidings (train_of u m.train.0) in
    let same : y ≡ x = rw (a.sidings, a.train m.train.0 n.known) in
    let v = valid_arrival s d m.train.0 n.known n.short runs in
    settled_same table _ _ v (taken_same s u a (Am m) x y same n.known n.short)
accepted_same table s u a d b (lending m n free few) = record {
  state = possession_alike (one_logged (one_logged s)) (one_logged (one_logged u))
      (logged_alike _ _ (logged_alike s u a)) m.from.0 true _ _ (ap (λ (k : ℕ). k + 1) a.given);
  logged = refl;
  sent = refl;
}
accepted_same table s u a d b (return m n held) =
    let k = return_begins s d m.from.0 in
    settled_same table _ _ k.valid_state (record {
      state = logged_alike _ _ (possession_alike s u a m.from.0 false _ _ a.given);
      logged = refl;
      sent = refl;
    })

-- what repeats an earlier frame in the one state does so in the other
again_same : (s u : State) → Alike s u → (b : Message) → Content s b → again u b ≡ again s b
again_same s u a b (new t) = of t
  where
    of : {c : Message} → Taken s c → again u c ≡ again s c
    of (request m n free) = rw (a.train m.train.0 n.known)
    of (arrival m n runs) = rw (a.train m.train.0 n.known)
    of (lending m n free few) = refl
    of (return m n held) = refl
again_same s u a b (old answers r) = of r
  where
    of : {c : Message} {l : List Message} → Repeats s c l → again u c ≡ again s c
    of (declined_before m n asks) = rw (a.train m.train.0 n.known)
    of (granted_before m n runs) = rw (a.train m.train.0 n.known)
    of (arrived_before m known finished) = rw (a.train m.train.0 known)

content_same : (table : List ℕ) (s u : State) → Alike s u → Consistent s → (b : Message) → Content s b
    → SameWork (accepted table s b) (accepted table u b)
content_same table s u a d b c = of c
  where
    of : Content s b → SameWork (accepted table s b) (accepted table u b)
    of (new t) =
        let fresh = taken_new s d b t in
        rw (accepted_anew table s b fresh, accepted_anew table u b (again_same s u a b c ∙ fresh))
        (accepted_same table s u a d b t)
    of (old answers r) =
        let told = repeats_again r in
        rw (accepted_again table s b told, accepted_again table u b (again_same s u a b c ∙ told))
        (record { state = a; logged = refl; sent = refl })

answered_same : (s u : State) (journal : List Record) (out : List ℕ) (w v : Work) → Alike s u → SameWork w v
    → SameAnswer (answered s.logged journal out w) (answered u.logged journal out v)
answered_same s u journal out w v a k = record {
  state = k.state;
  verdict = rw k.sent;
  journal = rw (a.logged, k.logged);
  out = rw k.sent;
}

pub unread : Unread
unfolding answer unless_refused
unread s u table journal frame out a =
    let n = refusal (frame_checks s (length table) (length journal) frame (length out)) in
    let same = refusal_same s u a (length table) (length journal) frame (length out) in
    rw same (by_equality n 0
    (λ e.
    let p = frame_passed s table journal frame out e in
    rw e (answered_same s u journal out _ _ a
    (content_same table s u a p.valid_state (read_frame frame) p.message)))
    (λ h.
    let positive : 0 < n = omega arith in
    rw (refuses _ (refused s journal out) positive, refuses _ (refused u journal out) positive)
    (record { state = a; verdict = refl; journal = refl; out = refl })))

-- ---- nor written

kept_changed : (s v : State) (t : ℕ) (x : Train) (n : ℕ) → Kept s v → t < s.trains → t < length v.fleet
    → x.route ≡ (train_of v t).route → Kept s (changed v t x n)
kept_changed s v t x n k known place same = record {
  posts = k.posts;
  tracks = k.tracks;
  sidings = k.sidings;
  trains = k.trains;
  size = length-set v.fleet t x ∙ k.size;
  routes = λ i. changed_each v t x n (λ u y. y.route ≡ (train_of s u).route) place (same ∙ k.routes t) i
      (λ h. k.routes i);
  places = λ i h. changed_other v t x n i (λ e. omega arith) ∙ k.places i h;
  sections = k.sections;
}

-- other possessions on the line, and another count
kept_sections : (s v : State) (ps : List Bool) (given logged : ℕ) → Kept s v
    → ((i : ℕ) → s.posts ≤ i + 1 → get_or ps i false ≡ get_or v.possessions i false)
    → Kept s (state_with v v.fleet ps given logged)
kept_sections s v ps given logged k same = record {
  posts = k.posts;
  tracks = k.tracks;
  sidings = k.sidings;
  trains = k.trains;
  size = k.size;
  routes = k.routes;
  places = k.places;
  sections = λ i h. same i h ∙ k.sections i h;
}

kept_possession : (s v : State) (i : ℕ) (held : Bool) (n : ℕ) → Kept s v → i + 1 < s.posts
    → Kept s (with_possession v i held n)
kept_possession s v i held n k on = kept_sections s v (set v.possessions i held) n v.logged k
    (λ p h. get_or-set_other v.possessions i p held false (λ e. omega arith))

kept_logged : (s v : State) → Kept s v → Kept s (one_logged v)
kept_logged s v k = kept_sections s v v.possessions v.given (v.logged + 1) k (λ i h. refl)

unchanged : (s : State) → Kept s s
unchanged s = record {
  posts = refl;
  tracks = refl;
  sidings = refl;
  trains = refl;
  size = refl;
  routes = λ t. refl;
  places = λ t h. refl;
  sections = λ i h. refl;
}

settled_kept : (table : List ℕ) (s : State) (w : Work) → Kept s w.state
    → Kept s (settled table w).state
settled_kept table s w = grants_keep table (λ (v : Work). Kept s v.state)
    (λ v t k f. kept_changed s v.state t _ _ k (omega (arith, f.known, k.trains)) (granted_place table v t f) refl)
    w.state.trains w

declined_kept : (s : State) (m : Move) (w : Work) → Kept s w.state → Kept s (declined m w).state
declined_kept s m w k = by_cases (is_asked (train_of w.state m.train.0).status)
    (λ e. rw e (kept_logged s w.state k))
    (λ e. rw e k)

-- the frame's own change of its train's record
own_kept : (s : State) (m : Move) → NextMove s m → (x : Train) → x.route ≡ (train_of s m.train.0).route
    → Kept s (changed s m.train.0 x (s.logged + 1))
own_kept s m n x same =
    kept_changed s s m.train.0 x _ (unchanged s) n.known (short_place s m.train.0 n.short) same

accepted_kept : (table : List ℕ) (s : State) (b : Message) → Taken s b → Kept s (anew table s b).state
unfolding anew
accepted_kept table s b (request m n free) =
    let w = taken s (Fa m) (with_status (train_of s m.train.0) (Asked s.logged)) in
    declined_kept s m (settled table w)
    (settled_kept table s w (own_kept s m n _ refl))
accepted_kept table s b (arrival m n runs) =
    settled_kept table s (taken s (Am m) (arrived_next s.sidings (train_of s m.train.0)))
    (own_kept s m n _ refl)
accepted_kept table s b (lending m n free few) =
    kept_logged s _ (kept_logged s _ (kept_possession s s m.from.0 true _ (unchanged s) n.on))
accepted_kept table s b (return m n held) =
    settled_kept table s (begun (with_possession s m.from.0 false s.given) (record_of (Lb m)))
    (kept_logged s _ (kept_possession s s m.from.0 false _ (unchanged s) n.on))

pub left_alone : LeftAlone
left_alone s table journal frame out = by_verdict s table journal frame out (λ a. Kept s a.state)
    (λ n q. unchanged s)
    (λ p answers r. unchanged s)
    (λ p t. accepted_kept table s (read_frame frame) t)
