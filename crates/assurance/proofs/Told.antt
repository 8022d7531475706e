-- The observer tells of each train what its record says, so that the invariant says what is claimed.
use mathlib.Core.Path.{◌≡◌, refl, sym, ap, ◌∙◌}
use mathlib.Core.Logic.{◌≢◌}
use mathlib.Core.Bool.{false, cond}
use mathlib.Core.List.{List}
use Prim.Native.Nat.{ℕ, ◌+◌, ◌<◌}
use native.Mathlib.Omega.{arith}
use Rattle.common.specs.Below.{of_bool}
use Rattle.common.proofs.Tests.{not_passed}
use Rattle.common.proofs.Below.{count_cong}
use Rattle.line.specs.Route.{next_post, distance}
use Rattle.line.specs.Line.{route_of}
use Rattle.line.specs.Holding.{Whereabouts, moving, standing, holds_post, holds_section, post_holders, section_holders}
use Rattle.rules.specs.declared.state.Status.{Status}
use Rattle.rules.specs.declared.state.Status.TheVariants.{Free, Asked, Running}
use Rattle.rules.specs.declared.state.Train.{Train}
use Rattle.rules.specs.State.{is_free, is_asked, is_running, next_of, track_at, train_of, line_of, located as recorded}
use Rattle.rules.specs.State.{possessed, holders_of, reached}
use Rattle.rules.proofs.Trains.{route_of_lem}
use Rattle.rules.proofs.Validity.{section_one}
use Rattle.assurance.specs.Types.{Record, State}
use Rattle.assurance.specs.Run.{Ran}
use Rattle.assurance.specs.Observer.{nothing, authority, Seen, Observer, located_by, located_told, has_authority}
use Rattle.assurance.specs.Observer.{holders_told, has_asked, next_told, reached_told}
use Rattle.assurance.specs.Tracks.{Tracks, track_told}
use Rattle.assurance.specs.WholeList.{ShortOfEnd, Unhindered, Assured}
use Rattle.assurance.proofs.Invariant.{claim_of, seen_of, Invariant}
use Rattle.assurance.proofs.Standstill.{goes_on}
use Rattle.assurance.proofs.Exchanged.{Settled, valid_settled}
use Rattle.assurance.proofs.Tracking.{TracksAgree}
use Rattle.assurance.proofs.Ran.{AllRequested}

-- ---- a claim, by a status

located_as : (w : Status) (here : Whereabouts) (p q : ℕ)
    → located_by here (claim_of w p q) ≡ cond (is_running w) (moving p q) here
located_as Free here p q = refl
located_as (Asked n) here p q = refl
located_as (Running k) here p q = refl

asked_as_lem : (w : Status) (p q : ℕ) → has_asked (claim_of w p q) ≡ is_asked w
asked_as_lem Free p q = refl
asked_as_lem (Asked n) p q = refl
asked_as_lem (Running k) p q = refl

authority_as : (w : Status) (p q : ℕ) → has_authority (claim_of w p q) ≡ is_running w
authority_as Free p q = refl
authority_as (Asked n) p q = refl
authority_as (Running k) p q = refl

claim_move : (w : Status) (a b p q : ℕ) → claim_of w a b ≡ authority p q → (p ≡ a) × (q ≡ b)
claim_move Free a b p q e = absurd (let z : ◌≡◌ {A = ℕ} 0 1 = cc in omega arith)
claim_move (Asked n) a b p q e = absurd (let z : ◌≡◌ {A = ℕ} 0 1 = cc in omega arith)
claim_move (Running k) a b p q e = (cc, cc)

some_claim : (w : Status) (p q : ℕ) → claim_of w p q ≢ nothing → is_free w ≡ false
some_claim Free p q h = absurd (h refl)
some_claim (Asked n) p q h = refl
some_claim (Running k) p q h = refl

-- ---- each train, by its record

module _ (table : List ℕ) (s : State) (j : List Record) (o : Observer) (inv : Invariant table s j o) (t : ℕ)
    (kt : t < s.trains) where
  abbrev x : Train
  x = train_of s t

  pub seen : o.train t ≡ seen_of x
  seen = (inv.each t kt).seen

  pub told : located_told (line_of s) o t ≡ recorded s t
  told =
      rw (seen, route_of_lem s t)
      (located_as x.status (standing s.sidings x.route.end.0 x.at.0) x.at.0 (next_of x))

  pub at_post : (o.train t).post ≡ x.at.0
  at_post = ap (λ (y : Seen). y.post) seen

  pub asked_told : has_asked (o.train t).claim ≡ is_asked x.status
  asked_told = ap (λ (y : Seen). has_asked y.claim) seen ∙ asked_as_lem x.status x.at.0 (next_of x)

  pub authority_told : has_authority (o.train t).claim ≡ is_running x.status
  authority_told = ap (λ (y : Seen). has_authority y.claim) seen ∙ authority_as x.status x.at.0 (next_of x)

  pub next_told_lem : next_told (line_of s) o t ≡ next_of x
  next_told_lem = ap (λ (p : ℕ). next_post p (route_of (line_of s) t).end.0) at_post ∙ rw (route_of_lem s t)

  pub reached_told_lem : reached_told (line_of s) o t ≡ reached s t
  reached_told_lem =
      ap (λ (y : Seen). distance (route_of (line_of s) t).start.0 y.post + of_bool (has_authority y.claim)) seen
      ∙ rw (route_of_lem s t, authority_as x.status x.at.0 (next_of x))

-- ---- who holds

module _ (table : List ℕ) (s : State) (j : List Record) (o : Observer) (inv : Invariant table s j o) where
  abbrev seen_at : ℕ → Whereabouts
  seen_at = located_told (line_of s) o

  pub sections_told : (i : ℕ) → section_holders s.trains seen_at i ≡ section_holders s.trains (recorded s) i
  sections_told i = count_cong s.trains (λ u. holds_section (seen_at u) i) (λ u. holds_section (recorded s u) i)
      (λ u ku. ap (λ (w : Whereabouts). holds_section w i) (told table s j o inv u ku))

  -- the gangs among them
  pub holders_told_lem : (i : ℕ) → holders_told (line_of s) o i ≡ holders_of s i
  holders_told_lem i = rw (sections_told i, inv.gangs i)

  pub posts_told : (p : ℕ) → post_holders s.trains seen_at p ≡ post_holders s.trains (recorded s) p
  posts_told p = count_cong s.trains (λ u. holds_post (seen_at u) p) (λ u. holds_post (recorded s u) p)
      (λ u ku. ap (λ (w : Whereabouts). holds_post w p) (told table s j o inv u ku))

  -- on which tracks
  pub track_as : (k : Tracks) → TracksAgree s k → (p t : ℕ) → t < s.trains
      → track_told o k t p ≡ track_at (train_of s t) p
  track_as k h p t kt = rw (seen table s j o inv t kt, h.each t kt)

-- ---- the claim over a list

module _ (table : List ℕ) (r : Ran) (o : Observer) (settled : Settled table r.state r.journal o) where
  abbrev inv : Invariant table r.state r.journal o
  inv = settled.kept

  onward_move : (t p q : ℕ) → t < r.state.trains → (o.train t).claim ≡ authority p q
      → (p ≡ (o.train t).post) × (q ≡ next_told (line_of r.state) o t)
  onward_move t p q kt e =
      let x = train_of r.state t in
      let same = ap (λ (y : Seen). y.claim) (seen table r.state r.journal o inv t kt) in
      let m = claim_move x.status x.at.0 (next_of x) p q (sym same ∙ e) in
      (m.0 ∙ sym (at_post table _ _ o inv t kt), m.1 ∙ sym (next_told_lem table _ _ o inv t kt))

  short_of_end : (t : ℕ) → t < r.state.trains → (o.train t).claim ≢ nothing → ShortOfEnd (line_of r.state) o t
  short_of_end t kt some e =
      let s = r.state in
      let here = at_post table _ _ o inv t kt in
      let same = ap (λ (y : Seen). y.claim) (seen table s r.journal o inv t kt) in
      (inv.valid_state.each t kt).busy (some_claim (train_of s t).status _ _ (λ q. some (same ∙ q)))
      (sym here ∙ e ∙ rw (route_of_lem s t))

  pub not_waiting : ((i : ℕ) → o.gangs i ≡ 0) → (t : ℕ) → t < r.state.trains → ShortOfEnd (line_of r.state) o t
      → Unhindered (line_of r.state) o
  not_waiting none t kt short =
      let s = r.state in
      let gone : (i : ℕ) → possessed s i ≡ false =
      λ i. not_passed (possessed s i) (λ e. omega (arith, none i, inv.gangs i, ap of_bool e)) in
      let g =
      goes_on table s inv.valid_state inv.right inv.completable gone settled.nobody t kt
      (λ e. short (at_post table _ _ o inv t kt ∙ e ∙ rw (route_of_lem s t))) in
      record {
        train = g.0;
        known = g.1;
        short = λ e. g.2 (sym (at_post table _ _ o inv g.0 g.1) ∙ e ∙ rw (route_of_lem s g.0));
        unasked = asked_told table _ _ o inv g.0 g.1 ∙ g.3;
      }

  pub assured : AllRequested r → (k : Tracks) → TracksAgree r.state k → Assured (line_of r.state) r o k
  assured requested k h =
      let s = r.state in
      let told = told table s r.journal o inv in
      let track = track_as table s r.journal o inv k h in
      record {
        sections = λ i. rw (holders_told_lem table s r.journal o inv i) (section_one s inv.valid_state i);
        posts = λ p kp.
            rw (posts_told table s r.journal o inv p) (inv.valid_state.posts p kp);
        tracks = λ p t u kp kt ku a b e. inv.valid_state.differ p t u kp kt ku
            (rw (told t kt) at a) (rw (told u ku) at b) (sym (track p t kt) ∙ e ∙ track p u ku);
        tracks_of_post = λ p t kp kt a.
            rw (track p t kt) (inv.valid_state.tracks p t kp kt (rw (told t kt) at a));
        moves = onward_move;
        short = short_of_end;
        requests = requested;
        onward = not_waiting;
        authorities_given = λ t kt. (inv.each t kt).authorities;
        authorities_seen = λ t kt.
            (inv.each t kt).authorities ∙ sym (reached_told_lem table _ _ o inv t kt);
        valid_state = valid_settled settled;
      }
