-- Alike states: the same tests pass, the same trains are granted, and a train's new record leaves them alike.
use mathlib.Core.Path.{◌≡◌, refl, sym, ap, subst, ◌∙◌}
use mathlib.Core.Bool.{Bool, true, cond, ◌&&◌}
use mathlib.Core.Option.{Option, none, some}
use mathlib.Core.List.{List, [], ◌∷◌, ◌++◌}
use Prim.Native.Nat.{ℕ, zero, suc, ◌+◌, ◌≤◌, ◌<◌}
use native.Mathlib.Omega.{arith}
use lib.Dec.{eqb, ltb}
use lib.ListN.{length, length-set}
use borrow.Author.Tests.{ltb-true}
use Rattle.common.specs.Below.{of_bool}
use Rattle.common.specs.Update.{update}
use Rattle.common.specs.Check.{Check, check, refusal}
use Rattle.common.proofs.Tests.{by_cases, by_equality, same_test}
use Rattle.common.proofs.Below.{count_cong, any_cong}
use Rattle.common.proofs.Check.{check_passes, check_fails}
use Rattle.line.specs.Route.{section_of}
use Rattle.line.specs.Refusal.{unknown_train, wrong_post, section_taken, no_local_run, twenty_given}
use Rattle.line.specs.Line.{route_of, tracks_at}
use Rattle.line.specs.Holding.{holds_post, holds_section, post_holders, section_holders}
use Rattle.completion.specs.Configuration.{moved, code_below}
use Rattle.completion.specs.Table.{bit_of}
use Rattle.completion.proofs.Codes.{code_cong}
use Rattle.frame.specs.Frame.{move_of, read_frame}
use Rattle.tracks.proofs.Choice.{track_cong}
use Rattle.journal.specs.Journal.{record_on}
use Rattle.rules.specs.declared.state.Train.{Train}
use Rattle.rules.specs.declared.state.Status.TheVariants.{Running}
use Rattle.rules.specs.State.{is_asked, next_of, located_at, track_at, reached_by, train_of, line_of, located}
use Rattle.rules.specs.State.{track_held}
use Rattle.rules.specs.State.{possessed, holders_of, free_track, reached, next_move, with_status, with_possession}
use Rattle.rules.specs.State.{state_with, one_logged}
use Rattle.rules.specs.Valid.{most_given, valid}
use Rattle.rules.specs.Granting.{grantable, older, oldest, Work, granted, proceed, grants, granting, grant_record}
use Rattle.rules.specs.Answer.{outer_checks, knows, gang_byte, content_checks, frame_checks}
use Rattle.rules.proofs.Trains.{route_of_lem, in_fleet, changed, changed_own, changed_other}
use Rattle.rules.proofs.Validity.{TrainValid, Consistent, valid_facts, few_logged, is_valid, asked_short}
use Rattle.rules.proofs.Validity.{next_post_below}
use Rattle.rules.proofs.Changes.{grantable_facts, is_grantable}
use Rattle.rules.proofs.Oldest.{oldest_some}
use Rattle.rules.proofs.Possessions.{others_possessed, own_possessed}
use Rattle.rules.proofs.Grants.{Turn, granted_place}
use Rattle.rules.proofs.Settling.{granted_valid}
use Rattle.assurance.specs.Types.{Move, Message, Fa, Fe, Afe, Am, La, Le, Lb, Refused, State}
use Rattle.conduct.specs.Unread.{Alike}

-- ---- checks that are the same where those before them pass

check_same : (c : Check) (cs ds : List Check) → (c.passes ≡ true → refusal cs ≡ refusal ds)
    → refusal (c ∷ cs) ≡ refusal (c ∷ ds)
check_same c cs ds h = by_cases c.passes
    (λ e. check_passes c cs e ∙ h e ∙ sym (check_passes c ds e))
    (λ e. check_fails c cs e ∙ sym (check_fails c ds e))

after_same : (bs cs ds : List Check) → refusal cs ≡ refusal ds → refusal (bs ++ cs) ≡ refusal (bs ++ ds)
after_same [] cs ds h = h
after_same (b ∷ bs) cs ds h = check_same b (bs ++ cs) (bs ++ ds) (λ e. after_same bs cs ds h)

-- ---- the tests

alike_back : (s u : State) → Alike s u → Alike u s
alike_back s u a = record {
  posts = sym a.posts;
  sidings = sym a.sidings;
  trains = sym a.trains;
  logged = sym a.logged;
  tracks = λ p k. sym (a.tracks p (omega (arith, a.posts, a.trains)));
  train = λ t k. sym (a.train t (omega (arith, a.trains)));
  given = sym a.given;
  sections = λ i. sym (a.sections i);
  places = sym a.places;
}

module _ (s u : State) (a : Alike s u) where
  -- what is read of a train's record
  of_train_lem : {A : Type 0} (f : Train → A) (t : ℕ) → t < s.trains → f (train_of u t) ≡ f (train_of s t)
  of_train_lem f t k = ap f (a.train t k)

  section_same : (i : ℕ) → section_holders u.trains (located u) i ≡ section_holders s.trains (located s) i
  section_same i =
      rw (a.trains, a.sidings)
      (count_cong s.trains _ _ (of_train_lem (λ x. holds_section (located_at s.sidings x) i)))

  holders_same : (i : ℕ) → holders_of u i ≡ holders_of s i
  holders_same i = ap (λ (b : Bool). section_holders u.trains (located u) i + of_bool b) (a.sections i)
      ∙ ap (λ (n : ℕ). n + of_bool (possessed s i)) (section_same i)

  post_same : (p : ℕ) → post_holders u.trains (located u) p ≡ post_holders s.trains (located s) p
  post_same p =
      rw (a.trains, a.sidings)
      (count_cong s.trains _ _ (of_train_lem (λ x. holds_post (located_at s.sidings x) p)))

  free_same : (t p : ℕ) → t < s.trains → p < s.posts → free_track u t p ≡ free_track s t p
  free_same t p kt kp =
      let held : (k : ℕ) → track_held u p k ≡ track_held s p k = λ k.
      rw (a.trains, a.sidings)
      (any_cong s.trains _ _
      (of_train_lem (λ x. holds_post (located_at s.sidings x) p && eqb (track_at x p) k))) in
      rw (a.train t kt, a.tracks p kp)
      (track_cong (train_of s t).route (track_held u p) (track_held s p) (tracks_at (line_of s) p)
      (λ k l. held (suc k)))

  route_same : (t : ℕ) → t < s.trains → route_of (line_of u) t ≡ route_of (line_of s) t
  route_same t k = route_of_lem u t ∙ of_train_lem (λ x. x.route) t k ∙ sym (route_of_lem s t)

  valid_alike : Consistent s → Consistent u
  valid_alike d =
      let posts : (p : ℕ) → p < u.posts → p < s.posts = λ p k. rw (sym a.posts) k in
      let trains : (t : ℕ) → t < u.trains → t < s.trains = λ t k. rw (sym a.trains) k in
      record {
        line = record {
          some_posts = rw a.posts d.line.some_posts;
          few_posts = rw a.posts d.line.few_posts;
          some_tracks = λ p k. rw (a.tracks p (posts p k)) (d.line.some_tracks p (posts p k));
          few_tracks = λ p k. rw (a.tracks p (posts p k)) (d.line.few_tracks p (posts p k));
          on_line = rw (a.posts, a.sidings) d.line.on_line;
          some_trains = rw a.trains d.line.some_trains;
          few_trains = rw a.trains d.line.few_trains;
          starts = λ t k. rw (a.posts, route_same t (trains t k)) (d.line.starts t (trains t k));
          ends = λ t k. rw (a.posts, route_same t (trains t k)) (d.line.ends t (trains t k));
        };
        each = λ t k. rw (a.train t (trains t k))
            (subst (TrainValid (train_of s t)) (sym a.logged) (d.each t (trains t k)));
        sections = λ i k. subst (λ (n : ℕ). n ≤ 1) (sym (holders_same i)) (d.sections i (posts i k));
        posts = λ p k. rw (post_same p, a.tracks p (posts p k)) (d.posts p (posts p k));
        tracks = λ p t k kt. rw (a.sidings, a.train t (trains t kt), a.tracks p (posts p k))
            (d.tracks p t (posts p k) (trains t kt));
        differ = λ p t v k kt kv. rw (a.sidings, a.train t (trains t kt), a.train v (trains v kv))
            (d.differ p t v (posts p k) (trains t kt) (trains v kv));
        away = λ t k. rw (a.sidings, a.train t (trains t k)) (d.away t (trains t k));
        distinct = λ t v kt kv. rw (a.train t (trains t kt), a.train v (trains v kv))
            (d.distinct t v (trains t kt) (trains v kv));
        few_given = rw a.given d.few_given;
      }

  code_same : (t : ℕ) → t < s.trains
      → code_below u.trains (moved (reached u) t) ≡ code_below s.trains (moved (reached s) t)
  unfolding update
  code_same t k = rw a.trains (code_cong s.trains _ _ (λ v l.
      ap (λ (x : Train). cond (eqb v t) (reached_by x + 1) (reached u v)) (a.train t k)
      ∙ ap (λ (x : Train). cond (eqb v t) (reached s t + 1) (reached_by x)) (a.train v l)))

  -- a train that can be granted is short of its end, so that its next post is below P
  grantable_alike : (table : List ℕ) → Consistent s → (t : ℕ) → t < s.trains → grantable table s t ≡ true
      → grantable table u t ≡ true
  grantable_alike table d t k e =
      let g = grantable_facts table s t e in
      let next = next_of (train_of s t) in
      let below = next_post_below s d t k (asked_short s d t k g.asks) in
      is_grantable table u t (record {
        asks = of_train_lem (λ x. is_asked x.status) t k ∙ g.asks;
        section =
            holders_same _
            ∙ of_train_lem (λ x. holders_of s (section_of x.at.0 (next_of x))) t k
            ∙ g.section;
        track = λ z. g.track (sym (free_same t next k below)
            ∙ ap (λ (x : Train). free_track u t (next_of x)) (sym (a.train t k)) ∙ z);
        bit = ap (bit_of table) (code_same t k) ∙ g.bit;
      })

-- the checks of an LA and of an LB, by what they read of a state
abbrev lending_by : ℕ → ℕ → ℕ → Move → List Check
lending_by posts holders given m =
    check unknown_train (eqb m.train.0 gang_byte)
    ∷ check wrong_post (eqb m.to.0 (m.from.0 + 1) && ltb m.to.0 posts)
    ∷ check section_taken (eqb holders 0)
    ∷ check twenty_given (ltb given most_given)
    ∷ []

abbrev return_by : ℕ → Bool → Move → List Check
return_by posts held m =
    check unknown_train (eqb m.train.0 gang_byte)
    ∷ check wrong_post (eqb m.to.0 (m.from.0 + 1) && ltb m.to.0 posts)
    ∷ check no_local_run held
    ∷ []

module _ (s u : State) (a : Alike s u) where
  valid_same : valid u ≡ valid s
  valid_same = same_test (valid u) (valid s)
      (λ e. is_valid s (valid_alike u s (alike_back s u a) (valid_facts u e)) (rw (← a.logged) (few_logged u e)))
      (λ e. is_valid u (valid_alike s u a (valid_facts s e)) (rw a.logged (few_logged s e)))

  -- the checks after 7 are reached with a train below T only
  content_same : (b : Message) → refusal (content_checks u b) ≡ refusal (content_checks s b)
  content_same (Fa m) = rw a.trains (check_same (check unknown_train (knows s m)) _ _
      (λ e. rw (a.train m.train.0 (ltb-true m.train.0 s.trains e))))
  content_same (Am m) = rw a.trains (check_same (check unknown_train (knows s m)) _ _
      (λ e. rw (a.train m.train.0 (ltb-true m.train.0 s.trains e))))
  content_same (La m) =
      ap (λ (n : ℕ). refusal (lending_by n (holders_of u m.from.0) u.given m)) a.posts
      ∙ ap (λ (n : ℕ). refusal (lending_by s.posts n u.given m)) (holders_same s u a m.from.0)
      ∙ ap (λ (n : ℕ). refusal (lending_by s.posts (holders_of s m.from.0) n m)) a.given
  content_same (Lb m) =
      ap (λ (n : ℕ). refusal (return_by n (possessed u m.from.0) m)) a.posts
      ∙ ap (λ (b : Bool). refusal (return_by s.posts b m)) (a.sections m.from.0)
  content_same (Fe m) = refl
  content_same (Afe m) = refl
  content_same (Le m) = refl
  content_same (Refused n) = refl

  pub refusal_same : (table records : ℕ) (frame : List ℕ) (room : ℕ)
      → refusal (frame_checks u table records frame room) ≡ refusal (frame_checks s table records frame room)
  refusal_same table records frame room =
      rw valid_same (after_same (outer_checks s table records frame room) _ _ (content_same (read_frame frame)))

  -- ---- who can be granted

  module _ (table : List ℕ) (d : Consistent s) where
    grantable_same : (t : ℕ) → t < s.trains → grantable table u t ≡ grantable table s t
    grantable_same t k = same_test (grantable table u t) (grantable table s t)
        (grantable_alike u s (alike_back s u a) table (valid_alike s u a d) t (rw a.trains k))
        (grantable_alike s u a table d t k)

    oldest_below : (n : ℕ) → n ≤ s.trains → oldest table u n ≡ oldest table s n
    unfolding oldest
    oldest_below zero k = refl
    oldest_below (suc n) k = at (oldest_below n (omega arith))
      where
        older_same : (r : Option ℕ) → oldest table s n ≡ r → older u n r ≡ older s n r
        older_same none e = refl
        older_same (some v) e =
            let f = (oldest_some table s n v e).known in
            rw (a.train n (omega arith), a.train v (omega arith))

        at : oldest table u n ≡ oldest table s n → oldest table u (suc n) ≡ oldest table s (suc n)
        at ih = rw (grantable_same n (omega arith), ih, older_same (oldest table s n) refl)

    oldest_same : oldest table u u.trains ≡ oldest table s s.trains
    oldest_same = ap (oldest table u) a.trains ∙ oldest_below s.trains (omega arith)

  -- a train that is granted gets the same track
  module _ (d : Consistent s) (t : ℕ) (k : t < s.trains) (asks : is_asked (train_of s t).status ≡ true) where
    track_same : free_track u t (next_of (train_of s t)) ≡ free_track s t (next_of (train_of s t))
    track_same = free_same s u a t (next_of (train_of s t)) k (next_post_below s d t k (asked_short s d t k asks))

    granting_same : granting u t ≡ granting s t
    granting_same =
        ap (λ (x : Train). with_status x (Running (record { 0 = free_track u t (next_of x) }))) (a.train t k)
        ∙ ap (λ (n : ℕ). with_status (train_of s t) (Running (record { 0 = n }))) track_same

    record_same : grant_record u t ≡ grant_record s t
    record_same =
        ap (λ (x : Train). record_on (free_track u t (next_of x)) (Fe (move_of t x.at.0 (next_of x)))) (a.train t k)
        ∙ ap (λ (n : ℕ). record_on n (Fe (next_move s t))) track_same

  -- ---- a change of one train's record

  pub changed_alike : (t : ℕ) (x y : Train) (m n : ℕ) → t < length s.fleet → t < length u.fleet → y ≡ x → n ≡ m
      → Alike (changed s t x m) (changed u t y n)
  changed_alike t x y m n ks ku e z = record {
    posts = a.posts;
    sidings = a.sidings;
    trains = a.trains;
    logged = z;
    tracks = a.tracks;
    train = λ v k. by_equality v t
        (λ q. rw q (changed_own u t y n ku ∙ e ∙ sym (changed_own s t x m ks)))
        (λ h. changed_other u t y n v h ∙ a.train v k ∙ sym (changed_other s t x m v h));
    given = a.given;
    sections = a.sections;
    places = a.places;
  }

  -- ---- other possessions and other counts

  module _ (ps qs : List Bool) (given given' logged logged' : ℕ) where
    abbrev before : State
    before = state_with s s.fleet ps given logged

    abbrev after : State
    after = state_with u u.fleet qs given' logged'

    sections_alike : given' ≡ given → logged' ≡ logged → ((i : ℕ) → possessed after i ≡ possessed before i)
        → length qs ≡ length ps → Alike before after
    sections_alike e z same places = record {
      posts = a.posts;
      sidings = a.sidings;
      trains = a.trains;
      logged = z;
      tracks = a.tracks;
      train = a.train;
      given = e;
      sections = same;
      places = places;
    }

  -- a section that is lent or given back
  pub possession_alike : (i : ℕ) (held : Bool) (m n : ℕ) → n ≡ m
      → Alike (with_possession s i held m) (with_possession u i held n)
  possession_alike i held m n e = sections_alike _ _ _ _ _ _ e a.logged
      (λ k. by_equality k i
      (λ q. rw q (own_possessed u i held n ∙ rw (a.posts, a.places) (sym (own_possessed s i held m))))
      (λ h. others_possessed u i held n k h ∙ a.sections k ∙ sym (others_possessed s i held m k h)))
      (length-set u.possessions i held ∙ a.places ∙ sym (length-set s.possessions i held))

  -- a record logged alone
  pub logged_alike : Alike (one_logged s) (one_logged u)
  logged_alike =
      sections_alike _ _ _ _ _ _ a.given (ap (λ (n : ℕ). n + 1) a.logged) a.sections a.places

-- ---- the work

pub record SameWork (w v : Work) : Type 0 where
  pub state : Alike w.state v.state
  pub logged : v.logged ≡ w.logged
  pub sent : v.sent ≡ w.sent

module _ (table : List ℕ) where
  granted_same : (w v : Work) (t : ℕ) → Consistent w.state → SameWork w v → Turn table w t
      → SameWork (granted w t) (granted v t)
  granted_same w v t d k f =
      let e = k.state.train t f.known in
      let own = (grantable_facts table w.state t f.can).asks in
      let asks : is_asked (train_of v.state t).status ≡ true = rw e own in
      record {
        state = changed_alike w.state v.state k.state t _ _ _ _ (granted_place table w t f)
            (in_fleet v.state t (λ x. is_asked x.status) refl asks)
            (granting_same w.state v.state k.state d t f.known own)
            (ap (λ (n : ℕ). n + 1) k.state.logged);
        logged = rw (k.logged, record_same w.state v.state k.state d t f.known own);
        sent = rw (k.sent, e);
      }

  pub grants_same : (n : ℕ) (w v : Work) → Consistent w.state → SameWork w v
      → SameWork (grants table n w) (grants table n v)
  unfolding grants
  grants_same zero w v d k = k
  grants_same (suc n) w v d k = rw (oldest_same w.state v.state k.state table d)
      (at (oldest table w.state w.state.trains) refl
      (λ t p q. grants_same n (granted w t) (granted v t) p q))
    where
      at : (o : Option ℕ) → oldest table w.state w.state.trains ≡ o
          → ((t : ℕ) → Consistent (granted w t).state → SameWork (granted w t) (granted v t)
          → SameWork (grants table n (granted w t)) (grants table n (granted v t)))
          → SameWork (proceed o w (λ t. grants table n (granted w t))) (proceed o v (λ t. grants table n (granted v t)))
      at none e rest = k
      at (some t) e rest =
          let f = oldest_some table w.state w.state.trains t e in
          rest t (granted_valid table w t d f) (granted_same w v t d k f)
