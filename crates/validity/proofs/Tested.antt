-- The tests of a state in the order in which the code makes them: the first that fails decides, and else the last.
-- Together they are those of `rules`.
use mathlib.Core.Path.{◌≡◌, refl, sym, ap, ◌∙◌}
use mathlib.Core.Logic.{◌≢◌, ⊎_elim}
use mathlib.Core.Bool.{Bool, true, false, not, ◌&&◌, ◌||◌, and-false, and-true}
use Prim.Native.Nat.{ℕ, ◌+◌, ◌≤◌, ◌<◌}
use native.Mathlib.Omega.{arith}
use lib.Count.{ones}
use lib.Dec.{leb, ltb}
use lib.ListN.{get_or}
use borrow.Author.Tests.{ltb-true, eqb-false, not-true}
use Rattle.common.specs.Below.{of_bool, all_below}
use Rattle.common.proofs.Tests.{same_test, and_left, and_right, and_both}
use Rattle.common.proofs.Below.{all_below_lem, below_all, all_cong}
use Rattle.line.specs.Route.{between}
use Rattle.line.specs.Line.{in_range, posts_in_range, tracks_in_range, sidings_on_line, trains_in_range}
use Rattle.line.specs.Line.{routes_on_line, well_formed}
use Rattle.line.specs.Holding.{holds_post, post_holders}
use Rattle.line.proofs.Travel.{between_of}
use Rattle.line.proofs.WellFormed.{high}
use Rattle.validity.specs.Types.{Status, Train, State, Holders}
use Rattle.holding.specs.Holders.{Placed, Held}
use Rattle.validity.specs.Tests.{counts_valid, on_line, record_valid, records_valid}
use Rattle.validity.specs.Tests.{held_within, own_tracks, place_valid}
use Rattle.rules.specs.State.{is_free, at_end, track_at, train_of, line_of, located, possessed, holders_of}
use Rattle.rules.proofs.Trains.{running_busy, route_of_lem}
use Rattle.holding.proofs.Located.{placed_at}
use Rattle.holding.proofs.HolderSets.{posts_counted, section_counted}
use Rattle.validity.proofs.OwnTracks.{own_tracks_lem}
use Rattle.rules.specs.Valid.{train_valid, sections_valid, posts_valid, track_valid, tracks_valid}
use Rattle.rules.specs.Valid.{away_valid}
use Rattle.rules.specs.Valid.{number_below, same_number, number_valid, most_given, consistent}

-- ---- one train's record

module _ (x : Train) where
  abbrev on_route : Bool
  on_route = between x.route.start.0 x.at.0 x.route.end.0

  abbrev fits : Bool
  fits = is_free x.status || not (at_end x)

  -- one that is not Free is short of its end
  short_of_end : train_valid x ≡ true → is_free x.status ≡ false → x.at.0 ≢ x.route.end.0
  short_of_end e f =
      let r : not (at_end x) ≡ true = rw f at (and_left fits _ (and_right on_route _ e)) in
      eqb-false _ _ (not-true _ r)

-- ---- the number of train t's request: w is its status

module _ (s : State) (t : ℕ) (w : Status) (e : w ≡ (train_of s t).status) where
  pub number_late : number_below w s.logged ≡ false → false ≡ number_valid s t
  number_late f = rw (← e, f)

  pub number_decides : number_below w s.logged ≡ true → (b : Bool)
      → b ≡ all_below t (λ u. not (same_number w (train_of s u).status)) → b ≡ number_valid s t
  number_decides f b g = g ∙ rw (← e, f)

-- ---- the sets of post p, of the section after it and of the tracks held there

module _ (s : State) (h : Holders) (held : Held s h) (p : ℕ) (small : p < 8)
    (gang : Bool) (own : gang ≡ possessed s p) where
  abbrev tracks : ℕ
  tracks = get_or s.tracks p 0

  abbrev within : Bool
  within = held_within tracks (ones (get_or h.posts p 0)) (ones (get_or h.sections p 0) + of_bool gang)

  within_same : within ≡ held_within tracks (post_holders s.trains (located s) p) (holders_of s p)
  within_same = rw (posts_counted s h held p small, section_counted s h held p small gang own)

  pub beyond : within ≡ false → place_valid s p ≡ false
  beyond e = rw (sym within_same ∙ e)

  pub few_tracks : within ≡ true → tracks < 8
  few_tracks e = let few = high 1 4 tracks (and_left (in_range 1 4 tracks) _ e) in omega arith

  pub place_tested : within ≡ true → (b : Bool)
      → b ≡ own_tracks tracks (ones (get_or h.posts p 0)) (get_or h.tracks p 0) → place_valid s p ≡ b
  place_tested e b f =
      rw (sym within_same ∙ e) (sym (f ∙ rw (posts_counted s h held p small, held.tracks p small)
      (own_tracks_lem (λ t. holds_post (located s t) p) (λ t. track_at (train_of s t) p) s.trains tracks
      (few_tracks e))))

-- ---- the state: the definition's tests are these

all_and : (n : ℕ) (f g : ℕ → Bool) → all_below n (λ k. f k && g k) ≡ all_below n f && all_below n g
all_and n f g = same_test (all_below n (λ k. f k && g k)) (all_below n f && all_below n g)
    (λ e.
    let both = all_below_lem n (λ k. f k && g k) e in
    and_both _ _ (below_all n f (λ k l. and_left (f k) (g k) (both k l)))
    (below_all n g (λ k l. and_right (f k) (g k) (both k l))))
    (λ e.
    let one = all_below_lem n f (and_left (all_below n f) (all_below n g) e) in
    let two = all_below_lem n g (and_right (all_below n f) (all_below n g) e) in
    below_all n _ (λ k l. and_both (f k) (g k) (one k l) (two k l)))

-- a line of posts r, tracks k, sidings d, trains t and routes o; local runs g; trains v, sections s, posts p, tracks
-- that are held w, trains put away a and numbers q, in two orders
in_turn : (r k d t o g v s p w a q : Bool)
    → r && (k && (d && (t && o))) && g && v && s && p && w && a && q
    ≡ (r && d && g && t) && (o && (v && a)) && ((k && (p && s)) && w) && q
in_turn false k d t o g v s p w a q = refl
in_turn true k false t o g v s p w a q = rw (and-false k)
in_turn true k true t o false v s p w a q = rw (and-false (k && (t && o)))
in_turn true k true false o true v s p w a q = rw (and-false k)
in_turn true k true true false true v s p w a q = rw (and-false k)
in_turn true false true true true true v s p w a q = rw (and-false (v && a))
in_turn true true true true true true false s p w a q = refl
in_turn true true true true true true true s p w false q = rw (and-false (s && p && w))
in_turn true true true true true true true false p w true q = rw (and-false p)
in_turn true true true true true true true true false w true q = refl
in_turn true true true true true true true true true w true q = rw (and-true w)

same_both : {a b c d : Bool} → a ≡ c → b ≡ d → a && b ≡ c && d
same_both p q = rw (p, q)

module _ (s : State) where
  -- the records of the trains, each and put away
  abbrev standings : Bool
  standings = all_below s.trains (λ t. train_valid (train_of s t))

  abbrev away : Bool
  away = all_below s.trains (λ t. away_valid s.sidings (train_of s t))

  trains_together : records_valid s ≡ routes_on_line (line_of s) && (standings && away)
  trains_together =
      all_and s.trains (λ t. on_line s.posts (train_of s t).route) _
      ∙ same_both (all_cong s.trains _ _ (λ t k. ap (on_line s.posts) (sym (route_of_lem s t))))
      (all_and s.trains (λ t. train_valid (train_of s t)) (λ t. away_valid s.sidings (train_of s t)))

  places_together : all_below s.posts (place_valid s)
      ≡ (tracks_in_range (line_of s) && (posts_valid s && sections_valid s)) && tracks_valid s
  places_together =
      all_and s.posts _ (λ p. all_below s.trains (track_valid s p))
      ∙ same_both (all_and s.posts (λ p. in_range 1 4 (get_or s.tracks p 0)) _
      ∙ ap (λ (b : Bool). tracks_in_range (line_of s) && b) (all_and s.posts _ _)) refl

  abbrev counts : Bool
  counts = counts_valid s.posts s.sidings s.trains s.given

  abbrev places : Bool
  places = all_below s.posts (place_valid s)

  abbrev numbers : Bool
  numbers = all_below s.trains (number_valid s)

  grouped : consistent s ≡ counts && records_valid s && places && numbers
  unfolding consistent well_formed
  grouped =
      in_turn (posts_in_range (line_of s)) (tracks_in_range (line_of s)) (sidings_on_line (line_of s))
      (trains_in_range (line_of s)) (routes_on_line (line_of s)) (leb s.given most_given)
      standings (sections_valid s) (posts_valid s) (tracks_valid s) away numbers
      ∙ rw (trains_together, places_together)

  pub counts_fail : counts ≡ false → false ≡ consistent s
  counts_fail e = sym (grouped ∙ rw e)

  module _ (e : counts ≡ true) where
    pub eight_posts : s.posts ≤ 8
    eight_posts = high 2 8 s.posts (search (and_left, and_right))

    pub six_trains : s.trains ≤ 6
    six_trains = high 1 6 s.trains (search (and_left, and_right))

    pub trains_fail : records_valid s ≡ false → false ≡ consistent s
    trains_fail f = sym (grouped ∙ rw (e, f))

    module _ (f : records_valid s ≡ true) where
      pub all_placed : Placed s
      all_placed t k =
          let x = train_of s t in
          let r = all_below_lem s.trains (λ u. record_valid s.posts s.sidings (train_of s u)) f t k in
          let route = and_left (on_line s.posts x.route) _ r in
          let start : x.route.start.0 < s.posts =
          ltb-true _ _ (and_left (ltb x.route.start.0 s.posts) _ route) in
          let end : x.route.end.0 < s.posts =
          ltb-true _ _ (and_right (ltb x.route.start.0 s.posts) _ route) in
          let valid = and_left (train_valid x) _ (and_right (on_line s.posts x.route) _ r) in
          let inside = between_of _ _ _ (and_left (on_route x) _ valid) in
          placed_at x s.posts eight_posts (⊎_elim (λ b. omega arith) (λ b. omega arith) inside) end
          (λ w. short_of_end x valid (running_busy x.status w))

      pub places_fail : places ≡ false → false ≡ consistent s
      places_fail g = sym (grouped ∙ rw (e, f, g))

      module _ (g : places ≡ true) where
        pub numbers_decide : numbers ≡ consistent s
        numbers_decide = sym (grouped ∙ rw (e, f, g))
