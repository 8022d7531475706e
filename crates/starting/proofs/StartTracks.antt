-- The tracks at the opening as the code finds them: train after train, by sets of the tracks that the trains passed
-- hold at each post. A train without a track marks 0, which is no track's number: the sets are read from 1 on.
use mathlib.Core.Path.{◌≡◌, refl, sym, ◌∙◌}
use mathlib.Core.Bool.{Bool, true, cond, not, ◌&&◌, ◌||◌, and-false, or_comm}
use mathlib.Core.List.{List}
use Prim.Native.Nat.{ℕ, suc, ◌+◌, ◌^◌, ◌≤◌, ◌<◌}
use native.Mathlib.Numerals.{add-one}
use native.Mathlib.Omega.{arith}
use lib.Dec.{eqb}
use lib.ListN.{length, get_or, set, replicate, length-set, get_or-replicate, get_or-eq_default}
use lib.Seq.{get_or-set_same, get_or-set_other}
use borrow.Author.Tests.{eqb-true, eq-eqb, ne_eqb, lt-ltb, le-ltb}
use Rattle.common.specs.Below.{all_below, any_below}
use Rattle.common.specs.Bits.{set_below, bit_at}
use Rattle.common.specs.Tabulate.{tabulate, padded}
use Rattle.common.proofs.Tests.{by_cases, by_equality, by_order}
use Rattle.common.proofs.Below.{all_below_lem}
use Rattle.common.proofs.Bits.{bit_set}
use Rattle.common.proofs.Tabulate.{tabulate_cong}
use Rattle.line.specs.Line.{route_of, tracks_at, well_formed}
use Rattle.line.specs.Route.{post_after}
use Rattle.line.specs.Holding.{is_stabled, holds_post}
use Rattle.line.proofs.Holding.{standing_holds}
use Rattle.line.proofs.Travel.{post_start}
use Rattle.line.proofs.WellFormed.{well_formed_lem}
use Rattle.tracks.specs.Tracks.{track_for}
use Rattle.tracks.specs.Answers.{with_track}
use Rattle.tracks.proofs.Choice.{chosen, track_cong}
use Rattle.completion.specs.Configuration.{start, whereabouts}
use Rattle.completion.proofs.Turns.{or_bit, no_bit_lem}
use Rattle.rules.specs.Opening.{start_held, start_tracks, opened_track}
use Rattle.rules.proofs.Starting.{start_length, start_track_lem, stabled_start}
use Rattle.line.specs.declared.line.Line.{Line}

-- ---- one track more in a set

-- the set of track i alone
alone : (i : ℕ) → i < 8 → 2 ^ i ≡ set_below 8 (eqb i)
unfolding all_below set_below
alone i h = eqb-true _ _ (all_below_lem 8 (λ (j : ℕ). eqb (2 ^ j) (set_below 8 (eqb j))) refl i h)

-- a set with track i in it
marked : (held i k : ℕ) → i < 8 → k < 8 → bit_at (with_track held i) k ≡ eqb i k || bit_at held k
unfolding with_track
marked held i k hi hk =
    rw (lt-ltb i 8 hi, or_bit held (2 ^ i) k, alone i hi, bit_set 8 (eqb i) k hk) (or_comm (bit_at held k) (eqb i k))

module _ (l : Line) where
  -- the tracks of all trains; what is held by the first of them goes by these as well
  abbrev ks : List ℕ
  ks = start_tracks l l.trains

  -- ---- six places: those past the trains have 0

  pub six_tracks : padded 6 l.trains (opened_track l) 0 ≡ tabulate 6 (opened_track l)
  unfolding padded
  six_tracks = tabulate_cong 6 _ (opened_track l) (λ t h. by_order t l.trains
      (λ k. rw (lt-ltb t l.trains k))
      (λ k. rw (le-ltb t l.trains k) (sym (get_or-eq_default ks 0 {n = t} (rw start_length k)))))

  -- ---- the sets of the posts, with the tracks of the first n trains

  pub record HeldTracks (n : ℕ) (held : List ℕ) : Type 0 where
    pub eight : length held ≡ 8
    pub has : (p k : ℕ) → p < 8 → 1 ≤ k → k < 8 → bit_at (get_or held p 0) k ≡ start_held l ks n p k

  pub held_none : HeldTracks 0 (replicate 8 0)
  unfolding any_below
  held_none = record { eight = refl; has = λ p k h a b. rw (get_or-replicate {A = ℕ} 8 p 0 0 h) (no_bit_lem k) }

  -- train t, its post, and whether it is stabled there
  module _ (w : well_formed l ≡ true) (t : ℕ) (kt : t < l.trains) where
    abbrev p : ℕ
    p = (route_of l t).start.0

    abbrev away : Bool
    away = is_stabled l.sidings (route_of l t).end.0 p

    pub post_few : p < 8
    post_few = let f = well_formed_lem l w in omega (arith, f.starts t kt, f.few_posts)

    pub tracks_few : tracks_at l p < 8
    tracks_few = let f = well_formed_lem l w in omega (arith, f.few_tracks p (f.starts t kt))

    -- its track is one of the post's, or 0
    track_few : opened_track l t < 8
    track_few = rw (start_track_lem l l.trains t kt) (by_cases away
        (λ e. rw e (omega arith))
        (λ e. rw e (omega (arith, tracks_few, (chosen (start_held l ks t p) (route_of l t) (tracks_at l p)).few))))

    -- what it takes of the tracks from 1 on; nothing, where it is stabled
    taken : (q k : ℕ) → 1 ≤ k
        → start_held l ks (t + 1) q k ≡ (eqb p q && eqb (opened_track l t) k) || start_held l ks t q k
    unfolding any_below
    taken q k a =
        let r = route_of l t in
        let holds : holds_post (whereabouts l start t) q ≡ not away && eqb p q =
        standing_holds l.sidings r.end.0 (post_after r 0) q ∙ rw (post_start r) in
        rw (add-one, holds) (by_cases away
        (λ e. rw (e, stabled_start l t kt e, ne_eqb 0 k (λ z. omega arith), and-false (eqb p q)))
        (λ e. rw e))

    module _ (held : List ℕ) (h : HeldTracks t held) where
      -- the track that is found by the post's set is the train's
      pub start_found : (k : ℕ) → k ≡ cond away 0 (track_for (route_of l t) (bit_at (get_or held p 0)) (tracks_at l p))
          → k ≡ opened_track l t
      start_found k e =
          let same : track_for (route_of l t) (bit_at (get_or held p 0)) (tracks_at l p)
          ≡ track_for (route_of l t) (start_held l ks t p) (tracks_at l p) =
          track_cong (route_of l t) _ _ (tracks_at l p) (λ i m.
          h.has p (suc i) post_few (omega arith) (omega (arith, tracks_few))) in
          e ∙ rw same (sym (start_track_lem l l.trains t kt))

      abbrev after : ℕ
      after = with_track (get_or held p 0) (opened_track l t)

      -- it is marked in that set
      pub held_more : HeldTracks (t + 1) (set held p after)
      held_more = record {
        eight = length-set held p after ∙ h.eight;
        has = λ q k hq a b. by_equality p q
            (λ e. rw (← e, get_or-set_same held p after 0 (omega (arith, post_few, h.eight)))
            (marked (get_or held p 0) (opened_track l t) k track_few b
            ∙ rw (taken p k a, eq-eqb p p refl, h.has p k post_few a b)))
            (λ e. rw (get_or-set_other held p q after 0 (λ z. e (sym z)))
            (h.has q k hq a b ∙ rw (taken q k a, ne_eqb p q e)));
      }
