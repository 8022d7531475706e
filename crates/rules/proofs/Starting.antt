-- The tracks at the opening: each train that holds its start has one of its tracks, and no two the same.
use mathlib.Core.Path.{◌≡◌, refl, sym, ap, ◌∙◌}
use mathlib.Core.Logic.{◌≢◌}
use mathlib.Core.Bool.{Bool, true, false, not}
use mathlib.Core.List.{List, []}
use Prim.Native.Nat.{ℕ, zero, suc, ◌≤◌, ◌<◌}
use native.Mathlib.Omega.{arith}
use lib.ListN.{length, get_or, length-append, get_or-append}
use lib.Seq.{get_or_at}
use borrow.Author.Tests.{eqb-true, eq-eqb, not-true}
use Rattle.common.specs.Below.{of_bool, count_below}
use Rattle.common.proofs.Tests.{clash, by_equality, and_left, and_right, and_both}
use Rattle.common.proofs.Below.{any_cong, below_any}
use Rattle.line.specs.Line.{route_of, tracks_at}
use Rattle.line.specs.Holding.{is_stabled, holds_post}
use Rattle.line.proofs.Holding.{standing_holds}
use Rattle.line.specs.Route.{post_after}
use Rattle.line.proofs.Travel.{post_start}
use Rattle.tracks.specs.Tracks.{track_for}
use Rattle.tracks.proofs.Choice.{Chosen, chosen, track_cong}
use Rattle.tracks.proofs.Counting.{tracks_taken, count_full, count_more}
use Rattle.completion.specs.Configuration.{Fits, start, whereabouts}
use Rattle.rules.specs.Types.{Line}
use Rattle.rules.specs.Opening.{start_held, start_track, start_tracks, opened_track}

module _ (l : Line) where
  pub start_length : (n : ℕ) → length (start_tracks l n) ≡ n
  unfolding start_tracks
  start_length zero = refl
  start_length (suc n) = rw length-append (omega (arith, start_length n))

  -- a train's track goes by the lower trains' alone
  track_prefix : (ks js : List ℕ) (t : ℕ) → ((u : ℕ) → u < t → get_or ks u 0 ≡ get_or js u 0)
      → start_track l ks t ≡ start_track l js t
  track_prefix ks js t h =
      let r = route_of l t in
      let p = r.start.0 in
      rw (track_cong r (start_held l ks t p) (start_held l js t p) (tracks_at l p) (λ k m.
      any_cong t _ _ (λ u q. rw (h u q))))

  pub prefix : (n u : ℕ) → u < n → get_or (start_tracks l (suc n)) u 0 ≡ get_or (start_tracks l n) u 0
  unfolding start_tracks
  prefix n u h = get_or-append (start_tracks l n) _ 0 u (rw start_length h)

  pub start_track_lem : (n t : ℕ) → t < n → get_or (start_tracks l n) t 0 ≡ start_track l (start_tracks l n) t
  unfolding start_tracks
  start_track_lem zero t h = absurd (omega arith)
  start_track_lem (suc n) t h = at (λ k. start_track_lem n t k)
    where
      same : start_track l (start_tracks l n) t ≡ start_track l (start_tracks l (suc n)) t
      same = track_prefix (start_tracks l n) (start_tracks l (suc n)) t (λ u k. sym (prefix n u (omega arith)))

      at : (t < n → get_or (start_tracks l n) t 0 ≡ start_track l (start_tracks l n) t)
          → get_or (start_tracks l (suc n)) t 0 ≡ start_track l (start_tracks l (suc n)) t
      at ih = by_equality t n
          (λ e. get_or_at (start_tracks l n) (start_track l (start_tracks l n) n) [] 0 t (start_length n ∙ sym e)
          ∙ ap (start_track l (start_tracks l n)) (sym e) ∙ same)
          (λ e. prefix n t (omega arith) ∙ ih (omega arith) ∙ same)

module _ (l : Line) (fits : Fits l start) where
  abbrev ks : List ℕ
  ks = start_tracks l l.trains

  abbrev track_of : ℕ → ℕ
  track_of t = opened_track l t

  abbrev holds : ℕ → ℕ → Bool
  holds p t = holds_post (whereabouts l start t) p

  pub record Started (n : ℕ) : Type 0 where
    pub some : (p t : ℕ) → p < l.posts → t < n → holds p t ≡ true → (1 ≤ track_of t) × (track_of t ≤ tracks_at l p)
    pub apart : (p t u : ℕ) → p < l.posts → t < n → u < n → holds p t ≡ true → holds p u ≡ true
        → track_of t ≡ track_of u → t ≡ u

  module _ (n : ℕ) (k : n < l.trains) (s : Started n) (p : ℕ) (kp : p < l.posts) (h : holds p n ≡ true) where
    r : ℕ
    r = track_for (route_of l n) (start_held l ks n p) (tracks_at l p)

    c : Chosen (start_held l ks n p) (tracks_at l p) r
    unfolding r
    c = chosen (start_held l ks n p) (route_of l n) (tracks_at l p)

    -- its track is the one that is chosen
    is : track_of n ≡ r
    unfolding r
    is =
        let q = post_after (route_of l n) 0 in
        let away = is_stabled l.sidings (route_of l n).end.0 q in
        let e = sym (standing_holds l.sidings (route_of l n).end.0 q p) ∙ h in
        let here : q ≡ p = eqb-true _ _ (and_right (not away) _ e) in
        let there : away ≡ false = not-true _ (and_left (not away) _ e) in
        let begins : (route_of l n).start.0 ≡ p = sym (post_start (route_of l n)) ∙ here in
        let free : is_stabled l.sidings (route_of l n).end.0 p ≡ false =
        ap (λ (x : ℕ). is_stabled l.sidings (route_of l n).end.0 x) (sym here) ∙ there in
        start_track_lem l l.trains n k ∙ rw (begins, free)

    -- the lower trains hold as many tracks as they are
    held_below : count_below (tracks_at l p) (λ i. start_held l ks n p (suc i)) ≡ count_below n (holds p)
    held_below = tracks_taken (holds p) track_of (tracks_at l p) n
        (λ t kt e. (s.some p t kp kt e).0)
        (record {
          low = λ t kt e. let b = s.some p t kp kt e in omega (arith, b.1);
          differ = λ t u kt ku. s.apart p t u kp kt ku;
        })

    -- with this one they are not more than the tracks
    fewer : count_below n (holds p) < tracks_at l p
    unfolding count_below
    fewer =
        let more = count_more (suc n) l.trains (holds p) k in
        let one : of_bool (holds p n) ≡ 1 = rw h in
        omega (arith, fits p kp)

    chosen_some : r ≢ 0
    chosen_some e =
        omega (arith, fewer, held_below, count_full (tracks_at l p) (λ i. start_held l ks n p (suc i)) (c.full e))

    own : (1 ≤ track_of n) × (track_of n ≤ tracks_at l p)
    own = rw is (omega (arith, chosen_some), c.few)

    other : (u : ℕ) → u < n → holds p u ≡ true → track_of n ≢ track_of u
    other u ku b e = clash (start_held l ks n p r)
        (below_any n _ u ku (and_both _ _ b (eq-eqb _ _ (sym e ∙ is)))) (c.free chosen_some)

  started_more : (n : ℕ) → n < l.trains → Started n → Started (suc n)
  started_more n k s = record {
    some = λ p t kp kt h. by_equality t n
        (λ e. rw e (own n k s p kp (rw e at h)))
        (λ e. s.some p t kp (omega arith) h);
    apart = λ p t u kp kt ku a b z. by_equality t n
        (λ e. by_equality u n (λ f. e ∙ sym f)
        (λ f. absurd (other n k s p kp (rw e at a) u (omega arith) b (rw e at z))))
        (λ e. by_equality u n
        (λ f. absurd (other n k s p kp (rw f at b) t (omega arith) a (rw f at (sym z))))
        (λ f. s.apart p t u kp (omega arith) (omega arith) a b z));
  }

  started_below : (n : ℕ) → n ≤ l.trains → Started n
  started_below zero k = record {
    some = λ p t kp kt. absurd (omega arith);
    apart = λ p t u kp kt. absurd (omega arith);
  }
  started_below (suc n) k = started_more n k (started_below n (omega arith))

  pub started : Started l.trains
  started = started_below l.trains (omega arith)

-- a train that is put away at its start has none
pub stabled_start : (l : Line) (t : ℕ) → t < l.trains
    → is_stabled l.sidings (route_of l t).end.0 (route_of l t).start.0 ≡ true → opened_track l t ≡ 0
stabled_start l t k e = start_track_lem l l.trains t k ∙ rw e
