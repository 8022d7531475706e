-- "The test for a free track": it finds one exactly where "its next post is held by fewer trains than tracks".
use mathlib.Core.Path.{◌≡◌}
use mathlib.Core.Logic.{◌≢◌}
use mathlib.Core.Bool.{false}
use Prim.Native.Nat.{ℕ, suc, ◌-◌, ◌<◌}
use native.Mathlib.Omega.{arith}
use Rattle.common.specs.Below.{count_below}
use Rattle.line.specs.Line.{tracks_at}
use Rattle.line.specs.Holding.{holds_post, post_holders}
use Rattle.tracks.proofs.Choice.{Chosen, chosen}
use Rattle.tracks.proofs.Counting.{tracks_taken, count_full, count_short}
use Rattle.rules.specs.Types.{State}
use Rattle.rules.specs.State.{track_at, train_of, line_of, located, track_held, free_track}
use Rattle.rules.proofs.Validity.{Consistent}

-- what it finds at post p, in any state
pub free_chosen : (s : State) (t p : ℕ) → Chosen (track_held s p) (tracks_at (line_of s) p) (free_track s t p)
free_chosen s t p = chosen (track_held s p) (train_of s t).route (tracks_at (line_of s) p)

module _ (s : State) (d : Consistent s) (p : ℕ) (kp : p < s.posts) where
  -- as many tracks are held as trains hold the post
  pub held_count : count_below (tracks_at (line_of s) p) (λ k. track_held s p (suc k))
      ≡ post_holders s.trains (located s) p
  held_count = tracks_taken (λ t. holds_post (located s t) p) (λ t. track_at (train_of s t) p)
      (tracks_at (line_of s) p) s.trains
      (λ t kt e. (d.tracks p t kp kt e).0)
      (record {
        low = λ t kt e. let r = d.tracks p t kp kt e in omega (arith, r.1);
        differ = λ t u kt ku. d.differ p t u kp kt ku;
      })

  pub free_fewer : (t : ℕ) → free_track s t p ≢ 0 → post_holders s.trains (located s) p < tracks_at (line_of s) p
  free_fewer t h =
      let k = free_track s t p in
      let c = free_chosen s t p in
      let e : suc (k - 1) ≡ k = omega arith in
      let unheld : track_held s p (suc (k - 1)) ≡ false = rw e (c.free h) in
      omega (
        arith,
        held_count,
        count_short (tracks_at (line_of s) p) (λ i. track_held s p (suc i)) (k - 1) (omega (arith, c.few)) unheld,
      )

  pub fewer_free : (t : ℕ) → post_holders s.trains (located s) p < tracks_at (line_of s) p → free_track s t p ≢ 0
  fewer_free t h e =
      let c = free_chosen s t p in
      omega (arith, held_count, count_full (tracks_at (line_of s) p) (λ i. track_held s p (suc i)) (c.full e))
