-- 02, card 2: which track a train gets, and who holds one, in words for the opening, the state and the observer alike.
-- Tracks are numbered from 1; 0 stands for none.
use Rattle.std.specs.Prelude.{◌≡◌, ◌≢◌, Bool, true, false, cond, ◌&&◌, ℕ, zero, suc, ◌≤◌, ◌<◌, leb, eqb}
use Rattle.line.specs.declared.route.Route.{Route}
use Rattle.line.specs.Holding.{Whereabouts, is_stabled, holds_post}

-- a train that is at w, and has track j at post p, holds track k of that post
abbrev pub has_track : Whereabouts → ℕ → ℕ → ℕ → Bool
has_track w p j k = holds_post w p && eqb j k

-- "one put away in a siding has none": the track of a train that stands at post p and has its end at e, where it would
-- have k
abbrev pub unless_away : ℕ → ℕ → ℕ → ℕ → ℕ
unless_away sidings e p k = cond (is_stabled sidings e p) 0 k

-- the smallest of tracks 1 to n that is not held, and the largest; 0 where all are
unfoldable pub smallest : (ℕ → Bool) → ℕ → ℕ
smallest held zero = 0
smallest held (suc n) = let r = smallest held n in cond (eqb r 0) (cond (held (suc n)) 0 (suc n)) r

unfoldable pub largest : (ℕ → Bool) → ℕ → ℕ
largest held zero = 0
largest held (suc n) = let r = largest held n in cond (held (suc n)) r (suc n)

-- "An up train (end above start) gets the smallest unheld track, a down train the largest. .. parked trains count as
-- up."
unfoldable pub track_for : Route → (ℕ → Bool) → ℕ → ℕ
track_for r held n = cond (leb r.start.0 r.end.0) (smallest held n) (largest held n)

-- the claim on it: it is one of tracks 1 to n and not held, or 0 where all are held. Every track below an up train's is
-- held, and every one above a down train's.
pub record TrackRule : Type 0 where
  pub one : (r : Route) (held : ℕ → Bool) (n : ℕ) → track_for r held n ≤ n
  pub unheld : (r : Route) (held : ℕ → Bool) (n : ℕ) → track_for r held n ≢ 0 → held (track_for r held n) ≡ false
  pub none : (r : Route) (held : ℕ → Bool) (n k : ℕ) → track_for r held n ≡ 0 → 1 ≤ k → k ≤ n → held k ≡ true
  pub up : (r : Route) (held : ℕ → Bool) (n k : ℕ) → r.start.0 ≤ r.end.0 → 1 ≤ k → k < track_for r held n
      → held k ≡ true
  pub down : (r : Route) (held : ℕ → Bool) (n k : ℕ) → r.end.0 < r.start.0 → track_for r held n < k → k ≤ n
      → held k ≡ true
