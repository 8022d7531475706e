-- The numbers of the Asked trains stand in the order in which their frames came: a train that asks is the last, and one
-- that waits no more leaves the others as they were.
use mathlib.Core.Path.{◌≡◌}
use mathlib.Core.Bool.{true, false}
use Prim.Native.Nat.{ℕ, ◌+◌, ◌<◌}
use native.Mathlib.Omega.{arith}
use lib.ListN.{length}
use Rattle.common.specs.Update.{update}
use Rattle.common.proofs.Tests.{clash, by_equality}
use Rattle.common.proofs.Update.{update_own, update_other}
use Rattle.rules.specs.declared.state.Status.TheVariants.{Asked}
use Rattle.rules.specs.declared.state.Train.{Train}
use Rattle.rules.specs.State.{is_asked, asked_as, train_of, with_status}
use Rattle.rules.proofs.Trains.{changed, changed_own, changed_other}
use Rattle.rules.proofs.Validity.{Consistent}
use Rattle.assurance.specs.Types.{State}
use Rattle.conduct.specs.Turns.{Turns}

-- k has the number of each train's last accepted FA that repeats none, and n is that of the next frame
pub record InOrder (s : State) (n : ℕ) (k : Turns) : Type 0 where
  pub before : (t : ℕ) → t < s.trains → is_asked (train_of s t).status ≡ true → k t < n
  pub order : (t u : ℕ) → t < s.trains → u < s.trains
      → is_asked (train_of s t).status ≡ true → is_asked (train_of s u).status ≡ true
      → asked_as (train_of s t).status < asked_as (train_of s u).status → k t < k u

-- a train that is not Asked any more leaves the others in order
pub no_more_asked : (s : State) (t : ℕ) (x : Train) (c n : ℕ) (k : Turns) → t < length s.fleet
    → is_asked x.status ≡ false → InOrder s n k → InOrder (changed s t x c) n k
no_more_asked s t x c n k place free h = record {
  before = λ u ku a. h.before u ku (rw (same u a) at a);
  order = λ u v ku kv a b. rw (same u a, same v b) (h.order u v ku kv (rw (same u a) at a) (rw (same v b) at b));
}
  where
    same : (u : ℕ) → is_asked (train_of (changed s t x c) u).status ≡ true → train_of (changed s t x c) u ≡ train_of s u
    same u a = by_equality u t
        (λ e. clash (is_asked x.status) (rw (e, changed_own s t x c place) at a) free)
        (λ h. changed_other s t x c u h)

-- a train that asks is the last
pub asks_last : (s : State) → Consistent s → (t : ℕ) (c n : ℕ) (k : Turns) → t < length s.fleet → InOrder s n k
    → InOrder (changed s t (with_status (train_of s t) (Asked s.logged)) c) (n + 1) (update k t n)
asks_last s d t c n k place h = record {
  before = λ u ku. by_equality u t
      (λ e. rw (e, update_own k t n) (λ a. omega arith))
      (λ g. rw (changed_other s t x c u g, update_other k t n u g) (λ a. omega (arith, h.before u ku a)));
  order = λ u v ku kv. by_equality u t
      (λ e. by_equality v t
      (λ f. rw (e, f) (λ a b l. absurd (omega arith)))
      (λ g. rw (e, changed_own s t x c place, changed_other s t x c v g)
      (λ a b l. absurd (omega (arith, (d.each v kv).numbered b)))))
      (λ f. by_equality v t
      (λ e. rw (e, changed_other s t x c u f, update_own k t n, update_other k t n u f) (λ a b l. h.before u ku a))
      (λ g.
      rw (changed_other s t x c u f, changed_other s t x c v g, update_other k t n u f, update_other k t n v g)
      (h.order u v ku kv)));
}
  where
    x : Train
    x = with_status (train_of s t) (Asked s.logged)
