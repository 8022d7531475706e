-- Where the trains of a valid state are, in the words of the functions that read it.
use mathlib.Core.Path.{◌≡◌}
use mathlib.Core.Logic.{◌≢◌}
use mathlib.Core.Bool.{true}
use Prim.Native.Nat.{ℕ, ◌≤◌, ◌<◌}
use native.Mathlib.Omega.{arith}
use Rattle.common.proofs.Tests.{by_equality, by_order}
use Rattle.line.proofs.Travel.{next_up, next_down, next_end}
use Rattle.holding.specs.Types.{Train, State}
use Rattle.holding.specs.Holders.{PlacedAt, Placed}
use Rattle.rules.specs.State.{is_running, train_of}
use Rattle.rules.proofs.Trains.{running_busy}
use Rattle.rules.proofs.Validity.{Consistent, end_below, post_below}

-- a train on a line of at most eight posts, Running only where it is short of its end
pub placed_at : (x : Train) (n : ℕ) → n ≤ 8 → x.at.0 < n → x.route.end.0 < n
    → (is_running x.status ≡ true → x.at.0 ≢ x.route.end.0) → PlacedAt x
placed_at x n few at end short = record {
  here = omega arith;
  next = by_order x.at.0 x.route.end.0
      (λ l. omega (arith, next_up x.at.0 x.route.end.0 l))
      (λ l. by_equality x.at.0 x.route.end.0
      (λ e. omega (arith, next_end x.at.0 x.route.end.0 e))
      (λ e. omega (arith, next_down x.at.0 x.route.end.0 (omega arith))));
  onward = λ e. by_order x.at.0 x.route.end.0
      (λ l z. omega (arith, next_up x.at.0 x.route.end.0 l))
      (λ l z. let h = short e in omega (arith, next_down x.at.0 x.route.end.0 (omega arith)));
}

-- so is each train of a valid state
pub consistent_placed : (s : State) → Consistent s → Placed s
consistent_placed s d t k =
    placed_at (train_of s t) s.posts d.line.few_posts (post_below s d t k) (end_below s d t k)
    (λ e. (d.each t k).busy (running_busy (train_of s t).status e))
