-- The last post that is not past a number of metres.
use mathlib.Core.Path.{◌≡◌, refl}
use mathlib.Core.Bool.{true, false}
use mathlib.Core.List.{List}
use Prim.Native.Nat.{ℕ, zero, suc, ◌+◌, ◌-◌, ◌*◌, ◌≤◌, ◌<◌}
use native.Mathlib.Nat.{not-suc-le-zero, zero-mul}
use native.Mathlib.Omega.{arith}
use lib.Ieee.{Float}
use lib.Ieee.Positive.{num, den}
use borrow.Author.Tests.{ltb-true, ltb-false, le-ltb}
use Rattle.common.proofs.Tests.{by_cases, by_equality}
use Rattle.line.specs.Positions.{metres_at}
use Rattle.place.specs.Metres.{is_below}
use Rattle.place.specs.Locating.{last_reached}

module _ (ps : List ℕ) (x : Float) where
  pub reached_here : (p : ℕ) → is_below x (metres_at ps p) ≡ false → last_reached ps x p ≡ p
  unfolding last_reached
  reached_here zero h = refl
  reached_here (suc p) h = rw h

  pub reached_before : (p : ℕ) → is_below x (metres_at ps p) ≡ true → last_reached ps x p ≡ last_reached ps x (p - 1)
  unfolding last_reached
  reached_before zero h = refl
  reached_before (suc p) h =
      let same : suc p - 1 ≡ p = omega arith in
      rw (h, same)

  -- where no post is left but the first
  pub reached_none : (p : ℕ) → p ≤ 0 → last_reached ps x p ≡ 0
  unfolding last_reached
  reached_none zero h = refl
  reached_none (suc p) h = absurd (not-suc-le-zero h)

  pub reached_at_most : (p : ℕ) → last_reached ps x p ≤ p
  unfolding last_reached
  reached_at_most zero = omega arith
  reached_at_most (suc p) = by_cases (is_below x (metres_at ps (suc p)))
      (λ e. rw e (let k = reached_at_most p in omega arith))
      (λ e. rw e (omega arith))

  -- the post after it is past the number
  pub next_past : (p : ℕ) → last_reached ps x p < p → num x < metres_at ps (last_reached ps x p + 1) * den x
  unfolding last_reached
  next_past zero h = absurd (not-suc-le-zero h)
  next_past (suc p) h = by_cases (is_below x (metres_at ps (suc p)))
      (λ e. rw e (by_equality (last_reached ps x p) p
      (λ own.
      let same : last_reached ps x p + 1 ≡ suc p = omega arith in
      rw same (ltb-true _ _ e))
      (λ other. next_past p (let k = reached_at_most p in omega arith))))
      (λ e.
      let same : last_reached ps x (suc p) ≡ suc p = reached_here (suc p) e in
      absurd (let y : ⊥ = omega arith in y))

  -- where the first post is at 0
  module _ (first : metres_at ps 0 ≡ 0) where
    first_reached : is_below x (metres_at ps 0) ≡ false
    first_reached = rw first (le-ltb (num x) (0 * den x) (rw (zero-mul (den x)) (omega arith)))

    not_below : (p : ℕ) → is_below x (metres_at ps (last_reached ps x p)) ≡ false
    unfolding last_reached
    not_below zero = first_reached
    not_below (suc p) = by_cases (is_below x (metres_at ps (suc p)))
        (λ e. rw e (not_below p))
        (λ e. rw e e)

    pub not_past : (p : ℕ) → metres_at ps (last_reached ps x p) * den x ≤ num x
    not_past p = ltb-false _ _ (not_below p)
