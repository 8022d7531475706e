-- Sets of tracks: one track more in them.
use mathlib.Core.Path.{◌≡◌, refl, sym, ap, ◌∙◌}
use mathlib.Core.Bool.{Bool, true, false, ◌||◌, or-false, or-true}
use Prim.Native.Nat.{ℕ, zero, suc, ◌+◌, ◌*◌, ◌%◌, ◌^◌, ◌≤◌, ◌<◌}
use native.Mathlib.Omega.{arith}
use lib.Bits.{bit_or, or_block, or_self, or_zero_r}
use lib.Dec.{eqb, lit<}
use lib.Pow.{pow_pos, pow-lt, shl_exact}
use borrow.Author.Tests.{eq-eqb, ne_eqb, lt-ltb, le-ltb}
use Rattle.common.specs.Below.{of_bool}
use Rattle.common.specs.Bits.{set_below}
use Rattle.common.proofs.Bits.{set_small, set_cong}
use Rattle.common.proofs.Tests.{by_equality, by_order}
use Rattle.tracks.specs.Answers.{with_track}

pub no_track : (set k : ℕ) → 8 ≤ k → set ≡ with_track set k
unfolding with_track
no_track set k h = rw (le-ltb k 8 h)

pub track_joined : (set k : ℕ) → k < 8 → bit_or set (1 * 2 ^ k % 2 ^ 8) ≡ with_track set k
unfolding with_track
track_joined set k h =
    let bit : 1 * 2 ^ k % 2 ^ 8 ≡ 2 ^ k = shl_exact {a = 1} 1 k 8 (lit< tt) (omega arith) ∙ omega arith in
    rw (lt-ltb k 8 h, bit)

-- ---- its members

or_one : (b : Bool) → bit_or (of_bool b) 1 ≡ 1
or_one true = or_self 1
or_one false = refl

module _ (f : ℕ → Bool) (k : ℕ) where
  -- the set of those below n that are in it, or k
  abbrev more : ℕ → ℕ
  more n = set_below n (λ j. f j || eqb k j)

  -- one below k is in it where it was
  same_below : (n : ℕ) → n ≤ k → set_below n f ≡ more n
  same_below n h = set_cong n f _ (λ j l. rw (ne_eqb k j (λ e. omega arith)) (sym (or-false (f j))))

  bit_joined : (n : ℕ) → k < n → bit_or (set_below n f) (2 ^ k) ≡ more n
  unfolding set_below
  bit_joined zero h = absurd (omega arith)
  bit_joined (suc n) h = at (bit_joined n)
    where
      at : (k < n → bit_or (set_below n f) (2 ^ k) ≡ more n) → bit_or (set_below (suc n) f) (2 ^ k) ≡ more (suc n)
      at ih = by_equality k n
          (λ e.
          let power : 2 ^ k ≡ 1 * 2 ^ n + 0 = rw e (omega arith) in
          ap (bit_or (of_bool (f n) * 2 ^ n + set_below n f)) power
          ∙ or_block n (of_bool (f n)) 1 (set_below n f) 0 (set_small n f) (pow_pos n)
          ∙ rw (or_one (f n), or_zero_r (set_below n f), same_below n (omega arith), eq-eqb k n e)
          (ap (λ (b : Bool). of_bool b * 2 ^ n + more n) (sym (or-true (f n)))))
          (λ e.
          let power : 2 ^ k ≡ 0 * 2 ^ n + 2 ^ k = omega arith in
          ap (bit_or (of_bool (f n) * 2 ^ n + set_below n f)) power
          ∙ or_block n (of_bool (f n)) 0 (set_below n f) (2 ^ k) (set_small n f) (pow-lt (omega arith))
          ∙ rw (or_zero_r (of_bool (f n)), ih (omega arith), ne_eqb k n e, or-false (f n)))

-- the set with one track more; a number from 8 on is none's
pub track_more : (f : ℕ → Bool) (set k : ℕ) → set ≡ set_below 8 f → with_track set k ≡ set_below 8 (λ j. f j || eqb k j)
unfolding with_track
track_more f set k e = by_order k 8
    (λ l. rw (lt-ltb k 8 l, e) (bit_joined f k 8 l))
    (λ l. rw (le-ltb k 8 l, e) (same_below f k 8 l))
