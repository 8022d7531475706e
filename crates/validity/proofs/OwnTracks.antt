-- Each holder of a post has a track of its own there: the test of the set of their tracks is that of the definition.
use mathlib.Core.Path.{◌≡◌, refl, sym, ◌∙◌}
use mathlib.Core.Bool.{Bool, true, false, not, ◌&&◌, ◌||◌, false≢true}
use Prim.Native.Nat.{ℕ, zero, suc, ◌*◌, ◌/◌, ◌%◌, ◌^◌, ◌≤◌, ◌<◌}
use native.Mathlib.Nat.{pow-succ', pow-le-pow_right, div-eq_of_lt, div-lt_iff_lt-mul}
use native.Mathlib.Omega.{arith}
use lib.Count.{ones}
use lib.Dec.{ltb, eqb, lit<}
use lib.Pow.{pow_pos}
use borrow.Author.Tests.{eqb-true, eqb-false, ltb-true, leb-true, eq-eqb, ne_eqb, lt-ltb}
use Rattle.common.specs.Below.{count_below, all_below}
use Rattle.common.specs.Bits.{set_below, bit_at}
use Rattle.common.proofs.Tests.{clash, by_cases, by_equality, by_order, not_passed, same_test, and_left, and_right}
use Rattle.common.proofs.Tests.{and_both, or_left, or_right, not_of_false}
use Rattle.common.proofs.Below.{all_below_lem, below_all, any_below_lem, below_any}
use Rattle.common.proofs.Bits.{ones_set, bit_set, set_small}
use Rattle.line.specs.Line.{in_range}
use Rattle.line.proofs.WellFormed.{high, ranged}
use Rattle.tracks.proofs.Counting.{taken, Apart, as_many, then_apart}
use Rattle.validity.specs.Tests.{own_tracks}

-- ---- a set by its bits

-- number 0 is in it where it is odd
odd_bit : (x : ℕ) → x % 2 ≡ 0 → bit_at x 0 ≡ false
odd_bit x e = ne_eqb (x / 2 ^ 0 % 2) 1 (λ z. omega arith)

bit_odd : (x : ℕ) → bit_at x 0 ≡ false → x % 2 ≡ 0
bit_odd x e = let z = eqb-false (x / 2 ^ 0 % 2) 1 e in omega arith

-- no number above m is in it where it is short
short_bit : (x m k : ℕ) → x / 2 ^ m < 2 → m < k → bit_at x k ≡ false
short_bit x m k h l =
    let top : 2 ^ suc m ≤ 2 ^ k = pow-le-pow_right {n = 2} (lit< tt) {i = suc m} {j = k} (omega arith) in
    let low : x < 2 * 2 ^ m = (div-lt_iff_lt-mul (pow_pos m)).0 h in
    let none : x / 2 ^ k ≡ 0 = div-eq_of_lt (omega (arith, pow-succ' 2 m)) in
    rw none

bit_short : (f : ℕ → Bool) (m n : ℕ) → ((k : ℕ) → m < k → k < n → f k ≡ false) → set_below n f < 2 * 2 ^ m
unfolding set_below
bit_short f m zero none = omega (arith, pow_pos m)
bit_short f m (suc n) none = at (bit_short f m n (λ k a b. none k a (omega arith)))
  where
    at : set_below n f < 2 * 2 ^ m → set_below (suc n) f < 2 * 2 ^ m
    at ih = by_order m n
        (λ l. rw (none n l (omega arith)) (omega arith))
        (λ l.
        let top : 2 ^ suc n ≤ 2 ^ suc m = pow-le-pow_right {n = 2} (lit< tt) {i = suc n} {j = suc m} (omega arith) in
        omega (arith, set_small (suc n) f, pow-succ' 2 m))

-- what is asked of a train where it holds something, of one that does
where_held : (a b : Bool) → not a || b ≡ true → a ≡ true → b ≡ true
where_held true b e p = e
where_held false b e p = absurd (false≢true p)

-- ---- trains that hold something, each by a number; the post has m tracks

module _ (holds : ℕ → Bool) (track : ℕ → ℕ) (n m : ℕ) (few : m < 8) where
  abbrev held : ℕ → Bool
  held = taken holds track n

  abbrev set : ℕ
  set = set_below 8 held

  -- of those below train t no one has its number
  abbrev new : ℕ → Bool
  new t = all_below t (λ u. not (holds u && eqb (track u) (track t)))

  abbrev own : ℕ → Bool
  own t = not (holds t) || (in_range 1 m (track t) && new t)

  abbrev test : Bool
  test = own_tracks m (count_below n holds) set

  has_bit : (t : ℕ) → t < n → holds t ≡ true → track t < 8 → bit_at set (track t) ≡ true
  has_bit t k h l = bit_set 8 held (track t) l ∙ below_any n _ t k (and_both _ _ h (eq-eqb (track t) (track t) refl))

  module _ (e : test ≡ true) where
    rest : ltb (set / 2 ^ m) 2 && eqb (ones set) (count_below n holds) ≡ true
    rest = and_right (eqb (set % 2) 0) _ e

    apart : Apart holds track 8 n
    apart = then_apart holds track 8 n
        (sym (ones_set 8 held) ∙ eqb-true _ _ (and_right (ltb (set / 2 ^ m) 2) _ rest))

    module _ (t : ℕ) (k : t < n) (h : holds t ≡ true) where
      numbered : bit_at set (track t) ≡ true
      numbered = has_bit t k h (apart.low t k h)

      in_count : in_range 1 m (track t) ≡ true
      in_count = ranged 1 m (track t)
          (by_order 0 (track t) (λ l. l) (λ l.
          let z : track t ≡ 0 = omega arith in
          clash (bit_at set (track t)) numbered (rw z (odd_bit set (eqb-true _ _ (and_left (eqb (set % 2) 0) _ e))))))
          (by_order m (track t)
          (λ l. clash (bit_at set (track t)) numbered (short_bit set m (track t) (ltb-true _ _ (and_left _ _ rest)) l))
          (λ l. l))

      no_lower : new t ≡ true
      no_lower = below_all t _ (λ u l. not_of_false _ (not_passed _ (λ p.
          let same = apart.differ u t (omega arith) k (and_left (holds u) _ p) h
          (eqb-true _ _ (and_right (holds u) _ p)) in
          omega arith)))

    then_own : all_below n own ≡ true
    then_own = below_all n own (λ t k. by_cases (holds t)
        (λ h. or_right (not (holds t)) _ (and_both _ _ (in_count t k h) (no_lower t k h)))
        (λ h. or_left (not (holds t)) _ (not_of_false (holds t) h)))

  module _ (e : all_below n own ≡ true) where
    module _ (t : ℕ) (k : t < n) (h : holds t ≡ true) where
      both : in_range 1 m (track t) && new t ≡ true
      both = where_held (holds t) _ (all_below_lem n own e t k) h

      first : 1 ≤ track t
      first = leb-true _ _ (and_left _ _ (and_left (in_range 1 m (track t)) _ both))

      last : track t ≤ m
      last = high 1 m (track t) (and_left _ _ both)

      other : {A : Type 0} (u : ℕ) → u < t → holds u ≡ true → track u ≡ track t → A
      other u l g same = clash (not (holds u && eqb (track u) (track t)))
          (all_below_lem t _ (and_right (in_range 1 m (track t)) _ both) u l) (rw (g, eq-eqb _ _ same))

    all_apart : Apart holds track 8 n
    all_apart = record {
      low = λ t k h. omega (arith, last t k h);
      differ = λ t u k l g h same. by_equality t u (λ q. q) (λ q. by_order t u
          (λ i. other u l h t i g same)
          (λ i. other t k g u (omega arith) h (sym same)));
    }

    -- a number that some train has is in the count
    counted : (j : ℕ) → held j ≡ true → (1 ≤ j) × (j ≤ m)
    counted j p =
        let r = any_below_lem n (λ t. holds t && eqb (track t) j) p in
        let h = and_left (holds r.0) _ r.2 in
        let z : track r.0 ≡ j = eqb-true _ _ (and_right (holds r.0) _ r.2) in
        (omega (arith, first r.0 r.1 h), omega (arith, last r.0 r.1 h))

    passes : test ≡ true
    passes = and_both _ _
        (eq-eqb _ _ (bit_odd set (bit_set 8 held 0 (lit< tt) ∙ not_passed _ (λ p. omega (arith, (counted 0 p).0)))))
        (and_both _ _
        (lt-ltb _ _ ((div-lt_iff_lt-mul (pow_pos m)).1
        (bit_short held m 8 (λ j a b. not_passed _ (λ p. omega (arith, (counted j p).1))))))
        (eq-eqb _ _ (ones_set 8 held ∙ as_many holds track 8 n all_apart)))

  pub own_tracks_lem : test ≡ all_below n own
  own_tracks_lem = same_test test (all_below n own) then_own passes
