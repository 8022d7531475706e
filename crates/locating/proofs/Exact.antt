-- A 32-bit number from zero on, beside a fraction that another such number is: the machine's comparisons are those of
-- the exact values. Whole metres up to 2^24, and halves of them, are such numbers.
use mathlib.Core.Path.{◌≡◌, refl, sym, ap, ◌∙◌, subst}
use mathlib.Core.Bool.{Bool, true, false, not, ◌&&◌, ◌||◌, true≢false, or-true}
use mathlib.Core.Logic.{◌≢◌}
use Prim.Native.Nat.{ℕ, zero, suc, ◌+◌, ◌*◌, ◌^◌, ◌≤◌, ◌<◌}
use native.Mathlib.Nat.{mul-le-mul_right, le_of_mul-le-mul_right, mul_right_comm, mul_assoc, mul_comm, mul-one}
use native.Mathlib.Nat.{zero-mul, zero-add, add-mul, le_trans, lt_trans, lt_irrefl, mul-pos}
use native.Mathlib.Omega.{arith}
use lib.IntN.{ℤ, pos}
use lib.Dec.{T, leb, ltb, eqb, lit<, le→leb}
use lib.Pow.{shl_lt}
use lib.Ieee.{Float, nan, inf, fin, binary32, up, down, lt, eq, le, of_int, in_float, mul, round, of_bits}
use lib.Ieee.Positive.{num, den, den_pos}
use lib.Ieee.Exact.{HasValue, round_exact}
use lib.Ieee.Scale.{round_same}
use lib.Ieee.Fits.{up_pos, down_pos}
use lib.Ieee.Back.{round_whole}
use borrow.Author.Tests.{leb-true, leb-false, le-leb, eqb-true, eqb-false, eq-eqb, ne_eqb, lt-ltb, le-ltb}
use Rattle.common.proofs.Tests.{by_cases, same_test}
use Rattle.line.specs.Route.{distance}
use Rattle.line.specs.Positions.{most_metres}
use Rattle.place.specs.Metres.{from_zero, within_line, FromTo, gap}

-- ---- tests by `leb`

lt_by_le : (a b : ℕ) → ltb a b ≡ not (leb b a)
lt_by_le a b = by_cases (leb b a)
    (λ e. le-ltb a b (leb-true b a e) ∙ sym (ap not e))
    (λ e. lt-ltb a b (leb-false b a e) ∙ sym (ap not e))

eq_by_le : (a b : ℕ) → eqb a b ≡ leb a b && leb b a
eq_by_le a b = by_cases (leb a b)
    (λ e. by_cases (leb b a)
    (λ f. eq-eqb a b (omega (arith, leb-true a b e, leb-true b a f)) ∙ sym (rw (e, f)))
    (λ f. ne_eqb a b (λ z. omega (arith, leb-false b a f)) ∙ sym (rw (e, f))))
    (λ e. ne_eqb a b (λ z. omega (arith, leb-false a b e)) ∙ sym (rw e))

-- two fractions compared by other names of the same
cross_le : (a b x y c d : ℕ) → 0 < c → 0 < d → a * c ≡ x * d → b * c ≡ y * d → leb a b ≡ leb x y
cross_le a b x y c d pc pd p q = by_cases (leb a b)
    (λ e. e ∙ sym (le-leb x y (le_of_mul-le-mul_right
    (subst (λ (z : ℕ). z ≤ y * d) p (subst (λ (z : ℕ). a * c ≤ z) q (mul-le-mul_right c (leb-true a b e)))) pd)))
    (λ e. e ∙ by_cases (leb x y)
    (λ f. absurd (back e (leb-true x y f)))
    (λ f. sym f))
  where
    back : leb a b ≡ false → x ≤ y → ⊥
    back e h =
        let k : a ≤ b = le_of_mul-le-mul_right
        (subst (λ (z : ℕ). z ≤ b * c) (sym p) (subst (λ (z : ℕ). x * d ≤ z) (sym q) (mul-le-mul_right d h))) pc in
        omega (arith, leb-false a b e)

-- ---- the machine's comparisons

pub record Compared (x y : Float) (a b : ℕ) : Type 0 where
  pub less : lt x y ≡ ltb a b
  pub same : eq x y ≡ eqb a b

and_true : (b : Bool) → b && true ≡ b
and_true true = refl
and_true false = refl

-- by the sign: a negative one is minus zero
signed : (s : Bool) (m : ℕ) (e : ℤ) (k : ℕ) (d : ℤ) (x y : ℕ) → from_zero (fin s m e) ≡ true
    → ltb (m * up e * down d) (k * up d * down e) ≡ ltb x y
    → eqb (m * up e * down d) (k * up d * down e) ≡ eqb x y
    → Compared (fin s m e) (fin false k d) x y
unfolding lt eq
signed false m e k d x y z l q = record { less = l; same = and_true _ ∙ q }
signed true m e k d x y z l q =
    let m0 : m ≡ 0 = eqb-true m 0 z in
    let a0 : m * up e * down d ≡ 0 = rw (m0, zero-mul, zero-mul) in
    record {
      less = rw (a0, zero-add) (rw a0 at l);
      same = rw (eq-eqb (m * up e * down d) 0 a0) (and_true _ ∙ q);
    }

-- beside a number that is a / c
pub compared : (x y : Float) (a c : ℕ) → 0 < c → from_zero x ≡ true → HasValue y false a c
    → Compared x y (num x * c) (a * den x)
compared nan y a c pc z v = absurd (true≢false (sym z))
compared (inf s) y a c pc z v = absurd (true≢false (sym z))
compared (fin s m e) nan a c pc z v = absurd v
compared (fin s m e) (inf t) a c pc z v = absurd v
compared (fin s m e) (fin true k d) a c pc z v = absurd (true≢false v.0)
compared (fin s m e) (fin false k d) a c pc z v =
    let A = m * up e * down d in
    let B = k * up d * down e in
    let X = m * up e * c in
    let Y = a * down e in
    let p : A * c ≡ X * down d = mul_right_comm (m * up e) (down d) c in
    let q : B * c ≡ Y * down d
    = mul_right_comm (k * up d) (down e) c
    ∙ ap (λ (z : ℕ). z * down e) v.1
    ∙ mul_right_comm a (down d) (down e) in
    let le-ab : leb A B ≡ leb X Y = cross_le A B X Y c (down d) pc (down_pos d) p q in
    let le-ba : leb B A ≡ leb Y X = cross_le B A Y X c (down d) pc (down_pos d) q p in
    signed s m e k d X Y z
    (lt_by_le A B ∙ ap not le-ba ∙ sym (lt_by_le X Y))
    (eq_by_le A B ∙ rw (le-ab, le-ba) (sym (eq_by_le X Y)))

smaller : (a b : ℕ) → eqb a b ≡ false → a ≤ b → a < b
smaller a b q h = let other : a ≢ b = eqb-false a b q in omega arith

pub compared_le : (x y : Float) (a b : ℕ) → Compared x y a b → le x y ≡ leb a b
unfolding le
compared_le x y a b k = rw (k.less, k.same) (go (leb a b) refl)
  where
    go : (t : Bool) → leb a b ≡ t → ltb a b || eqb a b ≡ t
    go true e = by_cases (eqb a b)
        (λ q. rw q (or-true (ltb a b)))
        (λ q. rw (lt-ltb a b (smaller a b q (leb-true a b e))))
    go false e =
        rw (le-ltb a b (omega (arith, leb-false a b e)), ne_eqb a b (λ z. omega (arith, leb-false a b e)))

-- ---- whole metres, and half of them

pub whole_value : (m : ℕ) → m ≤ 2 ^ 24 → HasValue (of_int binary32 (pos m)) false m 1
unfolding of_int
whole_value m h = round_whole binary32 false m h

pub whole_fits : (m : ℕ) → m ≤ 2 ^ 24 → T (in_float binary32 (pos m))
unfolding in_float
whole_fits m h = le→leb m (2 ^ 24) h

-- the bits of 0.5
abbrev pub half : Float
half = of_bits binary32 0x3f00_0000

half_rounds : (y : Float) (m : ℕ) → HasValue y false m 1 → mul binary32 y half ≡ round binary32 false m 2
unfolding mul of_bits
half_rounds nan m v = absurd v
half_rounds (inf t) m v = absurd v
half_rounds (fin true k d) m v = absurd (true≢false v.0)
half_rounds (fin false k d) m v =
    round_same binary32 false (k * up d * 1) (down d * 2) m 2 (omega (arith, down_pos d)) (lit< tt)
    (rw v.1 (mul_assoc m (down d) 2))

half_exact : (m : ℕ) → m < 2 ^ 24 → HasValue (round binary32 false m 2) false m 2
half_exact m h =
    round_exact binary32 false m 2 m 148 (lit< tt) h (lt_trans (shl_lt 24 148 h) (lit< tt))
    (sym (mul_assoc m (2 ^ 148) 2))

pub half_value : (m : ℕ) → m < 2 ^ 24 → HasValue (mul binary32 (of_int binary32 (pos m)) half) false m 2
half_value m h = rw (half_rounds _ m (whole_value m (omega arith))) (half_exact m h)

-- ---- from zero to the last post

-- plus infinity is above every finite number
inf_above : (y : Float) (m c : ℕ) → HasValue y false m c → le (inf false) y ≡ false
unfolding le
inf_above nan m c v = absurd v
inf_above (inf t) m c v = absurd v
inf_above (fin t k d) m c v = refl

none : (a x : ℕ) → a ≡ 0 → ltb a x || (eqb a x && true) ≡ true
none a x z = by_cases (eqb a x)
    (λ q. rw q (or-true (ltb a x)))
    (λ q. rw (lt-ltb a x (smaller a x q (omega arith))))

zero_product : (m u : ℕ) → 0 < u → eqb 0 (m * u) ≡ eqb m 0
zero_product zero u h = rw (zero-mul u)
zero_product (suc m) u h =
    ne_eqb 0 (suc m * u) (λ e. lt_irrefl 0 (subst (λ (z : ℕ). 0 < z) (sym e) (mul-pos (omega arith) h)))
    ∙ sym (ne_eqb (suc m) 0 (λ e. omega arith))

-- zero is at most it, exactly where it is finite and not below zero; plus infinity is left to the last post
from_zero_lem : (s : Bool) (m : ℕ) (e : ℤ) → le (of_bits binary32 0) (fin s m e) ≡ from_zero (fin s m e)
unfolding le of_bits
from_zero_lem false m e = none (0 * down e) (m * up e * 1) (zero-mul (down e))
from_zero_lem true m e = rw (zero-mul (down e), mul-one) (and_true _ ∙ zero_product m (up e) (up_pos e))

nan_not : le (of_bits binary32 0) nan ≡ true → ⊥
unfolding le of_bits
nan_not h = true≢false (sym h)

minus_inf_not : le (of_bits binary32 0) (inf true) ≡ true → ⊥
unfolding le of_bits
minus_inf_not h = true≢false (sym h)

pub on_line_to : (x : Float) (m : ℕ) → m ≤ 2 ^ 24 → le (of_bits binary32 0) x ≡ true
    → le x (of_int binary32 (pos m)) ≡ within_line m x
on_line_to nan m k h = absurd (nan_not h)
on_line_to (inf true) m k h = absurd (minus_inf_not h)
on_line_to (inf false) m k h = inf_above _ m 1 (whole_value m k)
on_line_to (fin s n e) m k h =
    let z : from_zero (fin s n e) ≡ true = sym (from_zero_lem s n e) ∙ h in
    compared_le _ _ _ _ (compared (fin s n e) _ m 1 (lit< tt) z (whole_value m k)) ∙ rw (mul-one, z)

pub off_the_line_lem : (x : Float) (m : ℕ) → le (of_bits binary32 0) x ≡ false → within_line m x ≡ false
off_the_line_lem nan m h = refl
off_the_line_lem (inf s) m h = refl
off_the_line_lem (fin s n e) m h = rw (sym (from_zero_lem s n e) ∙ h)

-- ---- the nearer of two posts

-- n lies between a and c, no farther from a: it is not past the middle
middle : (a n c : ℕ) → a ≤ n → n ≤ c → leb (distance n a) (distance n c) ≡ leb (2 * n) (a + c)
middle a n c h k = same_test _ _
    (λ e. le-leb (2 * n) (a + c) (let d = leb-true (distance n a) (distance n c) e in omega arith))
    (λ e. le-leb (distance n a) (distance n c) (let d = leb-true (2 * n) (a + c) e in omega arith))

-- what a number lies between is in order
pub in_order : (x : Float) (a c : ℕ) → FromTo x a c → a ≤ c
in_order x a c w = le_of_mul-le-mul_right (le_trans w.after w.before) (den_pos x)

pub by_middle : (x : Float) (a c : ℕ) → FromTo x a c → c ≤ most_metres
    → leb (gap x a) (gap x c) ≡ le x (mul binary32 (of_int binary32 (pos (a + c))) half)
by_middle x a c w h =
    middle (a * den x) (num x) (c * den x) w.after w.before
    ∙ rw (mul_comm 2 (num x), ← add-mul a c (den x))
    (sym (compared_le _ _ _ _ (compared x _ (a + c) 2 (lit< tt) w.number (half_value (a + c) few))))
  where
    few : a + c < 2 ^ 24
    few = omega (arith, in_order x a c w)
