-- Two numbers of metres that are the same fraction, told in different parts of a metre, have the same place.
use mathlib.Core.Path.{◌≡◌, sym, ap, ◌∙◌}
use mathlib.Core.Bool.{true, false}
use mathlib.Core.List.{List}
use Prim.Native.Nat.{ℕ, ◌-◌, ◌*◌, ◌<◌}
use native.Mathlib.Nat.{mul_comm, mul_right_comm, mul-sub, add-mul, mul-le-mul_right, mul-lt-mul_of_pos_right}
use native.Mathlib.Nat.{le_of_mul-le-mul_right, lt_of_mul-lt-mul_right, eq_of_mul-eq-mul_right}
use lib.Dec.{leb}
use lib.Ieee.{Float}
use lib.Ieee.Positive.{num, den, den_pos}
use borrow.Author.Tests.{leb-false, lt-leb}
use Rattle.line.specs.Route.{distance}
use Rattle.line.specs.Positions.{metres_at}
use Rattle.place.specs.Metres.{from_zero, within_line, gap}
use Rattle.place.specs.Locating.{Metres, Place, Result, Surveyed, on_survey}
use Rattle.place.specs.Claims.{Nearest}
use Rattle.place.proofs.Cases.{metres_off}
use Rattle.place.proofs.Nearest.{nearest_of_all}
use Rattle.place.proofs.Told.{Told, at_one, in_one, off_line, told, told_at, told_in}

minus_times : (a b k : ℕ) → (a - b) * k ≡ a * k - b * k
minus_times a b k = mul_comm (a - b) k ∙ mul-sub k a b ∙ rw (mul_comm k a, mul_comm k b)

distance_times : (a b k : ℕ) → distance a b * k ≡ distance (a * k) (b * k)
distance_times a b k = add-mul (b - a) (a - b) k ∙ rw (minus_times b a k, minus_times a b k)

module _ (x y : Float) (same : num x * den y ≡ num y * den x) where
  -- m metres beside either
  beside : (m : ℕ) → m * den x * den y ≡ m * den y * den x
  beside m = mul_right_comm m (den x) (den y)

  same_after : (m : ℕ) → m * den x < num x → m * den y < num y
  same_after m h = lt_of_mul-lt-mul_right (den x) (rw (← beside m, ← same) (mul-lt-mul_of_pos_right h (den_pos y)))

  same_before : (m : ℕ) → num x < m * den x → num y < m * den y
  same_before m h = lt_of_mul-lt-mul_right (den x) (rw (← beside m, ← same) (mul-lt-mul_of_pos_right h (den_pos y)))

  same_equal : (m : ℕ) → num x ≡ m * den x → num y ≡ m * den y
  same_equal m e =
      eq_of_mul-eq-mul_right (den x) (den_pos x) _ _ (sym same ∙ ap (λ (z : ℕ). z * den y) e ∙ beside m)

  same_gap : (m : ℕ) → gap x m * den y ≡ gap y m * den x
  same_gap m =
      distance_times (num x) (m * den x) (den y)
      ∙ rw (same, beside m)
      (sym (distance_times (num y) (m * den y) (den x)))

  module _ (n : ℕ) (ps : List ℕ) (s : Surveyed n ps) (not_below : from_zero y ≡ true) where
    same_nearest : (q : ℕ) → Nearest n ps x q → Nearest n ps y q
    same_nearest q h = record {
      on_line = h.on_line;
      none_nearer = λ r k. le_of_mul-le-mul_right
          (rw (← same_gap (metres_at ps q), ← same_gap (metres_at ps r)) (mul-le-mul_right (den y) (h.none_nearer r k)))
          (den_pos x);
      lower_farther = λ r k. lt_of_mul-lt-mul_right (den x)
          (rw (← same_gap (metres_at ps q), ← same_gap (metres_at ps r))
          (mul-lt-mul_of_pos_right (h.lower_farther r k) (den_pos y)));
    }

    past_last : (m : ℕ) → from_zero x ≡ true → within_line m x ≡ false → within_line m y ≡ false
    past_last m z h =
        let past : leb (num x) (m * den x) ≡ false = rw z at h in
        rw (not_below, lt-leb (num y) (m * den y) (same_after m (leb-false _ _ past)))

    by_told : (a : Result Place ℕ) → Told n ps x a → from_zero x ≡ true → a ≡ on_survey n ps (Metres y)
    by_told _ (at_one p h own) z =
        told_at n ps y s p h (record { number = not_below; equal = same_equal _ own.equal })
    by_told _ (in_one i h b) z =
        told_in n ps y s i _ h
        (record {
          from_zero = not_below;
          after = same_after _ b.after;
          before = same_before _ b.before;
        })
        (same_nearest _ (nearest_of_all n ps x s.ordered i h b))
    by_told _ (off_line h) z = metres_off n ps y (past_last _ z h)

    pub same_place : from_zero x ≡ true → on_survey n ps (Metres x) ≡ on_survey n ps (Metres y)
    same_place z = by_told _ (told n ps x s) z
