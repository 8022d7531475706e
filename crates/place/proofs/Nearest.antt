-- The nearest of all posts: along the line positions rise, so that the posts on either side of a number are farther the
-- further they are away.
use mathlib.Core.Path.{◌≡◌}
use mathlib.Core.Bool.{true}
use mathlib.Core.List.{List}
use Prim.Native.Nat.{ℕ, ◌+◌, ◌*◌, ◌≤◌, ◌<◌}
use native.Mathlib.Nat.{mul-le-mul_right, mul-lt-mul_of_pos_right}
use native.Mathlib.Omega.{arith}
use lib.Dec.{leb}
use lib.Ieee.{Float}
use lib.Ieee.Positive.{den, den_pos}
use borrow.Author.Tests.{leb-true, leb-false}
use Rattle.common.proofs.Tests.{by_cases, by_equality, by_order}
use Rattle.line.specs.Positions.{metres_at, positions_in_order}
use Rattle.line.proofs.InOrder.{rising, no_nearer}
use Rattle.place.specs.Metres.{gap, nearer}
use Rattle.place.specs.Claims.{IsAt, IsBetween, Nearest}

module _ (n : ℕ) (ps : List ℕ) (x : Float) (ordered : positions_in_order n ps ≡ true) where
  -- the positions in the parts of a metre that the number is told in
  abbrev pub along : ℕ → ℕ
  along p = metres_at ps p * den x

  pub farther : (p q : ℕ) → p < q → q < n → along p < along q
  farther p q h k = mul-lt-mul_of_pos_right (rising n ps ordered p q h k) (den_pos x)

  pub no_farther : (p q : ℕ) → p ≤ q → q < n → along p ≤ along q
  no_farther p q h k = mul-le-mul_right (den x) (no_nearer n ps ordered p q h k)

  -- at a post
  module _ (p : ℕ) (h : p < n) (own : IsAt ps x p) where
    pub nearest_own : Nearest n ps x p
    nearest_own = record {
      on_line = h;
      none_nearer = λ r k. omega (arith, own.equal);
      lower_farther = λ r k. omega (arith, own.equal, farther r p k h);
    }

  -- in a section
  module _ (i : ℕ) (h : i + 1 < n) (b : IsBetween ps x i) where
    -- of the posts up to its lower one, and from its upper one on
    lower : (r : ℕ) → r ≤ i → gap x (metres_at ps i) ≤ gap x (metres_at ps r)
    lower r k = omega (arith, b.after, no_farther r i k (omega arith))

    upper : (r : ℕ) → i < r → r < n → gap x (metres_at ps (i + 1)) ≤ gap x (metres_at ps r)
    upper r k m = omega (arith, b.before, no_farther (i + 1) r (omega arith) m)

    below : (r : ℕ) → r < i → gap x (metres_at ps i) < gap x (metres_at ps r)
    below r k = omega (arith, b.after, farther r i k (omega arith))

    abbrev least : ℕ
    least = nearer x i (metres_at ps i) (metres_at ps (i + 1))

    pub nearest_of_all : Nearest n ps x least
    nearest_of_all = by_cases (leb (gap x (metres_at ps i)) (gap x (metres_at ps (i + 1))))
        (λ e.
        let first = leb-true (gap x (metres_at ps i)) (gap x (metres_at ps (i + 1))) e in
        rw e record {
          on_line = omega arith;
          none_nearer = λ r k. by_order i r
              (λ past. omega (arith, first, upper r past k))
              (λ up. lower r up);
          lower_farther = below;
        })
        (λ e.
        let first = leb-false (gap x (metres_at ps i)) (gap x (metres_at ps (i + 1))) e in
        rw e record {
          on_line = h;
          none_nearer = λ r k. by_order i r
              (λ past. upper r past k)
              (λ up. omega (arith, first, lower r up));
          lower_farther = λ r k. omega (arith, first, lower r (omega arith));
        })

  -- there is one nearest post
  pub one_nearest : (p q : ℕ) → Nearest n ps x p → Nearest n ps x q → p ≡ q
  one_nearest p q a b = by_equality p q
      (λ e. e)
      (λ e. by_order p q
      (λ h. absurd (let y : ⊥ = omega (arith, b.lower_farther p h, a.none_nearer q b.on_line) in y))
      (λ h. absurd (let y : ⊥ = omega (arith, a.lower_farther q (omega arith), b.none_nearer p a.on_line) in y)))
