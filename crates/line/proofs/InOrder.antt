-- Positions in order, by their parts.
use mathlib.Core.Path.{◌≡◌}
use mathlib.Core.Bool.{true}
use mathlib.Core.List.{List}
use Prim.Native.Nat.{ℕ, zero, suc, ◌+◌, ◌-◌, ◌≤◌, ◌<◌}
use native.Mathlib.Nat.{not-suc-le-zero}
use native.Mathlib.Omega.{arith}
use lib.Dec.{eqb}
use borrow.Author.Tests.{leb-true, ltb-true, eqb-true, le-leb, lt-ltb, eq-eqb}
use Rattle.common.specs.Below.{all_below}
use Rattle.common.proofs.Tests.{and_left, and_right, and_both, by_equality}
use Rattle.common.proofs.Below.{all_below_lem, below_all}
use Rattle.line.specs.Positions.{metres_at, most_metres, positions_in_order}

module _ (n : ℕ) (ps : List ℕ) where
  module _ (ordered : positions_in_order n ps ≡ true) where
    pub from_zero_lem : metres_at ps 0 ≡ 0
    unfolding positions_in_order
    from_zero_lem = eqb-true (metres_at ps 0) 0 (and_left (eqb (metres_at ps 0) 0) _ ordered)

    pub next_above : (p : ℕ) → p < n - 1 → metres_at ps p < metres_at ps (p + 1)
    unfolding positions_in_order
    next_above p h =
        let more = and_right (eqb (metres_at ps 0) 0) _ ordered in
        ltb-true _ _ (all_below_lem (n - 1) _ (and_left (all_below (n - 1) _) _ more) p h)

    pub bounded : (p : ℕ) → p < n → metres_at ps p ≤ most_metres
    unfolding positions_in_order
    bounded p h =
        let more = and_right (eqb (metres_at ps 0) 0) _ ordered in
        leb-true _ _ (all_below_lem n _ (and_right (all_below (n - 1) _) _ more) p h)

    -- from each post to any later one
    pub rising : (p q : ℕ) → p < q → q < n → metres_at ps p < metres_at ps q
    rising p zero h k = absurd (not-suc-le-zero h)
    rising p (suc q) h k =
        let step : metres_at ps q < metres_at ps (q + 1) = next_above q (omega arith) in
        let same : suc q ≡ q + 1 = omega arith in
        by_equality p q
        (λ e. rw (same, e) step)
        (λ e. let before = rising p q (omega arith) (omega arith) in rw same (omega arith))

    -- a later post is no nearer to the first
    pub no_nearer : (p q : ℕ) → p ≤ q → q < n → metres_at ps p ≤ metres_at ps q
    no_nearer p q h k = by_equality p q
        (λ e. rw e (omega arith))
        (λ e. let above = rising p q (omega arith) k in omega arith)

  -- the three together
  pub in_order_parts : metres_at ps 0 ≡ 0
      → ((p : ℕ) → p < n - 1 → metres_at ps p < metres_at ps (p + 1))
      → ((p : ℕ) → p < n → metres_at ps p ≤ most_metres) → positions_in_order n ps ≡ true
  unfolding positions_in_order
  in_order_parts zero-first up most =
      and_both _ _ (eq-eqb (metres_at ps 0) 0 zero-first)
      (and_both _ _ (below_all (n - 1) _ (λ p h. lt-ltb _ _ (up p h))) (below_all n _ (λ p h. le-leb _ _ (most p h))))
