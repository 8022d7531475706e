-- The test of positions, each from the second on against the one before it.
use mathlib.Core.Path.{◌≡◌}
use mathlib.Core.Bool.{Bool, true, ◌&&◌}
use mathlib.Core.List.{List}
use Prim.Native.Nat.{ℕ, ◌+◌, ◌-◌, ◌<◌}
use native.Mathlib.Omega.{arith}
use lib.Dec.{leb, ltb}
use borrow.Author.Tests.{ltb-true, leb-true, lt-ltb, le-leb}
use Rattle.std.specs.List.{list_all, range_with_len}
use Rattle.std.proofs.lemmas.List.FromFn.{length-range_with_len, get_or-range_with_len}
use Rattle.std.proofs.lemmas.List.Sums.{AllPass-from_list_all, list_all-from_AllPass}
use Rattle.std.proofs.lemmas.List.Elements.{All-get_or, All-from_get_or}
use Rattle.common.proofs.Tests.{by_equality, same_test, and_left, and_right, and_both}
use Rattle.line.specs.Positions.{metres_at, most_metres, positions_in_order}
use Rattle.line.proofs.InOrder.{in_order_parts, next_above, bounded}

-- the position of post p is above the one before it, and not too far
abbrev pub rises : List ℕ → ℕ → Bool
rises ps p = ltb (metres_at ps (p - 1)) (metres_at ps p) && leb (metres_at ps p) most_metres

-- a test of each number from a on, n of them
module _ (test : ℕ → Bool) (a n : ℕ) where
  each_passes : list_all test (range_with_len a n) ≡ true → (i : ℕ) → i < n → test (a + i) ≡ true
  each_passes e i h =
      let passed = AllPass-from_list_all test (range_with_len a n) e in
      rw (get_or-range_with_len a n i 0 h) at
      (All-get_or (λ k. test k ≡ true) (range_with_len a n) i 0 (rw length-range_with_len h) passed)

  all_pass : ((i : ℕ) → i < n → test (a + i) ≡ true) → list_all test (range_with_len a n) ≡ true
  all_pass each = list_all-from_AllPass test (range_with_len a n)
      (All-from_get_or (λ k. test k ≡ true) (range_with_len a n) 0 (λ i h.
      let l : i < n = rw length-range_with_len at h in
      rw (get_or-range_with_len a n i 0 l) (each i l)))

module _ (n : ℕ) (ps : List ℕ) (first : metres_at ps 0 ≡ 0) where
  all_rise : positions_in_order n ps ≡ true → (i : ℕ) → i < n - 1 → rises ps (1 + i) ≡ true
  all_rise ordered i h =
      let next : i + 1 ≡ 1 + i = omega arith in
      let up : metres_at ps i < metres_at ps (1 + i) = rw next at (next_above n ps ordered i h) in
      let here : 1 + i - 1 ≡ i = omega arith in
      and_both _ _ (rw here (lt-ltb _ _ up)) (le-leb _ _ (bounded n ps ordered (1 + i) (omega arith)))

  rising : ((i : ℕ) → i < n - 1 → rises ps (1 + i) ≡ true) → positions_in_order n ps ≡ true
  rising each = in_order_parts n ps first
      (λ i h.
      let here : 1 + i - 1 ≡ i = omega arith in
      let next : 1 + i ≡ i + 1 = omega arith in
      let up = ltb-true _ _ (and_left (ltb (metres_at ps (1 + i - 1)) (metres_at ps (1 + i))) _ (each i h)) in
      rw (here, next) at up)
      (λ k h. by_equality k 0
      (λ e. rw (e, first) (omega arith))
      (λ e.
      let near = leb-true _ _ (and_right (ltb (metres_at ps (1 + (k - 1) - 1)) (metres_at ps (1 + (k - 1)))) _
      (each (k - 1) (omega arith))) in
      let here : 1 + (k - 1) ≡ k = omega arith in
      rw here at near))

  pub order_test : list_all (rises ps) (range_with_len 1 (n - 1)) ≡ positions_in_order n ps
  order_test = same_test (list_all (rises ps) (range_with_len 1 (n - 1))) (positions_in_order n ps)
      (λ e. rising (each_passes (rises ps) 1 (n - 1) e))
      (λ e. all_pass (rises ps) 1 (n - 1) (all_rise e))
