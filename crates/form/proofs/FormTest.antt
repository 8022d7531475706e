-- What `all` over the first elements of a list, or over the numbers below a bound, says of each place.
use mathlib.Core.Path.{◌≡◌, refl}
use mathlib.Core.Bool.{Bool, true}
use mathlib.Core.List.{List}
use Prim.Native.Nat.{ℕ, zero, suc, ◌+◌, ◌≤◌, ◌<◌}
use native.Mathlib.Omega.{arith}
use lib.ListN.{length, get_or, take}
use Rattle.std.specs.Prelude.{◌↔◌}
use Rattle.std.specs.List.{All, list_all, range_with_len}
use Rattle.std.proofs.lemmas.List.{get_or-take, length-take-le}
use Rattle.std.proofs.lemmas.List.Elements.{All-get_or, All-from_get_or}
use Rattle.common.specs.Below.{all_below}
use Rattle.common.proofs.Tests.{by_equality, same_test, and_left, and_right, and_both}
use Rattle.common.proofs.Below.{all_below_lem, below_all}

-- the tests of the first n elements are those of the places below n
module _ {A : Type 0} (xs : List A) (d : A) (test : A → Bool) (n : ℕ) (few : n ≤ length xs) where
  pub first_test : (b : Bool) → (b ≡ true) ↔ All (λ x. test x ≡ true) (take n xs)
      → b ≡ all_below n (λ k. test (get_or xs k d))
  first_test b each = same_test b (all_below n (λ k. test (get_or xs k d)))
      (λ e. below_all n _ (λ k h.
      let passed : test (get_or (take n xs) k d) ≡ true =
      All-get_or (λ x. test x ≡ true) (take n xs) k d (rw length-take-le h) (each.0 e) in
      rw (get_or-take n xs k d h) at passed))
      (λ e. each.1 (All-from_get_or (λ x. test x ≡ true) (take n xs) d (λ k h.
      let l : k < n = rw length-take-le at h in
      rw get_or-take (all_below_lem n _ e k l))))

module _ (test : ℕ → Bool) where
  each_passes : (a n : ℕ) → list_all test (range_with_len a n) ≡ true → (k : ℕ) → a ≤ k → k < a + n → test k ≡ true
  each_passes a zero e k h l = absurd (let z : ⊥ = omega arith in z)
  each_passes a (suc n) e k h l = by_equality k a
      (λ q. rw q (and_left (test a) (list_all test (range_with_len (a + 1) n)) e))
      (λ q. each_passes (a + 1) n (and_right (test a) (list_all test (range_with_len (a + 1) n)) e) k (omega arith)
      (omega arith))

  all_pass : (a n : ℕ) → ((k : ℕ) → a ≤ k → k < a + n → test k ≡ true) → list_all test (range_with_len a n) ≡ true
  all_pass a zero h = refl
  all_pass a (suc n) h = and_both (test a) (list_all test (range_with_len (a + 1) n)) (h a (omega arith) (omega arith))
      (all_pass (a + 1) n (λ k l m. h k (omega arith) (omega arith)))

  pub range_test : (n : ℕ) → list_all test (range_with_len 0 n) ≡ all_below n test
  range_test n = same_test (list_all test (range_with_len 0 n)) (all_below n test)
      (λ e. below_all n test (λ k h. each_passes 0 n e k (omega arith) (omega arith)))
      (λ e. all_pass 0 n (λ k l h. all_below_lem n test e k (omega arith)))
