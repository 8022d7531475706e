-- What the library's calls leave of each number below a bound: an array made of a function's values, and a test of all.
use mathlib.Core.Path.{◌≡◌, refl, sym, ap, subst, ◌∙◌}
use mathlib.Core.Bool.{Bool, ◌&&◌}
use mathlib.Core.List.{List, [], ◌∷◌}
use Prim.Native.Nat.{ℕ, zero, suc, ◌+◌, ◌≤◌, ◌<◌}
use native.Mathlib.Nat.{zero-add}
use native.Mathlib.Omega.{arith}
use lib.ListN.{length, get_or}
use lib.Seq.{ext_get_or}
use denote.Param.Members.{Mut, Called}
use Rattle.std.specs.Array.{IsFromFnResult, IsFromFnResultFrom}
use Rattle.std.specs.List.{list_all, range_with_len, between}
use Rattle.std.proofs.lemmas.List.FromFn.{length-range_with_len, get_or-range_with_len}
use Rattle.std.proofs.lemmas.List.Edits.{length-between, get_or-between}
use Rattle.common.specs.Below.{all_below}
use Rattle.common.specs.Tabulate.{tabulate}
use Rattle.common.proofs.Below.{all_cong}
use Rattle.common.proofs.Tests.{by_cases, by_equality}
use Rattle.common.proofs.Tabulate.{length_tabulate, at_tabulate}

-- ---- an array made by calls at each number below its length, all of which answer h of the number

module _ {F B : Type 0} (g : Mut F (ℕ × Unit {0}) B) (h : ℕ → B) (f : F)
    (answers : (i : ℕ) (y : B) (q : F) → Called g f (i, tt) y q → (q ≡ f) × (y ≡ h i)) where
  made_from : (ys : List B) (i n : ℕ) → IsFromFnResultFrom g f ys i n → (k : ℕ) (d : B) → i ≤ k → k < i + n
      → get_or ys k d ≡ h k
  made_from ys i zero m k d low high = absurd (omega arith)
  made_from ys i (suc n) m k d low high =
      let q = m.0 in
      let y = m.1 in
      let here = answers i y q m.3 in
      let rest : IsFromFnResultFrom g f ys (i + 1) n = subst (λ p. IsFromFnResultFrom g p ys (i + 1) n) here.0 m.4 in
      by_equality k i
      (λ e. rw e (m.2.1 d ∙ here.1))
      (λ e. made_from ys (i + 1) n rest k d (omega arith) (omega arith))

  pub made : (ys : List B) (n : ℕ) → IsFromFnResult g f ys n → ys ≡ tabulate n h
  made ys n m =
      ext_get_or (h 0) ys (tabulate n h) (m.long ∙ sym (length_tabulate n h))
      (λ k l. let small : k < n = rw m.long at l in
      made_from ys 0 n m.each k (h 0) (omega arith) (omega arith) ∙ sym (at_tabulate n h k (h 0) small))

-- ---- a test of all elements

-- the first test may come first
all_below_front : (n : ℕ) (f : ℕ → Bool) → all_below (suc n) f ≡ f 0 && all_below n (λ i. f (suc i))
unfolding all_below
all_below_front zero f = refl
all_below_front (suc n) f =
    let ih = all_below_front n f in
    by_cases (f 0)
    (λ e. rw (ih, e))
    (λ e. by_cases (f (suc n)) (λ z. rw (ih, e, z)) (λ z. rw (e, z)))

all_below_list : {A : Type 0} (test : A → Bool) (d : A) (xs : List A)
    → list_all test xs ≡ all_below (length xs) (λ i. test (get_or xs i d))
unfolding all_below
all_below_list test d [] = refl
all_below_list test d (x ∷ xs) =
    rw (all_below_list test d xs) (sym (all_below_front (length xs) (λ i. test (get_or (x ∷ xs) i d))))

pub all_in_range : (test : ℕ → Bool) (n : ℕ) → list_all test (range_with_len 0 n) ≡ all_below n test
all_in_range test n =
    let number : (i : ℕ) → i < n → get_or (range_with_len 0 n) i 0 ≡ i =
    λ i h. get_or-range_with_len 0 n i 0 h ∙ zero-add i in
    all_below_list test 0 (range_with_len 0 n)
    ∙ rw (length-range_with_len 0 n) (all_cong n _ test (λ i h. ap test (number i h)))

-- the elements from a on and before e
pub all_in_part : (test : ℕ → Bool) (s : List ℕ) (a e n : ℕ) → a + n ≡ e → e ≤ length s
    → list_all test (between a e s) ≡ all_below n (λ i. test (get_or s (a + i) 0))
all_in_part test s a e n is room =
    let size : length (between a e s) ≡ n = length-between s a e room ∙ omega arith in
    all_below_list test 0 (between a e s)
    ∙ rw size (all_cong n _ _ (λ i h. ap test (get_or-between s a e i 0 (omega arith))))
