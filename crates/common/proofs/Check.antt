-- Laws of checks in order. A proof about a refusal passes the checks one by one and stops at the one that fails.
use mathlib.Core.Path.{◌≡◌, refl, sym, subst, ◌∙◌}
use mathlib.Core.Logic.{◌≢◌}
use mathlib.Core.Bool.{Bool, true, false, not, cond, ◌&&◌, ◌||◌}
use mathlib.Core.List.{List, [], ◌∷◌, ◌++◌}
use Prim.Native.Nat.{ℕ, zero, suc, ◌<◌}
use native.Mathlib.Nat.{not-suc-le-zero}
use native.Mathlib.Omega.{arith}
use lib.Dec.{eqb, ltb}
use lib.ListN.{get_or}
use borrow.Author.Tests.{eq-eqb, ltb-true}
use Rattle.common.specs.Check.{Check, check, refusal, unless_refused}
use Rattle.common.proofs.Tests.{clash, by_cases, by_equality, and_left, and_right}

-- how the number of a list of checks comes about: checks that pass, then one that fails or the end of the list
pub data Refuses : List Check → ℕ → Type 0 where
  none : Refuses [] 0
  stop : {c : Check} {cs : List Check} → c.passes ≡ false → Refuses (c ∷ cs) c.number
  pass : {c : Check} {cs : List Check} {n : ℕ} → c.passes ≡ true → Refuses cs n → Refuses (c ∷ cs) n

pub refusal_is : {cs : List Check} {n : ℕ} → Refuses cs n → refusal cs ≡ n
unfolding refusal
refusal_is none = refl
refusal_is (stop e) = rw e
refusal_is (pass e r) = rw e (refusal_is r)

-- a number that is not 0 for each check
abbrev pub numbered : List Check → Bool
numbered [] = true
numbered (c ∷ cs) = ltb 0 c.number && numbered cs

-- what is not refused passes each check: at its place in the list
pub passed_at : (cs : List Check) → numbered cs ≡ true → refusal cs ≡ 0
    → (i : ℕ) → (get_or cs i (check 0 true)).passes ≡ true
unfolding refusal
passed_at [] k e i = refl
passed_at (c ∷ cs) k e i = by_cases c.passes
    (λ p. at p (passed_at cs (and_right (ltb 0 c.number) (numbered cs) k) (rw p at e)) i)
    (λ p. absurd (positive (rw p at e)))
  where
    at : c.passes ≡ true → ((j : ℕ) → (get_or cs j (check 0 true)).passes ≡ true)
        → (i : ℕ) → (get_or (c ∷ cs) i (check 0 true)).passes ≡ true
    at p ih zero = p
    at p ih (suc j) = ih j

    positive : c.number ≡ 0 → ⊥
    positive z = let n = ltb-true 0 c.number (and_left (ltb 0 c.number) (numbered cs) k) in omega arith

-- the same by its number, so that a row more in the list moves no proof

-- the tests that are numbered n, in order
abbrev pub tests_of : ℕ → List Check → List Bool
tests_of n [] = []
tests_of n (c ∷ cs) = cond (eqb c.number n) (c.passes ∷ tests_of n cs) (tests_of n cs)

-- they pass: where there is one, that one; of more, the first and those after it
abbrev pub Pass : List Bool → Type 0
Pass [] = Unit {0}
Pass (b ∷ []) = b ≡ true
Pass (b ∷ (c ∷ bs)) = (b ≡ true) × Pass (c ∷ bs)

pass_more : (b : Bool) (bs : List Bool) → b ≡ true → Pass bs → Pass (b ∷ bs)
pass_more b [] p q = p
pass_more b (c ∷ bs) p q = (p, q)

pub passed_by : (cs : List Check) → numbered cs ≡ true → refusal cs ≡ 0 → (n : ℕ) → Pass (tests_of n cs)
unfolding refusal
passed_by [] k e n = tt
passed_by (c ∷ cs) k e n =
    let p : c.passes ≡ true = passed_at (c ∷ cs) k e 0 in
    let rest = passed_by cs (and_right (ltb 0 c.number) (numbered cs) k) (rw p at e) n in
    by_cases (eqb c.number n)
    (λ own. rw own (pass_more c.passes (tests_of n cs) p rest))
    (λ other. rw other rest)

-- every check of the number n passes
abbrev pub clear : ℕ → List Check → Bool
clear n [] = true
clear n (c ∷ cs) = (not (eqb c.number n) || c.passes) && clear n cs

-- then nothing is refused by n
pub not_given : (n : ℕ) (cs : List Check) → 0 < n → clear n cs ≡ true → refusal cs ≢ n
unfolding refusal
not_given n [] h k e = omega arith
not_given n (c ∷ cs) h k e = by_cases c.passes
    (λ p. not_given n cs h (and_right (not (eqb c.number n) || c.passes) (clear n cs) k) (rw p at e))
    (λ p.
    let own : not (eqb c.number n) || c.passes ≡ true = and_left (not (eqb c.number n) || c.passes)
    (clear n cs) k in
    let same : c.number ≡ n = rw p at e in
    let passes : c.passes ≡ true = rw (eq-eqb c.number n same) at own in
    clash c.passes passes p)

-- ---- numbers below a bound

-- every number is below b
abbrev pub numbers_below : ℕ → List Check → Bool
numbers_below b [] = true
numbers_below b (c ∷ cs) = ltb c.number b && numbers_below b cs

pub refusal_below : (b : ℕ) (cs : List Check) → 0 < b → numbers_below b cs ≡ true → refusal cs < b
unfolding refusal
refusal_below b [] h k = h
refusal_below b (c ∷ cs) h k = by_cases c.passes
    (λ p. rw p (refusal_below b cs h (and_right (ltb c.number b) (numbers_below b cs) k)))
    (λ p. rw p (ltb-true c.number b (and_left (ltb c.number b) (numbers_below b cs) k)))

-- ---- the first check, and the others

pub check_passes : (c : Check) (cs : List Check) → c.passes ≡ true → refusal (c ∷ cs) ≡ refusal cs
unfolding refusal
check_passes c cs e = rw e

pub check_fails : (c : Check) (cs : List Check) → c.passes ≡ false → refusal (c ∷ cs) ≡ c.number
unfolding refusal
check_fails c cs e = rw e

-- ---- checks in two parts

pub second_part : (cs ds : List Check) → numbered cs ≡ true → refusal cs ≡ 0 → refusal (cs ++ ds) ≡ refusal ds
unfolding refusal
second_part [] ds k e = refl
second_part (c ∷ cs) ds k e =
    let p : c.passes ≡ true = passed_at (c ∷ cs) k e 0 in
    rw p (second_part cs ds (and_right (ltb 0 c.number) (numbered cs) k) (rw p at e))

pub first_part : (cs ds : List Check) → 0 < refusal cs → refusal (cs ++ ds) ≡ refusal cs
unfolding refusal
first_part [] ds h = absurd (not-suc-le-zero h)
first_part (c ∷ cs) ds h = by_cases c.passes (λ p. rw p (first_part cs ds (rw p at h))) (λ p. rw p)

-- nothing is refused: neither by the first part nor by the second
pub both_pass : (cs ds : List Check) → numbered cs ≡ true → refusal (cs ++ ds) ≡ 0 → (refusal cs ≡ 0) × (refusal ds ≡ 0)
both_pass cs ds k e = by_equality (refusal cs) 0
    (λ z. (z, sym (second_part cs ds k z) ∙ e))
    (λ z. absurd (z (sym (first_part cs ds (omega arith)) ∙ e)))

-- the same as the way that the number comes about
pub refuses_of : (cs : List Check) {n : ℕ} → refusal cs ≡ n → Refuses cs n
unfolding refusal
refuses_of [] e = subst (Refuses []) e none
refuses_of (c ∷ cs) e = by_cases c.passes
    (λ p. pass p (refuses_of cs (rw p at e)))
    (λ p. let z : c.number ≡ _ = rw p at e in subst (Refuses (c ∷ cs)) z (stop p))

pub stop_within : (cs ds : List Check) → 0 < refusal cs → Refuses (cs ++ ds) (refusal cs)
stop_within cs ds h = refuses_of (cs ++ ds) (first_part cs ds h)

pub pass_all : (cs : List Check) {ds : List Check} {n : ℕ} → numbered cs ≡ true → refusal cs ≡ 0 → Refuses ds n
    → Refuses (cs ++ ds) n
pass_all cs {ds = ds} k e r = refuses_of (cs ++ ds) (second_part cs ds k e ∙ refusal_is r)

-- ---- the answer

pub accepts : {A : Type 0} {n : ℕ} (x : A) (f : ℕ → A) → n ≡ 0 → unless_refused n x f ≡ x
unfolding unless_refused
accepts x f e = rw e

pub refuses : {A : Type 0} {n : ℕ} (x : A) (f : ℕ → A) → 0 < n → unless_refused n x f ≡ f n
unfolding unless_refused
refuses {n = zero} x f h = absurd (not-suc-le-zero h)
refuses {n = suc n} x f h = refl

-- the number that an answer tells: 0 where nothing is refused
pub number_told : {A : Type 0} (number : A → ℕ) (x : A) (f : ℕ → A) → number x ≡ 0 → ((k : ℕ) → number (f k) ≡ k)
    → (n : ℕ) → number (unless_refused n x f) ≡ n
unfolding unless_refused
number_told number x f e h zero = e
number_told number x f e h (suc n) = h (suc n)

-- the same in the direction of a definition `unless_refused (refusal checks) ..`
pub accepted_by : {A : Type 0} (x : A) (f : ℕ → A) {cs : List Check} → Refuses cs 0
    → x ≡ unless_refused (refusal cs) x f
accepted_by x f r = sym (accepts x f (refusal_is r))

pub refused_by_lem : {A : Type 0} (x : A) (f : ℕ → A) {cs : List Check} {n : ℕ} → 0 < n → Refuses cs n
    → f n ≡ unless_refused (refusal cs) x f
refused_by_lem x f h r = rw (refusal_is r) (sym (refuses x f h))

-- where what holds cannot hold of a refusal, nothing was refused
pub accepted_if : {A : Type 0} (P : A → Type 0) (n : ℕ) (x : A) (f : ℕ → A)
    → ((k : ℕ) → P (f k) → ⊥) → P (unless_refused n x f) → (n ≡ 0) × P x
unfolding unless_refused
accepted_if P zero x f h p = (refl, p)
accepted_if P (suc n) x f h p = absurd (h (suc n) p)
