-- Laws of events in a row: what one more event at the end changes.
use mathlib.Core.Path.{◌≡◌, refl, ◌∙◌}
use mathlib.Core.Logic.{◌⊎◌, inl, inr}
use mathlib.Core.Bool.{Bool, false, ◌||◌}
use mathlib.Core.List.{List, [], ◌∷◌, ◌++◌}
use Prim.Native.Nat.{ℕ}
use native.Mathlib.Omega.{arith}
use Rattle.common.proofs.Tests.{by_cases}
use Rattle.driver.specs.History.{Event, some, reported, place}

-- xs with one more at the end
abbrev pub with : {A : Type 0} → List A → A → List A
with xs x = xs ++ (x ∷ [])

-- where a list with one more at the end is split, the one more is where it is split, or behind that
abbrev pub Split : {A : Type 0} → List A → A → List A → A → List A → Type 0
Split {A} xs x ys y zs = ((x ≡ y) × (xs ≡ ys)) ⊎ ((ws : List A) × (zs ≡ with ws x) × (xs ≡ ys ++ (y ∷ ws)))

pub split_last : {A : Type 0} (xs : List A) (x : A) (ys : List A) (y : A) (zs : List A)
    → with xs x ≡ ys ++ (y ∷ zs) → Split xs x ys y zs
split_last [] x [] y zs e = inl (cc, refl)
split_last [] x (b ∷ []) y zs e = let z : ◌≡◌ {A = ℕ} 0 1 = cc in absurd (omega arith)
split_last [] x (b ∷ (b' ∷ ys)) y zs e = let z : ◌≡◌ {A = ℕ} 0 1 = cc in absurd (omega arith)
split_last (a ∷ xs) x [] y zs e = inr (xs, cc, cc)
split_last (a ∷ xs) x (b ∷ ys) y zs e = at (split_last xs x ys y zs (cc))
  where
    at : Split xs x ys y zs → Split (a ∷ xs) x (b ∷ ys) y zs
    at (inl h) = let k = h.1 in inl (h.0, cc)
    at (inr h) = let k = h.2 in inr (h.0, h.1, cc)

module _ (f : Event → Bool) where
  pub some_with : (xs : List Event) (x : Event) → some f (with xs x) ≡ some f xs || f x
  unfolding some
  some_with [] x = by_cases (f x) (λ h. rw h) (λ h. rw h)
  some_with (y ∷ xs) x = by_cases (f y) (λ h. rw h) (λ h. rw h (some_with xs x))

  pub still_none : (xs : List Event) (x : Event) → some f xs ≡ false → f x ≡ false → some f (with xs x) ≡ false
  still_none xs x h k = some_with xs x ∙ rw (h, k)

pub place_with : (p : ℕ) (xs : List Event) (x : Event) → place p (with xs x) ≡ reported (place p xs) x
unfolding place
place_with p [] x = refl
place_with p (y ∷ xs) x = place_with (reported p y) xs x
