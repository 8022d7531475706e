-- The members of a list are what stands at its numbers.
use mathlib.Core.Path.{◌≡◌, refl, sym}
use mathlib.Core.Logic.{⊎_elim}
use mathlib.Core.List.Memᴰ
use mathlib.Core.List.{List, [], ◌∷◌, Memᴰ}
use Prim.Native.Nat.{ℕ, zero, suc, ◌<◌}
use native.Mathlib.Omega.{arith}
use lib.ListN.{length, get_or}

module _ {A : Type 0} (default : A) where
  pub member : (l : List A) (i : ℕ) → i < length l → Memᴰ (get_or l i default) l
  member [] i h = absurd (omega arith)
  member (a ∷ l) zero h = Memᴰ.head refl
  member (a ∷ l) (suc i) h = Memᴰ.tail (member l i (omega arith))

  -- the number of a member
  pub record Numbered (l : List A) (a : A) : Type 0 where
    pub number : ℕ
    pub below : number < length l
    pub there : get_or l number default ≡ a

  pub numbered : (l : List A) (a : A) → Memᴰ a l → Numbered l a
  numbered [] a h = absurd (Memᴰ.not-nil h)
  numbered (b ∷ l) a h = ⊎_elim
      (λ e. record { number = 0; below = omega arith; there = sym e })
      (λ m.
      let r = numbered l a m in
      record { number = suc r.number; below = omega (arith, r.below); there = r.there })
      (Memᴰ.cases_cons h)
