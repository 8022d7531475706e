-- The first records of the trains tested one after another, as `all` does over a slice of them.
use mathlib.Core.Path.{◌≡◌, refl, ap, ◌∙◌}
use mathlib.Core.Bool.{Bool, ◌&&◌, and_comm}
use mathlib.Core.List.{List}
use Prim.Native.Nat.{ℕ, zero, suc, ◌≤◌}
use native.Mathlib.Numerals.{add-one}
use native.Mathlib.Omega.{arith}
use lib.ListN.{length, get_or, take}
use Rattle.std.specs.List.{list_all}
use Rattle.std.proofs.lemmas.List.Folds.{list_all_more}
use Rattle.common.specs.Below.{all_below}

pub first_all : {X : Type 0} (f : X → Bool) (xs : List X) (d : X) (n : ℕ) → n ≤ length xs
    → list_all f (take n xs) ≡ all_below n (λ k. f (get_or xs k d))
unfolding all_below
first_all f xs d zero h = refl
first_all f xs d (suc n) h =
    let more : list_all f (take (suc n) xs) ≡ list_all f (take n xs) && f (get_or xs n d) =
    rw add-one at (list_all_more f xs n d (omega arith)) in
    more ∙ ap (λ (b : Bool). b && f (get_or xs n d)) (first_all f xs d n (omega arith))
    ∙ and_comm (all_below n (λ k. f (get_or xs k d))) (f (get_or xs n d))
