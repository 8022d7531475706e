-- Laws of a text that is written byte by byte.
use mathlib.Core.Path.{◌≡◌, ap, ◌∙◌}
use mathlib.Core.List.{List, [], ◌∷◌, ◌++◌, append_assoc, append-nil, foldl-append}
use Prim.Native.Nat.{ℕ, ◌+◌, ◌≤◌}
use native.Mathlib.Omega.{arith}
use lib.ListN.{length, length-append}
use Rattle.bounded.proofs.Room.{bytes_more}
use Rattle.printout.specs.Text.{Text, text_length, text_of, text_with, followed}

-- t is the text t₀ with a line after it
pub record Follows (t₀ : Text) (line : List ℕ) (t : Text) : Type 0 where
  pub is : t ≡ followed t₀ line

-- a word more
pub then_more : {t₀ t₁ t₂ : Text} {line : List ℕ} (w : List ℕ) → Follows t₀ line t₁ → t₂ ≡ followed t₁ w
    → Follows t₀ (line ++ w) t₂
then_more {t₀} {t₁} {t₂} {line} w k e = record { is = e ∙ rw (k.is, foldl-append text_with t₀ line w) }

-- a text that holds l, and a word for which there is room
pub held : (l w : List ℕ) → length l + length w ≤ text_length → followed (text_of l) w ≡ text_of (l ++ w)
held l [] h = rw append-nil
held l (b ∷ w) h =
    ap (λ (t : Text). followed t w) (bytes_more text_length l b (omega arith))
    ∙ held (l ++ (b ∷ [])) w (rw (length-append l (b ∷ [])) (omega arith))
    ∙ ap text_of (append_assoc l (b ∷ []) w)

-- a text that holds a line for which there is room
pub fits : (l : List ℕ) (t : Text) → length l ≤ text_length → t ≡ text_of l → (t.length ≤ text_length) × (t ≡ text_of l)
fits l t h e = (omega (arith, ap (λ (t : Text). t.length) e), e)
