-- Laws of what comes after the book, cut into frames.
use mathlib.Core.Path.{◌≡◌, refl, ap, ◌∙◌}
use mathlib.Core.List.{List, [], ◌∷◌, ◌++◌}
use Prim.Native.Nat.{ℕ, zero, suc, ◌≤◌, ◌<◌}
use native.Mathlib.Omega.{arith}
use lib.ListN.{length, take, drop, length-append, length-drop, drop_of_length-le}
use lib.Seq.{take_all, take_at, drop_at}
use Rattle.console.specs.Transcript.{cut_frames}

-- as many frames as there are bytes are enough
frames_enough : (n m : ℕ) (l : List ℕ) → length l ≤ n → length l ≤ m → cut_frames n l ≡ cut_frames m l
unfolding cut_frames
frames_enough zero zero l h k = refl
frames_enough zero (suc m) [] h k = refl
frames_enough zero (suc m) (b ∷ l) h k = absurd (omega arith)
frames_enough (suc n) zero [] h k = refl
frames_enough (suc n) zero (b ∷ l) h k = absurd (omega arith)
frames_enough (suc n) (suc m) [] h k = refl
frames_enough (suc n) (suc m) (b ∷ l) h k =
    let less = length-drop 6 l in
    ap (λ (fs : List (List ℕ)). take 7 (b ∷ l) ∷ fs) (frames_enough n m (drop 6 l) (omega arith) (omega arith))

pub no_frames : (n : ℕ) → cut_frames n [] ≡ []
unfolding cut_frames
no_frames zero = refl
no_frames (suc n) = refl

-- a shorter rest is one frame
pub one_frame : (l : List ℕ) → 0 < length l → length l < 7 → cut_frames (length l) l ≡ l ∷ []
unfolding cut_frames
one_frame [] h k = absurd (omega arith)
one_frame (b ∷ l) h k =
    let rest : drop 6 l ≡ [] = drop_of_length-le l {i = 6} (omega arith) in
    ap (λ (f : List ℕ). f ∷ cut_frames (length l) (drop 6 l)) (take_all 7 (b ∷ l) (omega arith))
    ∙ ap (λ (r : List ℕ). (b ∷ l) ∷ cut_frames (length l) r) rest
    ∙ ap (λ (fs : List (List ℕ)). (b ∷ l) ∷ fs) (no_frames (length l))

-- seven bytes are one, and the others come after it
pub next_frame : (l m : List ℕ) → length l ≡ 7 → cut_frames (length (l ++ m)) (l ++ m) ≡ l ∷ cut_frames (length m) m
unfolding cut_frames
next_frame [] m e = absurd (omega arith)
next_frame (b ∷ l) m e =
    let n = length (l ++ m) in
    let more = length-append l m in
    ap (λ (f : List ℕ). f ∷ cut_frames n (drop 6 (l ++ m))) (take_at (b ∷ l) m 7 e)
    ∙ ap (λ (r : List ℕ). (b ∷ l) ∷ cut_frames n r) (drop_at (b ∷ l) m 7 e)
    ∙ ap (λ (fs : List (List ℕ)). (b ∷ l) ∷ fs) (frames_enough n (length m) m (omega arith) (omega arith))
