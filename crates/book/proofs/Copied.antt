-- A list that is copied over the first places of zeros.
use mathlib.Core.Path.{◌≡◌, refl, ◌∙◌}
use mathlib.Core.List.{List, ◌++◌}
use Prim.Native.Nat.{ℕ, ◌+◌, ◌-◌, ◌≤◌, ◌<◌}
use native.Mathlib.Omega.{arith}
use lib.ListN.{length, get_or, take, drop, replicate, get_or-append, length-append}
use lib.ListN.{length-drop, length-replicate}
use lib.ListN.{get_or-replicate, get_or-eq_default}
use Rattle.std.proofs.lemmas.List.{drop-replicate, get_or-append_right, get_or-take, get_or-drop, length-take}
use Rattle.common.specs.Tabulate.{padded}
use Rattle.common.proofs.Tabulate.{padded_is}
use Rattle.common.proofs.Tests.{by_order}

zeros : (n i : ℕ) → get_or {A = ℕ} (replicate n 0) i 0 ≡ 0
zeros n i = by_order i n
    (λ l. get_or-replicate n i 0 0 l)
    (λ l. get_or-eq_default (replicate n 0) 0 {n = i} (rw length-replicate l))

pub copied : (n k : ℕ) (b : List ℕ) (at m : ℕ) (xs : List ℕ) → xs ≡ take m (drop at b) → m ≡ k
    → at + k ≤ length b → k ≤ n → xs ++ drop k (replicate n 0) ≡ padded n k (λ p. get_or b (at + p) 0) 0
copied n k b at m xs is same room few =
    let long : length xs ≡ k = rw is (simp (length-take, length-drop) (omega arith)) in
    padded_is n k (λ p. get_or b (at + p) 0) 0 (xs ++ drop k (replicate n 0))
    (simp (length-append, length-drop, length-replicate) (omega arith))
    (λ i l h.
    let part : i < m = omega arith in
    get_or-append xs (drop k (replicate n 0)) 0 i (omega arith)
    ∙ rw (is, get_or-take m (drop at b) i 0 part, get_or-drop at b i 0) refl)
    (λ i h. get_or-append_right xs (drop k (replicate n 0)) k i 0 long h ∙ rw drop-replicate (zeros (n - k) (i - k)))
