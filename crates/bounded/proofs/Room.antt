-- Laws of bytes that come one by one.
use mathlib.Core.Path.{◌≡◌, refl}
use mathlib.Core.List.{List, [], ◌∷◌, ◌++◌, append_assoc}
use Prim.Native.Nat.{ℕ, suc, ◌+◌, ◌-◌, ◌<◌}
use native.Mathlib.Omega.{arith}
use borrow.Author.Tests.{lt-ltb}
use lib.ListN.{length, set, replicate, length-append}
use lib.Seq.{set_at}
use Rattle.bounded.specs.Bytes.{zeroed, bytes_from, bytes_with}

-- a list with zeros after it, with one more in the place of the first of them
zeroed_more : (n : ℕ) (l : List ℕ) (x : ℕ) → length l < n → set (zeroed n l) (length l) x ≡ zeroed n (l ++ (x ∷ []))
zeroed_more n l x h =
    let m : n - length l ≡ suc (n - (length l + 1)) = omega arith in
    let zeros : List ℕ = replicate (n - (length l + 1)) 0 in
    rw (length-append l (x ∷ []), append_assoc l (x ∷ []), m, set_at l 0 zeros x (length l) refl)

-- l, and one byte more for which there is room
pub bytes_more : (n : ℕ) (l : List ℕ) (x : ℕ) → length l < n
    → bytes_with n (bytes_from n l) x ≡ bytes_from n (l ++ (x ∷ []))
unfolding bytes_with
bytes_more n l x h = rw (lt-ltb (length l) n h, zeroed_more n l x h, length-append l (x ∷ []))
