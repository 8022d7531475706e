-- The frames of some messages: seven bytes to each, one after the other.
use mathlib.Core.Path.{◌≡◌, refl, sym}
use mathlib.Core.List.{List, [], ◌∷◌, ◌++◌, append_assoc, append-nil}
use Prim.Native.Nat.{◌*◌}
use native.Mathlib.Omega.{arith}
use lib.ListN.{length, length-append}
use Rattle.frame.specs.Frame.{bytes_of}
use Rattle.rules.specs.Types.{Message, Fa, Fe, Afe, Am, La, Le, Lb, Refused}
use Rattle.rules.specs.Answer.{frames_of}

pub bytes_length : (a : Message) → length (bytes_of a) ≡ 7
unfolding bytes_of
bytes_length (Fa m) = refl
bytes_length (Fe m) = refl
bytes_length (Afe m) = refl
bytes_length (Am m) = refl
bytes_length (La m) = refl
bytes_length (Le m) = refl
bytes_length (Lb m) = refl
bytes_length (Refused n) = refl

pub frames_length : (l : List Message) → length (frames_of l) ≡ 7 * length l
unfolding frames_of
frames_length [] = refl
frames_length (a ∷ l) = rw length-append (omega (arith, bytes_length a, frames_length l))

-- one frame more, at the end
pub frames_added : (l : List Message) (a : Message) → frames_of (l ++ a ∷ []) ≡ frames_of l ++ bytes_of a
unfolding frames_of
frames_added [] a = append-nil (bytes_of a)
frames_added (b ∷ l) a = rw (frames_added l a) (sym (append_assoc (bytes_of b) (frames_of l) (bytes_of a)))
