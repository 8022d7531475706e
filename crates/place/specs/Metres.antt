-- 02, card 8: "metres arrive as a 32-bit IEEE 754 number. .. All go by the number's exact value; minus zero is zero."
-- Such a number is `nan`, an infinity, or finite; a finite one x has the size num x / den x, a fraction.
use Rattle.std.specs.Prelude.{◌≡◌, Bool, true, false, not, cond, ◌&&◌, ◌||◌, ℕ, ◌+◌, ◌*◌, ◌≤◌, leb, ltb, eqb, Float}
use Rattle.std.specs.Float.{nan, inf, fin}
use Rattle.std.specs.Float.Ieee.Positive.{num, den}
use Rattle.line.specs.Route.{distance}

-- neither "not a finite number" nor "below zero"; minus zero has a sign and the size 0
abbrev pub from_zero : Float → Bool
from_zero nan = false
from_zero (inf s) = false
from_zero (fin s m e) = not s || eqb m 0

-- equal to m metres, and below m metres
abbrev pub equals : Float → ℕ → Bool
equals x m = eqb (num x) (m * den x)

abbrev pub is_below : Float → ℕ → Bool
is_below x m = ltb (num x) (m * den x)

-- none of "not a finite number, below zero or past the last post", which is at m metres
abbrev pub within_line : ℕ → Float → Bool
within_line m x = from_zero x && leb (num x) (m * den x)

-- how far it is from m metres, in parts of a metre of which there are den x
abbrev pub gap : Float → ℕ → ℕ
gap x m = distance (num x) (m * den x)

-- of post p, at a metres, and the next one, at c metres, "the nearest post, the lower at equal distance"
abbrev pub nearer : Float → ℕ → ℕ → ℕ → ℕ
nearer x p a c = cond (leb (gap x a) (gap x c)) p (p + 1)

-- ---- inside the code: where the nearer of two posts is asked for

-- from a metres to c metres
pub record FromTo (x : Float) (a c : ℕ) : Type 0 where
  pub number : from_zero x ≡ true
  pub after : a * den x ≤ num x
  pub before : num x ≤ c * den x
