-- A part of a buffer written by the library's copy is that part replaced.
use mathlib.Core.Path.{◌≡◌, refl, ◌∙◌}
use mathlib.Core.List.{List}
use Prim.Native.Nat.{ℕ, ◌+◌, ◌-◌, ◌≤◌}
use native.Mathlib.Omega.{arith}
use lib.ListN.{length}
use borrow.Rule.Slice.PartMut.{put_mid}
use Rattle.std.proofs.lemmas.Slice.{put_mid-paste}
use Rattle.common.specs.Part.{replaced_if_room}
use Rattle.common.proofs.Part.{paste_replaces, replaced_if, left_if}

module _ (s b : List ℕ) (at : ℕ) where
  pub put_there : (part : List ℕ) → part ≡ b → at + length b ≤ length s
      → put_mid at (at + length b - at) s part ≡ replaced_if_room s at b
  put_there part e room =
      put_mid-paste at (at + length b - at) s part b (length b) e (omega arith) refl
      ∙ paste_replaces s at b (length b) refl
      ∙ replaced_if s at b room

-- what both ends of `put` cite
pub ruleset puts = (put_there, left_if)
