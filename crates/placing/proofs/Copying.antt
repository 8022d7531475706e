-- Bytes put over a whole buffer.
use mathlib.Core.Path.{◌≡◌, ◌∙◌}
use mathlib.Core.List.{List, append-nil}
use Prim.Native.Nat.{ℕ, ◌+◌}
use native.Mathlib.Omega.{arith}
use lib.ListN.{length, drop_of_length-le}
use Rattle.common.specs.Part.{replaced, replaced_if_room}
use Rattle.common.proofs.Part.{replaced_if}

-- bytes for a whole buffer are what it holds
module _ (s b : List ℕ) (e : length s ≡ length b) where
  pub replaced_whole : replaced s 0 b ≡ b
  unfolding replaced
  replaced_whole = rw (drop_of_length-le s {i = 0 + length b} (omega arith)) (append-nil b)

  put_whole : replaced_if_room s 0 b ≡ b
  put_whole = rw (← replaced_if s 0 b (omega arith)) replaced_whole

-- the same as the code has it: the bytes b are those asked for, and `after` is the buffer afterwards
pub is_put : (s b after wanted : List ℕ) → length s ≡ length wanted → b ≡ wanted → after ≡ replaced_if_room s 0 b
    → after ≡ wanted
is_put s b after wanted e p q = rw p at q ∙ put_whole s wanted e
