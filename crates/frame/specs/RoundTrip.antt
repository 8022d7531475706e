-- The claims on frames. Demand 2: "Frames read back as written, and only such frames are read." They hold for any list
-- of numbers, bytes or not.
use Rattle.std.specs.Prelude.{◌≡◌, List, ℕ}
use Rattle.frame.specs.Types.{Message, Fa, Fe, Afe, Am, La, Le, Lb, Refused}
use Rattle.frame.specs.Frame.{read_frame, bytes_of}

-- it is one of the seven messages
unfoldable pub IsMessage : Message → Type 0
IsMessage (Fa m) = Unit {0}
IsMessage (Fe m) = Unit {0}
IsMessage (Afe m) = Unit {0}
IsMessage (Am m) = Unit {0}
IsMessage (La m) = Unit {0}
IsMessage (Le m) = Unit {0}
IsMessage (Lb m) = Unit {0}
IsMessage (Refused n) = ⊥

pub record FramesReadBack : Type 0 where
  -- what was written reads back as the message
  pub back : (m : Message) → IsMessage m → read_frame (bytes_of m) ≡ m
  -- whatever reads as a message is exactly the seven bytes written for it
  pub only : (f : List ℕ) → IsMessage (read_frame f) → bytes_of (read_frame f) ≡ f
