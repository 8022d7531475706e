-- The frames sent, as messages: what a frame sent reads as is known, and what is known grows by what is sent.
use mathlib.Core.Path.{◌≡◌, refl, sym, ap, ◌∙◌}
use mathlib.Core.Logic.{◌⊎◌, inl, inr, ⊎_elim}
use mathlib.Core.List.Memᴰ
use mathlib.Core.List.{List, [], ◌∷◌, ◌++◌, map, Memᴰ}
use Prim.Native.Nat.{ℕ}
use Rattle.frame.specs.Frame.{read_frame, bytes_of}
use Rattle.frame.specs.RoundTrip.{IsMessage}
use Rattle.frame.proofs.RoundTrip.{round_trip}
use Rattle.pair.specs.Types.{Message, Train, Unit}
use Rattle.pair.proofs.Link.{Linked, With, known_same}

-- a frame that reads as a was sent
pub record InPool (sent : List (List ℕ)) (a : Message) : Type 0 where
  pub frame : List ℕ
  pub among : Memᴰ frame sent
  pub reads : read_frame frame ≡ a

pub pool_more : (sent more : List (List ℕ)) (a : Message) → InPool (sent ++ more) a → InPool sent a ⊎ InPool more a
pool_more sent more a k = ⊎_elim
    (λ m. inl (record { frame = k.frame; among = m; reads = k.reads }))
    (λ m. inr (record { frame = k.frame; among = m; reads = k.reads }))
    (Memᴰ.append_cases sent k.among)

-- of the frames of some messages what is known are these messages
frames_known : (l : List Message) → ((a : Message) → Memᴰ a l → IsMessage a)
    → (a : Message) → InPool (map bytes_of l) a → Memᴰ a l
frames_known [] h a k = absurd (Memᴰ.not-nil k.among)
frames_known (b ∷ l) h a k = ⊎_elim
    (λ e. Memᴰ.head (sym k.reads ∙ ap read_frame e ∙ round_trip.back b (h b (Memᴰ.head refl))))
    (λ m. Memᴰ.tail (frames_known l (λ c q. h c (Memᴰ.tail q)) a
    (record { frame = k.frame; among = m; reads = k.reads })))
    (Memᴰ.cases_cons k.among)

-- a train that is linked with what was known and with them is linked with what is known once they are sent
pub sent_linked : {sent : List (List ℕ)} (l : List Message) → ((a : Message) → Memᴰ a l → IsMessage a)
    → {t : ℕ} {x : Train} {u : Unit} → Linked (With (InPool sent) l) t x u
    → Linked (InPool (sent ++ map bytes_of l)) t x u
sent_linked {sent = sent} l h k = known_same k (λ a q.
    ⊎_elim (λ z. inl z) (λ z. inr (frames_known l h a z)) (pool_more sent (map bytes_of l) a q))
