-- Laws of a list with a part replaced.
use mathlib.Core.Path.{◌≡◌, refl, sym, ◌∙◌}
use mathlib.Core.List.{List, [], ◌∷◌, ◌++◌, append_assoc, append-nil}
use Prim.Native.Nat.{ℕ, suc, ◌+◌, ◌≤◌, ◌<◌}
use native.Mathlib.Nat.{add-zero}
use native.Mathlib.Omega.{arith}
use lib.ListN.{length, get_or, set, take, drop, length-append, take-append-drop, get_or-append}
use lib.Seq.{paste, length-paste, take-length, length-take-le, get_or-take, drop-cons, set_at}
use borrow.Author.Tests.{le-leb, lt-leb}
use Rattle.common.specs.Part.{replaced, replaced_if_room}

module _ {A : Type 0} (s : List A) (at : ℕ) (b : List A) where
  -- a copy of all of b
  pub paste_replaces : (n : ℕ) → length b ≡ n → paste s at b n ≡ replaced s at b
  unfolding replaced
  paste_replaces n e = rw (← e, take-length b)

  pub length_replaced : at + length b ≤ length s → length (replaced s at b) ≡ length s
  length_replaced h = rw (← paste_replaces (length b) refl) (length-paste s at b (length b) h (omega arith))

  pub replaced_if : at + length b ≤ length s → replaced s at b ≡ replaced_if_room s at b
  unfolding replaced_if_room
  replaced_if h = rw (le-leb _ _ h)

  pub left_if : length s < at + length b → s ≡ replaced_if_room s at b
  unfolding replaced_if_room
  left_if h = rw (lt-leb _ _ h)

module _ {A : Type 0} (s : List A) (at : ℕ) where
  pub replaced_none : replaced s at [] ≡ s
  unfolding replaced
  replaced_none = rw (append-nil (take at s), add-zero) (take-append-drop at s)

  module _ (b : List A) where
    -- what stands before the part is untouched
    pub replaced_before : (i : ℕ) (d : A) → i < at → at ≤ length s → get_or (replaced s at b) i d ≡ get_or s i d
    unfolding replaced
    replaced_before i d h k =
        rw append_assoc
        (get_or-append (take at s) (b ++ drop (at + length b) s) d i (rw (length-take-le at s k) h)
        ∙ get_or-take at s i d h)

    -- one element more
    pub replaced_more : (x : A) → at + length b < length s
        → replaced s at (b ++ x ∷ []) ≡ set (replaced s at b) (at + length b) x
    unfolding replaced
    replaced_more x h =
        let before : length (take at s ++ b) ≡ at + length b = rw (length-append, length-take-le at s (omega arith)) in
        let after : at + length (b ++ x ∷ []) ≡ suc (at + length b) = omega (arith, length-append b (x ∷ [])) in
        let end = drop (suc (at + length b)) s in
        let rest : drop (at + length b) s ≡ get_or s (at + length b) x ∷ end = drop-cons s (at + length b) x h in
        rw (after, rest, ← append_assoc (take at s) b (x ∷ []), append_assoc (take at s ++ b) (x ∷ []) end)
        (sym (set_at (take at s ++ b) (get_or s (at + length b) x) end x (at + length b) before))
