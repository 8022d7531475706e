-- How a hearing and a press come out.
use mathlib.Core.Path.{◌≡◌, refl, sym}
use mathlib.Core.Bool.{true, false, cond}
use mathlib.Core.List.{List}
use Prim.Native.Nat.{ℕ, ◌≤◌}
use lib.ListN.{length}
use borrow.Author.Tests.{leb-true}
use Rattle.common.specs.Below.{of_bool}
use Rattle.common.specs.Check.{refusal}
use Rattle.common.specs.Part.{replaced}
use Rattle.common.proofs.Check.{passed_at, accepts}
use Rattle.line.specs.Refusal.{strange_state}
use Rattle.driver.specs.Pressing.{is_sent, sent_bytes, press_button}
use Rattle.calls.specs.Types.{Button, Unit, Pressed}
use Rattle.calls.specs.Word.{word_of}
use Rattle.encoding.specs.UnitBytes.{unit_bytes, encodes_unit, unit_in, button_of}
use Rattle.calls.specs.UnitCalls.{unit_call, hear_call}
use Rattle.calls.specs.UnitCalls.{pressed, press_call_checks, press_after, press_call}

-- bytes that encode no unit are refused by 1
pub not_heard : (b f : List ℕ) → encodes_unit b ≡ false → unit_call (word_of strange_state 0) b ≡ hear_call b f
unfolding hear_call
not_heard b f h = rw h

module _ (b : List ℕ) (k : ℕ) (f : List ℕ) where
  abbrev number : ℕ
  number = refusal (press_call_checks b k (length f))

  module _ (passed : number ≡ 0) where
    pub is_unit : encodes_unit b ≡ true
    is_unit = passed_at (press_call_checks b k (length f)) refl passed 0

    pub has_room : 7 ≤ length f
    has_room = leb-true 7 (length f) (passed_at (press_call_checks b k (length f)) refl passed 2)

    pub carried_out_lem : (u : Unit) → u ≡ unit_in b → (x : Button) → x ≡ button_of k → (p : Pressed)
        → p ≡ press_button u x
        → (after : List ℕ) → after ≡ unit_bytes p.unit
        → (n : ℕ) (out : List ℕ)
        → (n ≡ of_bool (is_sent p.frame)) × (out ≡ cond (is_sent p.frame) (replaced f 0 (sent_bytes p.frame)) f)
        → (w : ℕ) → w ≡ word_of p.refusal n → pressed w after out ≡ press_call b k f
    unfolding press_call
    carried_out_lem u v x y p q after r n out s w t =
        rw (t, r, s.0, s.1, q, v, y)
        (sym (accepts (press_after (press_button (unit_in b) (button_of k)) f) (λ m. pressed (word_of m 0) b f) passed))
