-- What comes after the trains, as the code writes it: section by section, then the two counts.
use mathlib.Core.Path.{◌≡◌, refl, ap, subst, ◌∙◌}
use mathlib.Core.Bool.{Bool, true, false}
use mathlib.Core.List.{List}
use Prim.Native.Nat.{ℕ, ◌+◌, ◌≤◌, ◌<◌}
use native.Mathlib.Nat.{add_assoc}
use native.Mathlib.Omega.{arith}
use mir.Val.{bool_byte}
use lib.ListN.{length, get_or, set, length-map}
use Rattle.common.specs.Below.{of_bool}
use Rattle.common.specs.Part.{replaced}
use Rattle.common.proofs.Part.{length_replaced}
use Rattle.common.proofs.Tabulate.{length_tabulate}
use Rattle.rules.specs.State.{line_of}
use Rattle.encoding.specs.Types.{Line, State}
use Rattle.encoding.specs.StateBytes.{ending_bytes, state_bytes, possessions_at, given_at, logged_at, state_length}
use Rattle.encoding.specs.StateBytes.{state_in}
use Rattle.encoding.specs.RoundTrip.{Shaped}
use Rattle.encoding.proofs.Parts.{At}
use Rattle.encoding.proofs.Fields.{ending_length, possession_at, given_at_lem, logged_at_lem, state_length_lem}
use Rattle.encoding.proofs.Fields.{at_ending}
use Rattle.placing.proofs.Filled.{Filled, replaced_at, part_begun, byte_more, last_byte, last_part}

-- what the code casts a test to
cast_byte : (x : Bool) → bool_byte x ≡ of_bool x
cast_byte true = refl
cast_byte false = refl

module _ (v : State) (seven : length v.possessions ≡ 7) (s : List ℕ) (size : length s ≡ state_length) where
  -- s with these bytes in their place
  abbrev ended : List ℕ
  ended = replaced s possessions_at (ending_bytes v)

  room : possessions_at + length (ending_bytes v) ≤ length s
  room = omega (arith, ending_length v seven)

  pub ended_length : length ended ≡ state_length
  ended_length = length_replaced s possessions_at (ending_bytes v) room ∙ size

  there : At ended possessions_at (ending_bytes v)
  there = replaced_at s possessions_at (ending_bytes v) room

  pub ending_begun : Filled s ended s possessions_at
  ending_begun = part_begun s possessions_at (ending_bytes v) room

  module _ {to : List ℕ} {i : ℕ} (f : Filled s ended to (possessions_at + i)) where
    pub section_more : i < 7 → (byte : ℕ) → byte ≡ bool_byte (get_or v.possessions i false)
        → Filled s ended (set to (possessions_at + i) byte) (possessions_at + (i + 1))
    section_more h byte e =
        let same = e ∙ cast_byte (get_or v.possessions i false) ∙ possession_at v seven there i h in
        rw (← add_assoc possessions_at i 1) (byte_more f byte same (omega (arith, ended_length)))

    pub ending_put : i ≡ 7 → set (set to given_at v.given) logged_at v.logged ≡ ended
    ending_put e =
        let sections : Filled s ended to given_at = subst (λ (k : ℕ). Filled s ended to (possessions_at + k)) e f in
        let given = byte_more sections _ ((given_at_lem v seven there).byte 0 (omega arith))
        (omega (arith, ended_length)) in
        last_byte given logged_at _ refl ((logged_at_lem v seven there).byte 0 (omega arith)) ended_length

-- a state whose line is that of another read from bytes has six trains
pub six_trains : (b : List ℕ) (v : State) → line_of (state_in b) ≡ line_of v → length v.fleet ≡ 6
six_trains b v e =
    let same : length (line_of (state_in b)).routes ≡ length (line_of v).routes
    = ap (λ (l : Line). length l.routes) e in
    omega (arith, same, simp (length-map, length_tabulate) at same)

-- a state that is there up to these bytes is there with them
pub ending_last : (v : State) → Shaped v → {s to after : List ℕ} {n : ℕ} → Filled s (state_bytes v) to n
    → possessions_at ≡ n → after ≡ replaced to possessions_at (ending_bytes v) → after ≡ state_bytes v
ending_last v shaped f e is =
    last_part f possessions_at e (at_ending v shaped) is
    (omega (arith, state_length_lem v shaped, ending_length v shaped.seven))
