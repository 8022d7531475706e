-- The calls of the driver's end: what each answers, and the unit's bytes and the lent frame afterwards.
use Rattle.std.specs.Prelude.{cond, List, [], ◌∷◌, ℕ, eqb, leb, length}
use Rattle.common.specs.Below.{of_bool}
use Rattle.common.specs.Check.{Check, check, refusal, unless_refused}
use Rattle.common.specs.Part.{replaced}
use Rattle.line.specs.Refusal.{strange_state, short_store, not_now}
use Rattle.calls.specs.Types.{Unit, Pressed}
use Rattle.driver.specs.State.{valid_unit}
use Rattle.driver.specs.Making.{make_unit}
use Rattle.driver.specs.Pressing.{is_sent, sent_bytes, press_button}
use Rattle.driver.specs.Hearing.{hear_frame}
use Rattle.calls.specs.Word.{word_of}
use Rattle.encoding.specs.UnitBytes.{unit_length, unit_bytes, encodes_unit, unit_in, button_of}

pub record UnitCall : Type 0 where
  pub answer : ℕ
  pub unit : List ℕ

-- what the code answers, and the unit's bytes afterwards
abbrev pub unit_call : ℕ → List ℕ → UnitCall
unit_call answer unit = record { answer = answer; unit = unit }

-- the unit that comes back, and the number of the refusal
abbrev pub unit_after : Unit → ℕ → UnitCall
unit_after u n = unit_call (word_of n 0) (unit_bytes u)

-- a `unit` buffer that is not 5 bytes is 1, nothing changed
unfoldable pub make_unit_call : ℕ → ℕ → ℕ → List ℕ → UnitCall
make_unit_call train start end unit =
    let m = make_unit train start end in
    cond (eqb (length unit) unit_length) (unit_after m.unit m.refusal) (unit_call (word_of strange_state 0) unit)

-- bytes that encode no unit are 1; then as 01
unfoldable pub hear_call : List ℕ → List ℕ → UnitCall
hear_call unit frame =
    let h = hear_frame (unit_in unit) frame in
    cond (encodes_unit unit) (unit_after h.unit h.refusal) (unit_call (word_of strange_state 0) unit)

-- ---- a press

pub record PressCall : Type 0 where
  pub answer : ℕ
  pub unit : List ℕ
  pub frame : List ℕ

abbrev pub pressed : ℕ → List ℕ → List ℕ → PressCall
pressed answer unit frame = record { answer = answer; unit = unit; frame = frame }

-- the number of Again
abbrev pub last_button : ℕ
last_button = 4

-- in order: encodes no unit 1; unit not valid 1; frame under 7 bytes 2; then 21, 8. A number that is no button's is 21.
-- Of the lent frame only the length is looked at.
abbrev pub press_call_checks : List ℕ → ℕ → ℕ → List Check
press_call_checks unit button room =
    check strange_state (encodes_unit unit)
    ∷ check strange_state (valid_unit (unit_in unit))
    ∷ check short_store (leb 7 room)
    ∷ check not_now (leb button last_button)
    ∷ []

-- A press that gives a frame writes its seven bytes at the beginning of `frame`, else `frame` is untouched.
abbrev pub press_after : Pressed → List ℕ → PressCall
press_after p frame =
    pressed (word_of p.refusal (of_bool (is_sent p.frame))) (unit_bytes p.unit)
    (cond (is_sent p.frame) (replaced frame 0 (sent_bytes p.frame)) frame)

unfoldable pub press_call : List ℕ → ℕ → List ℕ → PressCall
press_call unit button frame =
    unless_refused (refusal (press_call_checks unit button (length frame)))
    (press_after (press_button (unit_in unit) (button_of button)) frame)
    (λ n. pressed (word_of n 0) unit frame)
