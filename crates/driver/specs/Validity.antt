-- The claims on unit states: which are valid (01: sound), and what a refusal and Again leave.
use Rattle.std.specs.Prelude.{◌≡◌, ◌≢◌, true, false, List, ℕ}
use Rattle.driver.specs.Types.{Unit, Button, Again}
use Rattle.driver.specs.State.{valid_unit}
use Rattle.driver.specs.Making.{make_unit}
use Rattle.driver.specs.Pressing.{press_button}
use Rattle.driver.specs.Hearing.{hear_frame}

pub record Validity : Type 0 where
  -- a unit that is made is valid; "a unit that 18 refuses to make, returns an empty state that is not sound"
  pub made : (t a e : ℕ) → (make_unit t a e).refusal ≡ 0 → valid_unit (make_unit t a e).unit ≡ true
  pub not_made : (t a e : ℕ) → (make_unit t a e).refusal ≢ 0 → valid_unit (make_unit t a e).unit ≡ false
  -- a valid unit stays valid, whatever is pressed or heard
  pub pressed : (u : Unit) (b : Button) → valid_unit u ≡ true → valid_unit (press_button u b).unit ≡ true
  pub heard : (u : Unit) (f : List ℕ) → valid_unit u ≡ true → valid_unit (hear_frame u f).unit ≡ true
  -- "A refusal returns its number and the state unchanged"
  pub press_refused : (u : Unit) (b : Button) → (press_button u b).refusal ≢ 0 → (press_button u b).unit ≡ u
  pub hearing_refused : (u : Unit) (f : List ℕ) → (hear_frame u f).refusal ≢ 0 → (hear_frame u f).unit ≡ u
  -- 02, card 6: "A new press, Again, changes no state"
  pub again : (u : Unit) → (press_button u Again).unit ≡ u
