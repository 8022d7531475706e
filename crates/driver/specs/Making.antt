-- Making a unit. 01: "Made from train (0 to 5), start and end (0 to 7), else 18; it begins Standing at its start."
use Rattle.std.specs.Prelude.{List, [], ◌∷◌, ℕ}
use Rattle.common.specs.Check.{Check, check, refusal, unless_refused}
use Rattle.line.specs.Refusal.{off_the_line}
use Rattle.driver.specs.Types.{Standing, Unit, Made}
use Rattle.driver.specs.State.{numbers_fit}

-- a unit that stands at its start
abbrev pub standing_unit : ℕ → ℕ → ℕ → Unit
standing_unit t a e = record {
  train = record { 0 = t };
  route = record { start = record { 0 = a }; end = record { 0 = e } };
  at = record { 0 = a };
  phase = Standing;
}

-- "for a unit train 255, all else 0, Standing"
abbrev pub empty_unit : Unit
empty_unit = standing_unit 255 0 0

abbrev pub make_checks : ℕ → ℕ → ℕ → List Check
make_checks t a e = check off_the_line (numbers_fit t a e) ∷ []

-- the unit, and the number of the refusal or 0
abbrev pub made : Unit → ℕ → Made
made u n = record { unit = u; refusal = n }

unfoldable pub make_unit : ℕ → ℕ → ℕ → Made
make_unit t a e = unless_refused (refusal (make_checks t a e)) (made (standing_unit t a e) 0) (made empty_unit)
