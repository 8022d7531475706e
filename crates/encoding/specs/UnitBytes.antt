-- A unit as five bytes: train, start, end, present post, phase.
use Rattle.std.specs.Prelude.{Bool, cond, ◌&&◌, List, [], ◌∷◌, ℕ, eqb, leb, length}
use Rattle.line.specs.Book.{byte_at, route}
use Rattle.encoding.specs.Types.{Phase, Standing, Asked, Declined, Granted, UnderWay, Arrived}
use Rattle.encoding.specs.Types.{Button, Ask, Depart, Reached, Report, Again, Unit}
use Rattle.driver.specs.State.{phase_no}

abbrev pub unit_length : ℕ
unit_length = 5

unfoldable pub unit_bytes : Unit → List ℕ
unit_bytes u = u.train.0 ∷ u.route.start.0 ∷ u.route.end.0 ∷ u.at.0 ∷ phase_no u.phase ∷ []

-- A phase above 5, or another length, encodes no unit.
unfoldable pub encodes_unit : List ℕ → Bool
encodes_unit b = eqb (length b) unit_length && leb (byte_at b 4) 5

-- the phase of a number; what is above 5 is not read
unfoldable pub phase_of : ℕ → Phase
phase_of n =
    cond (eqb n 0) Standing
    (cond (eqb n 1) Asked
    (cond (eqb n 2) Declined
    (cond (eqb n 3) Granted
    (cond (eqb n 4) UnderWay Arrived))))

-- the unit that the bytes encode
abbrev pub unit_in : List ℕ → Unit
unit_in b = record {
  train = record { 0 = byte_at b 0 };
  route = route (byte_at b 1) (byte_at b 2);
  at = record { 0 = byte_at b 3 };
  phase = phase_of (byte_at b 4);
}

-- the button of a number; what is above 4 is not read
unfoldable pub button_of : ℕ → Button
button_of n = cond (eqb n 0) Ask (cond (eqb n 1) Depart (cond (eqb n 2) Reached (cond (eqb n 3) Report Again)))
