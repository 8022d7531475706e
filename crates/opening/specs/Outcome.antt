-- What the opening comes to inside: the opened state, or the number of its refusal.
use Rattle.std.specs.Prelude.{List, ℕ, Result, Ok, Err}
use Rattle.opening.specs.Types.{State}
use Rattle.rules.specs.Opening.{Opening, empty_state}

-- as it is handed back, with the table afterwards: beside a number the empty state
abbrev pub opening_by : Result State ℕ → List ℕ → Opening
opening_by (Ok s) table = record { state = s; number = 0; table = table }
opening_by (Err n) table = record { state = empty_state; number = n; table = table }
