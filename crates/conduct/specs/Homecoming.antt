-- Claims on runs beside demand 3: a number that no run meets, and that every train can still come home.
use Rattle.std.specs.Prelude.{◌≡◌, ◌≢◌, ℕ, ◌<◌}
use mathlib.Core.List.{List, ◌++◌, Memᴰ}
use Rattle.line.specs.Refusal.{strange_state}
use Rattle.line.specs.Line.{route_of}
use Rattle.line.specs.Book.{line_in}
use Rattle.rules.specs.Opening.{opening}
use Rattle.assurance.specs.Types.{Line, Record, RefusedBy}
use Rattle.assurance.specs.Run.{Input, Exchange, run}
use Rattle.assurance.specs.Observer.{Observer, at_opening, observe}

-- in a run from an accepted opening the state is never strange
abbrev pub NeverStrange : Type 0
NeverStrange = (book table : List ℕ) (journal : List Record) (inputs : List Input)
    → let o = opening book table journal in
    o.number ≡ 0 → (e : Exchange) → Memᴰ e (run o.table o.state journal inputs).exchanges
    → e.verdict ≢ RefusedBy strange_state

-- every train is at its end, as the observer tells it
abbrev pub AllAtEnds : Line → Observer → Type 0
AllAtEnds l o = (t : ℕ) → t < l.trains → (o.train t).post ≡ (route_of l t).end.0

-- after every list of frames some further list brings every train to its end
abbrev pub Homecoming : Type 0
Homecoming = (book table : List ℕ) (journal : List Record) (inputs : List Input)
    → let o = opening book table journal in
    o.number ≡ 0 → (further : List Input)
    × (let l = line_in book in let r = run o.table o.state journal (inputs ++ further) in
    AllAtEnds l (observe (at_opening l) r.exchanges))
