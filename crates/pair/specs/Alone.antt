-- Each end does in the pair what it does by itself with what it gets there. So all that is claimed of the box over
-- lists of frames, demand 3 before all, and of a unit over lists of presses and frames holds in the pair.
use Rattle.std.specs.Prelude.{◌≡◌, ◌≢◌, true, cond, ℕ, eqb}
use mathlib.Core.List.{List, [], ◌∷◌, ◌++◌, Memᴰ}
use Rattle.line.specs.Book.{line_in}
use Rattle.frame.specs.Frame.{read_frame}
use Rattle.driver.specs.History.{CabInput, CabExchange, after_all, cab_run}
use Rattle.rules.specs.Refusals.{of_gang}
use Rattle.rules.specs.Opening.{opening}
use Rattle.assurance.specs.Run.{Input, Exchange, Ran, run}
use Rattle.assurance.specs.Observer.{written_frames}
use Rattle.pair.specs.Types.{Record}
use Rattle.pair.specs.Pair.{Pair, pair_of, PairEvent, called, PairStep, at_box, at_unit, from_gang, nowhere, step_of}
use Rattle.pair.specs.Pair.{stepped, run_pair}

-- what the box gets, and what the unit of train t gets
abbrev pub box_input : PairStep → List Input
box_input (at_box i) = i ∷ []
box_input (at_unit t c) = []
box_input (from_gang f) = []
box_input nowhere = []

abbrev pub unit_input : ℕ → PairStep → List CabInput
unit_input u (at_box i) = []
unit_input u (at_unit t c) = cond (eqb u t) (c ∷ []) []
unit_input u (from_gang f) = []
unit_input u nowhere = []

-- by a list of events, from the pair p on
unfoldable pub box_inputs : List ℕ → Pair → List PairEvent → List Input
box_inputs table p [] = []
box_inputs table p (e ∷ es) =
    let rest = box_inputs table (stepped table p (step_of p e)) es in box_input (step_of p e) ++ rest

unfoldable pub unit_inputs : List ℕ → ℕ → Pair → List PairEvent → List CabInput
unit_inputs table t p [] = []
unit_inputs table t p (e ∷ es) =
    let rest = unit_inputs table t (stepped table p (step_of p e)) es in unit_input t (step_of p e) ++ rest

-- the box by itself, and the unit of train t by itself
abbrev pub box_run : List ℕ → Pair → List PairEvent → Ran
box_run table p es = run table p.box p.journal (box_inputs table p es)

abbrev pub unit_run : List ℕ → ℕ → Pair → List PairEvent → List CabExchange
unit_run table t p es = cab_run (p.units t) (unit_inputs table t p es)

-- where a frame comes from: the box wrote it, a press gave it, or it is a gang's
pub data Origin (table : List ℕ) (p : Pair) (es : List PairEvent) (f : List ℕ) : Type 0 where
  of_box : (x : Exchange) → Memᴰ x (box_run table p es).exchanges
      → Memᴰ f (written_frames x.verdict x.out) → Origin table p es f
  of_unit : (t : ℕ) (x : CabExchange) → Memᴰ x (unit_run table t p es) → x.sent ≢ [] → x.sent ≡ f
      → Origin table p es f
  of_gang_lem : Memᴰ (called f) es → of_gang (read_frame f) ≡ true → Origin table p es f

-- q is the pair after these events, from the pair p on
pub record Alone (table : List ℕ) (p : Pair) (es : List PairEvent) (q : Pair) : Type 0 where
  pub box : (box_run table p es).state ≡ q.box
  pub journal : (box_run table p es).journal ≡ q.journal
  pub unit : (t : ℕ) → after_all (p.units t) (unit_inputs table t p es) ≡ q.units t
  -- what is sent is what the ends and the gangs sent
  pub only : (f : List ℕ) → Memᴰ f q.sent → Origin table p es f
  pub box_sent : (x : Exchange) (f : List ℕ) → Memᴰ x (box_run table p es).exchanges
      → Memᴰ f (written_frames x.verdict x.out) → Memᴰ f q.sent
  pub unit_sent : (t : ℕ) (x : CabExchange) → Memᴰ x (unit_run table t p es) → x.sent ≢ []
      → Memᴰ x.sent q.sent
  pub gang_sent : (f : List ℕ) → Memᴰ (called f) es → of_gang (read_frame f) ≡ true → Memᴰ f q.sent

-- from every opened book, and every list of events
abbrev pub EachAlone : Type 0
EachAlone = (book table : List ℕ) (journal : List Record) (events : List PairEvent)
    → let o = opening book table journal in
    o.number ≡ 0
    → let p = pair_of (line_in book) o.state journal in
    Alone o.table p events (run_pair o.table p events)
