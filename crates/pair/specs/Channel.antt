-- What the channel does: it "may lose, repeat, delay or reorder frames but delivers only frames sent".
use Rattle.std.specs.Prelude.{◌≡◌, true, ℕ, ◌<◌, length}
use mathlib.Core.List.{List, Memᴰ}
use Rattle.frame.specs.Frame.{read_frame}
use Rattle.driver.specs.History.{press, frame}
use Rattle.rules.specs.Refusals.{of_gang}
use Rattle.assurance.specs.Run.{Input}
use Rattle.pair.specs.Types.{Button}
use Rattle.pair.specs.Pair.{Pair, PairEvent, to_box, PairStep, at_box, at_unit, from_gang, nowhere}
use Rattle.pair.specs.Pair.{step_of, stepped}

-- what may come in a pair: any frame sent at the box, with any out buffer; at the unit of any train any button and any
-- frame sent, its own among them; an LA or LB of a gang
pub data MayHappen (p : Pair) : PairStep → Type 0 where
  to_box_lem : (i : Input) → Memᴰ i.frame p.sent → MayHappen p (at_box i)
  button : (t : ℕ) (b : Button) → t < p.box.trains → MayHappen p (at_unit t (press b))
  to_unit_lem : (t : ℕ) (f : List ℕ) → t < p.box.trains → Memᴰ f p.sent → MayHappen p (at_unit t (frame f))
  call : (f : List ℕ) → of_gang (read_frame f) ≡ true → MayHappen p (from_gang f)
  none : MayHappen p nowhere

pub record Channel : Type 0 where
  -- "delivers only frames sent"
  pub only : (p : Pair) (e : PairEvent) → MayHappen p (step_of p e)
  -- each of them at either end, whatever came before it: "may .. delay or reorder frames"
  pub any : (p : Pair) (s : PairStep) → MayHappen p s → (e : PairEvent) × (step_of p e ≡ s)
  -- and still after whatever comes: "may .. repeat". That none need ever come is "may lose".
  pub stays : (table : List ℕ) (p : Pair) (s : PairStep) (f : List ℕ) → Memᴰ f p.sent
      → Memᴰ f (stepped table p s).sent
  -- "LA and LB at the dispatcher": what a gang sends is at the box where the next event brings it there
  pub at_once : (table : List ℕ) (p : Pair) (f out : List ℕ)
      → step_of (stepped table p (from_gang f)) (to_box (length p.sent) out)
      ≡ at_box (record { frame = f; out = out })
