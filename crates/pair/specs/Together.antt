-- The claim over both ends, 02, card 9: "After every list of button presses, LA and LB at the dispatcher, losses and
-- deliveries, each unit that is Granted, Under way or Arrived has a Running train with the same move at the dispatcher.
-- So no two units are under way in one section."
use Rattle.std.specs.Prelude.{◌≡◌, ◌≢◌, ◌⊎◌, Bool, true, false, cond, ℕ, ◌≤◌, ◌<◌}
use mathlib.Core.List.{List, Memᴰ}
use Rattle.line.specs.Refusal.{strange_state, no_authority}
use Rattle.line.specs.Route.{section_of}
use Rattle.line.specs.Line.{route_of, tracks_at}
use Rattle.line.specs.Holding.{Whereabouts, moving, standing, holds_post, post_holders}
use Rattle.line.specs.Book.{line_in}
use Rattle.driver.specs.State.{own_move, valid_unit}
use Rattle.driver.specs.History.{CabInput, cab_exchange}
use Rattle.rules.specs.State.{is_running, next_of, train_of, located, possessed, next_move}
use Rattle.rules.specs.Valid.{valid}
use Rattle.rules.specs.Opening.{opening}
use Rattle.assurance.specs.Run.{Input}
use Rattle.assurance.specs.Observer.{authority, Observer, at_opening, observe}
use Rattle.pair.specs.Types.{Line, Record, Train, RefusedBy, Phase, Standing, Asked, Declined, Granted, UnderWay}
use Rattle.pair.specs.Types.{Arrived, Unit}
use Rattle.pair.specs.Pair.{Pair, made_of, pair_of, PairEvent, answer_in, run_pair}
use Rattle.pair.specs.Alone.{box_run}

-- "Granted, Under way or Arrived": it has its authority, and has not reported the arrival
abbrev pub under_authority : Phase → Bool
under_authority Standing = false
under_authority Asked = false
under_authority Declined = false
under_authority Granted = true
under_authority UnderWay = true
under_authority Arrived = true

-- the unit of train t is one of these
abbrev pub Entitled : Line → Pair → ℕ → Type 0
Entitled l p t = (t < l.trains) × (under_authority (p.units t).phase ≡ true)

-- the section of the unit's own move
abbrev pub section_ahead : Unit → ℕ
section_ahead u = section_of (own_move u).from.0 (own_move u).to.0

-- the unit is where the box has its train, or one post ahead while that is Running, its AM not taken yet
abbrev pub Level : Train → Unit → Type 0
Level x u = (u.at.0 ≡ x.at.0) ⊎ ((is_running x.status ≡ true) × (u.at.0 ≡ next_of x))

-- where the unit of train t is, by the words for trains: on its way between two posts while it has its authority, else
-- where it stands
abbrev pub unit_place : Line → Pair → ℕ → Whereabouts
unit_place l p t =
    let u = p.units t in
    cond (under_authority u.phase) (moving u.at.0 (own_move u).to.0)
    (standing l.sidings u.route.end.0 u.at.0)

-- whichever frame sent reaches the box, it is not refused by n
abbrev pub NeverBy : ℕ → List ℕ → Pair → Type 0
NeverBy n table p =
    (i : Input) → Memᴰ i.frame p.sent → (answer_in table p i).verdict ≢ RefusedBy n

-- of a pair p, where o is the observer of what the box was given and answered
pub record Together (table : List ℕ) (l : Line) (p : Pair) (o : Observer) : Type 0 where
  -- "has a Running train with the same move at the dispatcher"
  pub running : (t : ℕ) → Entitled l p t → is_running (train_of p.box t).status ≡ true
  pub move : (t : ℕ) → Entitled l p t → next_move p.box t ≡ own_move (p.units t)
  -- and the observer tells it: it has the authority for that move
  pub told : (t : ℕ) → Entitled l p t
      → let m = own_move (p.units t) in (o.train t).claim ≡ authority m.from.0 m.to.0
  -- "So no two units are under way in one section.", nor have two one section that are Granted or Arrived
  pub apart : (t u : ℕ) → Entitled l p t → Entitled l p u
      → section_ahead (p.units t) ≡ section_ahead (p.units u) → t ≡ u
  -- nor is one where a gang is, by the state and as the observer tells it
  pub no_gang : (t : ℕ) → Entitled l p t → possessed p.box (section_ahead (p.units t)) ≡ false
  pub no_gang_told : (t : ℕ) → Entitled l p t → o.gangs (section_ahead (p.units t)) ≡ 0
  -- a train holds each post that its unit holds, and so no more units are at a post, those on their way to it or from
  -- it counted, than it has tracks
  pub held : (q t : ℕ) → t < l.trains → holds_post (unit_place l p t) q ≡ true
      → holds_post (located p.box t) q ≡ true
  pub posts : (q : ℕ) → q < l.posts → post_holders l.trains (unit_place l p) q ≤ tracks_at l q
  -- "one unit per train": each is its train's, with its train's way, and where the box has it or one post ahead
  pub own : (t : ℕ) → t < l.trains → ((p.units t).train.0 ≡ t) × ((p.units t).route ≡ route_of l t)
  pub level : (t : ℕ) → t < l.trains → Level (train_of p.box t) (p.units t)
  -- no AM comes without its authority
  pub never_12 : NeverBy no_authority table p
  -- neither end is ever in a strange state, so that neither refuses anything by 1
  pub valid_box : valid p.box ≡ true
  pub valid_units : (t : ℕ) → t < l.trains → valid_unit (p.units t) ≡ true
  pub never_1 : NeverBy strange_state table p
  pub units_never_1 : (t : ℕ) → t < l.trains → (c : CabInput) → (cab_exchange (p.units t) c).refusal ≢ strange_state

-- every book, table and journal that the opening accepts, and every list of events
abbrev pub CabAndDesk : Type 0
CabAndDesk = (book table : List ℕ) (journal : List Record) (events : List PairEvent)
    → let o = opening book table journal in
    o.number ≡ 0
    → let l = line_in book in
    let p = pair_of l o.state journal in
    Together o.table l (run_pair o.table p events) (observe (at_opening l) (box_run o.table p events).exchanges)

-- "one unit per train, opened from one book": none is refused
abbrev pub UnitsMade : Type 0
UnitsMade = (book table : List ℕ) (journal : List Record)
    → (opening book table journal).number ≡ 0
    → let l = line_in book in
    (t : ℕ) → t < l.trains → (made_of l t).refusal ≡ 0
