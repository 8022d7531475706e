-- Demand 3, the claim over a whole list of frames: "Take every line book that the box accepts, and every list of frames
-- put to it from the opening on, whatever crews send and in whatever order, torn and refused ones included." What it
-- says after the list is the record `Assured`.
use Rattle.std.specs.Prelude.{◌≡◌, ◌≢◌, Bool, true, false, ◌&&◌, ℕ, ◌≤◌, ◌<◌, eqb}
use mathlib.Core.List.{List, Memᴰ}
use Rattle.line.specs.Line.{route_of, tracks_at}
use Rattle.line.specs.Holding.{holds_post, post_holders}
use Rattle.line.specs.Book.{line_in}
use Rattle.frame.specs.Frame.{FE, bytes_of}
use Rattle.journal.specs.Journal.{frame_of, record_at}
use Rattle.rules.specs.State.{reached}
use Rattle.rules.specs.Valid.{valid}
use Rattle.rules.specs.Opening.{opening}
use Rattle.assurance.specs.Types.{Line, Move, Fa, Fe, Record}
use Rattle.assurance.specs.Run.{Input, Exchange, Ran, records_like, run}
use Rattle.assurance.specs.Observer.{nothing, authority, Observer, at_opening, answers_of, observe, located_told}
use Rattle.assurance.specs.Observer.{holders_told, has_asked, next_told, reached_told}
use Rattle.assurance.specs.Tracks.{Tracks, tracks_at_opening, observe_tracks, track_told}

-- "An authority written, that is an FE, has its logged request if, below the journal count, the journal has that FE
-- and, at a lower number, an FA of the same train, from and to."
pub record Requested (count : ℕ) (journal : List Record) (m : Move) : Type 0 where
  pub granted : ℕ
  pub below : granted < count
  pub authority : frame_of (record_at journal granted) ≡ bytes_of (Fe m)
  pub requested : ℕ
  pub lower : requested < granted
  pub request : frame_of (record_at journal requested) ≡ bytes_of (Fa m)

-- train t's FE records below the journal count
abbrev pub is_fe_of : ℕ → Record → Bool
is_fe_of t e = eqb e.kind FE && eqb e.train.0 t

abbrev pub authorities : Ran → ℕ → ℕ
authorities r t = records_like (is_fe_of t) r

-- "A train is short of its end if its post in the tally is not its end."
abbrev pub ShortOfEnd : Line → Observer → ℕ → Type 0
ShortOfEnd l o t = (o.train t).post ≢ (route_of l t).end.0

-- a train that is short of its end and has an authority or has not asked for its next section
pub record Unhindered (l : Line) (o : Observer) : Type 0 where
  pub train : ℕ
  pub known : train < l.trains
  pub short : ShortOfEnd l o train
  pub unasked : has_asked (o.train train).claim ≡ false

pub record Assured (l : Line) (r : Ran) (o : Observer) (k : Tracks) : Type 0 where
  -- "no section has two holders"; 02, card 4: "a gang is a holder"
  pub sections : (i : ℕ) → holders_told l o i ≤ 1
  -- "no post is held by more trains than it has tracks"
  pub posts : (p : ℕ) → p < l.posts → post_holders l.trains (located_told l o) p ≤ tracks_at l p
  -- "no track has two trains", and each that is held is one of its post's
  pub tracks : (p t u : ℕ) → p < l.posts → t < l.trains → u < l.trains
      → holds_post (located_told l o t) p ≡ true → holds_post (located_told l o u) p ≡ true
      → track_told o k t p ≡ track_told o k u p → t ≡ u
  pub tracks_of_post : (p t : ℕ) → p < l.posts → t < l.trains → holds_post (located_told l o t) p ≡ true
      → (1 ≤ track_told o k t p) × (track_told o k t p ≤ tracks_at l p)
  -- an authority is for the move from the train's post to its next one, so that the section between them is one
  pub moves : (t p q : ℕ) → t < l.trains → (o.train t).claim ≡ authority p q
      → (p ≡ (o.train t).post) × (q ≡ next_told l o t)
  -- a train that has asked or has an authority is short of its end
  pub short : (t : ℕ) → t < l.trains → (o.train t).claim ≢ nothing → ShortOfEnd l o t
  -- "Every authority written has its logged request."
  pub requests : (e : Exchange) → Memᴰ e r.exchanges → (m : Move)
      → Memᴰ (Fe m) (answers_of e.verdict e.out) → Requested r.state.logged r.journal m
  -- "While any train is short of its end, at least one such train has an authority or has not asked for its next
  -- section." Card 4: "The standstill clause is for lists after which no gang holds a section".
  pub onward : ((i : ℕ) → o.gangs i ≡ 0) → (t : ℕ) → t < l.trains → ShortOfEnd l o t → Unhindered l o
  -- "a train's FE records number its posts travelled, plus one while it is Running": by the state, and as the observer
  -- tells it
  pub authorities_given : (t : ℕ) → t < l.trains → authorities r t ≡ reached r.state t
  pub authorities_seen : (t : ℕ) → t < l.trains → authorities r t ≡ reached_told l o t
  -- the state is valid, so that no frame of a run is refused by 1
  pub valid_state : valid r.state ≡ true

-- every book, table, journal and list of inputs that the opening accepts
abbrev pub WholeList : Type 0
WholeList = (book table : List ℕ) (journal : List Record) (inputs : List Input)
    → let o = opening book table journal in
    o.number ≡ 0
    → let l = line_in book in
    let r = run o.table o.state journal inputs in
    Assured l r (observe (at_opening l) r.exchanges)
    (observe_tracks l (at_opening l) (tracks_at_opening l) r.exchanges)
