-- Who waits, told by the observer: nobody who could go, and all trains can still reach their ends.
use Rattle.std.specs.Prelude.{◌≡◌, true, List, ℕ, ◌<◌}
use Rattle.line.specs.Route.{section_of}
use Rattle.line.specs.Line.{tracks_at}
use Rattle.line.specs.Holding.{post_holders}
use Rattle.line.specs.Book.{line_in}
use Rattle.completion.specs.Configuration.{Completable, moved}
use Rattle.rules.specs.Opening.{opening}
use Rattle.assurance.specs.Types.{Line, Record}
use Rattle.assurance.specs.Run.{Input, run}
use Rattle.assurance.specs.Observer.{Observer, at_opening, observe, located_told, holders_told, has_asked, next_told}
use Rattle.assurance.specs.Observer.{reached_told}

-- train t has asked, "the section is free, the next post has a free track, and all trains could still reach their
-- ends". 02, card 4: "A section held by a gang blocks authorities."
pub record CouldGo (l : Line) (o : Observer) (t : ℕ) : Type 0 where
  pub asks : has_asked (o.train t).claim ≡ true
  pub section : holders_told l o (section_of (o.train t).post (next_told l o t)) ≡ 0
  pub post : post_holders l.trains (located_told l o) (next_told l o t) < tracks_at l (next_told l o t)
  pub completable : Completable l (moved (reached_told l o) t)

pub record Waiting (l : Line) (o : Observer) : Type 0 where
  -- nobody who could go is left waiting
  pub needed : (t : ℕ) → t < l.trains → CouldGo l o t → ⊥
  -- once every train with an authority has run, all can still reach their ends
  pub completable : Completable l (reached_told l o)

-- after every list of frames
abbrev pub NoNeedlessWait : Type 0
NoNeedlessWait = (book table : List ℕ) (journal : List Record) (inputs : List Input)
    → let o = opening book table journal in
    o.number ≡ 0
    → let l = line_in book in
    let r = run o.table o.state journal inputs in
    Waiting l (observe (at_opening l) r.exchanges)
