-- What the journal of a run can have at most. 02, card 7: "Each move logs at most four records, there are at most 42
-- moves, and local runs add at most 60." So it never fills up: of its 236 places at most 228 are taken. It is told by
-- the journal and the observer.
use Rattle.std.specs.Prelude.{◌≡◌, Bool, ◌&&◌, List, ℕ, ◌+◌, ◌*◌, ◌≤◌, ◌<◌, eqb}
use Rattle.common.specs.Below.{sum_below}
use Rattle.line.specs.Book.{line_in}
use Rattle.completion.specs.Configuration.{distance_of}
use Rattle.rules.specs.Valid.{most_given}
use Rattle.rules.specs.Answer.{gang_byte}
use Rattle.rules.specs.Opening.{opening}
use Rattle.assurance.specs.Types.{Line, Record}
use Rattle.assurance.specs.Run.{Input, Ran, records_like, run}
use Rattle.assurance.specs.Observer.{Claim, nothing, asked, authority, Observer, at_opening, observe, travelled_told}
use Rattle.conduct.specs.Arrival.{new_count, asks_section}

-- a record of train t's move from post p to q, and one of a gang's
abbrev pub is_of_move : ℕ → ℕ → ℕ → Record → Bool
is_of_move t p q e = eqb e.train.0 t && (eqb e.from.0 p && eqb e.to.0 q)

abbrev pub is_of_gang : Record → Bool
is_of_gang e = eqb e.train.0 gang_byte

-- the records that train t can have so far: four for each post travelled; for the next one FA and AFE once it has
-- asked, and FE once it has its authority
abbrev pub records_for : Claim → ℕ
records_for nothing = 0
records_for asked = 2
records_for (authority p q) = 3

abbrev pub records_told : Line → Observer → ℕ → ℕ
records_told l o t = 4 * travelled_told l o t + records_for (o.train t).claim

pub record FewRecords (l : Line) (r : Ran) (o : Observer) : Type 0 where
  -- "Each move logs at most four records": FA, AFE, FE and AM
  pub four : (t p q : ℕ) → t < gang_byte → records_like (is_of_move t p q) r ≤ 4
  -- "there are at most 42 moves": six trains over seven posts each
  pub moves : sum_below l.trains (distance_of l) ≤ 42
  -- a local run logs LA and LE, and LB once the gang gives its section back
  pub gangs : records_like is_of_gang r + sum_below l.posts o.gangs ≡ 3 * new_count asks_section l r
  -- "and local runs add at most 60"
  pub sixty : records_like is_of_gang r + sum_below l.posts o.gangs ≤ 60
  -- so the journal count is at most what the trains and the gangs can have logged so far, where the LB of each gang
  -- that has a section is still to come
  pub counted : r.state.logged + sum_below l.posts o.gangs
      ≤ sum_below l.trains (records_told l o) + 3 * new_count asks_section l r
  -- and what they can log in all
  pub in_all : r.state.logged + sum_below l.posts o.gangs
      ≤ 4 * sum_below l.trains (distance_of l) + 3 * most_given
  pub at_most_228 : r.state.logged ≤ 228

-- after every list of frames
abbrev pub JournalNeverFull : Type 0
JournalNeverFull = (book table : List ℕ) (journal : List Record) (inputs : List Input)
    → let o = opening book table journal in
    o.number ≡ 0
    → let l = line_in book in
    let r = run o.table o.state journal inputs in
    FewRecords l r (observe (at_opening l) r.exchanges)
