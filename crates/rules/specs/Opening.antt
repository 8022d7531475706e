-- The opening of a book: "Opening gives every train Free at its start, count 0, those places all 0 and Free, and the
-- journal's records untouched."
use Rattle.std.specs.Prelude.{◌≡◌, Bool, false, cond, ◌&&◌, List, [], ◌∷◌, ◌++◌, ℕ, zero, suc, leb, eqb, length, get_or}
use Rattle.std.specs.Prelude.{replicate}
use Rattle.common.specs.Below.{any_below}
use Rattle.common.specs.Check.{Check, check, refusal, unless_refused}
use Rattle.common.specs.Tabulate.{tabulate}
use Rattle.line.specs.Refusal.{short_store, overfull, no_way_through}
use Rattle.line.specs.Line.{route_of, tracks_at}
use Rattle.line.specs.Book.{line_in, book_checks, empty_line, accepted_book, read_book}
use Rattle.tracks.specs.Tracks.{has_track, unless_away, track_for}
use Rattle.journal.specs.Journal.{journal_length}
use Rattle.completion.specs.Configuration.{start, whereabouts, code, feasible}
use Rattle.completion.specs.Table.{table_length, bit_of, filled}
use Rattle.rules.specs.Types.{Route, Line, Record, Free, None, Train, State, Opened}

-- 2: of the journal only the number of records is looked at
abbrev pub stores_check : List ℕ → ℕ → Check
stores_check table records = check short_store (leb table_length (length table) && leb journal_length records)

-- "19; 20."
abbrev pub placing_checks : Line → List ℕ → List Check
placing_checks l table =
    check overfull (feasible l start)
    ∷ check no_way_through (bit_of (filled l table) (code l start))
    ∷ []

-- "Checks in order: 2; 14 ..; 4; 15; 14 ..; 16; 17; 14 ..; 18; 19; 20.", with 23 directly after 16, and 27 after it
abbrev pub opening_checks : List ℕ → List ℕ → ℕ → List Check
opening_checks book table records =
    stores_check table records ∷ book_checks book ++ placing_checks (line_in book) table

-- ---- the tracks at the opening: "At opening, trains take tracks by the same rule in number order"

-- some of the first n trains, whose tracks are ks, has track k at post p
abbrev pub start_held : Line → List ℕ → ℕ → ℕ → ℕ → Bool
start_held l ks n p k = any_below n (λ u. has_track (whereabouts l start u) p (get_or ks u 0) k)

-- the track of train t, after those of the trains below it; "one put away in a siding has none"
abbrev pub start_track : Line → List ℕ → ℕ → ℕ
start_track l ks t =
    let r = route_of l t in
    let p = r.start.0 in
    unless_away l.sidings r.end.0 p (track_for r (start_held l ks t p) (tracks_at l p))

-- those of the first n trains
unfoldable pub start_tracks : Line → ℕ → List ℕ
start_tracks l zero = []
start_tracks l (suc n) = let ks = start_tracks l n in ks ++ start_track l ks n ∷ []

-- that of train t; 0 at places past the trains
abbrev pub opened_track : Line → ℕ → ℕ
opened_track l t = get_or (start_tracks l l.trains) t 0

-- ---- the state

-- a train at its start, on track k, with no move finished; of no route, at post 0
abbrev pub fresh : Route → ℕ → Train
fresh r k = record { route = r; at = r.start; track = record { 0 = k }; status = Free; last = None }

-- "every train Free at its start, count 0"; where a line has 0, the state has. No gang has a section.
abbrev pub opened_state : Line → State
opened_state l = record {
  posts = l.posts;
  tracks = l.tracks;
  sidings = l.sidings;
  trains = l.trains;
  fleet = tabulate 6 (λ t. fresh (route_of l t) (opened_track l t));
  possessions = replicate 7 false;
  given = 0;
  logged = 0;
}

-- "an empty state that is not sound (all 0 and Free ..)"
abbrev pub empty_state : State
empty_state = opened_state empty_line

pub record Opening : Type 0 where
  pub state : State
  pub number : ℕ
  pub table : List ℕ

abbrev pub opened : Line → List ℕ → Opening
opened l table = record { state = opened_state l; number = 0; table = filled l table }

-- what the code hands back, with the table afterwards
abbrev pub opening_of : Opened → List ℕ → Opening
opening_of o table = record { state = o.state; number = o.refusal; table = table }

-- "a refused book .. returns an empty state .., and 20 leaves the table filled"
abbrev pub refused_book : Line → List ℕ → ℕ → Opening
refused_book l table n = record {
  state = empty_state;
  number = n;
  table = cond (eqb n no_way_through) (filled l table) table;
}

-- with a journal of so many records, which is untouched
unfoldable pub opening_with : List ℕ → List ℕ → ℕ → Opening
opening_with book table records =
    let l = line_in book in
    unless_refused (refusal (opening_checks book table records)) (opened l table) (refused_book l table)

abbrev pub opening : List ℕ → List ℕ → List Record → Opening
opening book table journal = opening_with book table (length journal)

-- ---- what is claimed of it

-- books that are read as one line, in whatever edition and with whatever positions, open alike
abbrev pub OpenedAlike : Type 0
OpenedAlike = (b c : List ℕ) (l : Line) (ps qs : List ℕ)
    → read_book b ≡ accepted_book l ps → read_book c ≡ accepted_book l qs
    → (table : List ℕ) (records : ℕ) → opening_with b table records ≡ opening_with c table records
