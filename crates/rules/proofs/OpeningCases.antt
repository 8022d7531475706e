-- The opening in the order in which the code makes it: a law for each case, over the book, the table and the number of
-- records. The book's own checks go by the reading: a refused book gives its number, one that is read leaves 19 and 20.
use mathlib.Core.Path.{◌≡◌, refl, sym, ap, ◌∙◌}
use mathlib.Core.Logic.{◌≢◌}
use mathlib.Core.Bool.{Bool, true, false, ◌&&◌, and-false}
use mathlib.Core.List.{List, ◌∷◌, ◌++◌}
use Prim.Native.Nat.{ℕ, ◌≤◌, ◌<◌}
use native.Mathlib.Omega.{arith}
use lib.Dec.{leb}
use lib.ListN.{length, get_or, replicate}
use borrow.Author.Tests.{le-leb, lt-leb, ne_eqb}
use Rattle.common.specs.Check.{refusal, unless_refused}
use Rattle.common.specs.Tabulate.{values_from, padded}
use Rattle.common.proofs.Check.{none, stop, pass, refusal_is, first_part, second_part, not_given, accepts}
use Rattle.common.proofs.Check.{refuses}
use Rattle.common.proofs.Tabulate.{padded_none, past_padded}
use Rattle.line.specs.Refusal.{short_store, overfull, no_way_through}
use Rattle.line.specs.Book.{first_edition, line_in, book_checks, accepted_book, read_book, outcome_number}
use Rattle.std.specs.declared.result.Result.TheVariants.{Err}
use Rattle.line.specs.declared.line.Reading.{Reading}
use Rattle.line.specs.Line.{route_of, well_formed}
use Rattle.line.proofs.ReadingLaws.{read_number, read_line, refused_some}
use Rattle.line.proofs.Claims.{book_formed}
use Rattle.journal.specs.Journal.{journal_length}
use Rattle.completion.specs.Configuration.{start, code, code_below, feasible}
use Rattle.completion.specs.Table.{table_length, bit_of, filled, Filling}
use Rattle.completion.proofs.Codes.{code_cong}
use Rattle.rules.specs.Types.{Line, Opened}
use Rattle.rules.specs.State.{no_train}
use Rattle.rules.specs.Opening.{stores_check, placing_checks, opening_checks, opened_track, fresh, opened_state}
use Rattle.rules.specs.Opening.{empty_state, Opening, opened, opening_of, refused_book, opening_with, OpenedAlike}

-- ---- parts of the opening

-- the code of the start, made of six zeros
pub start_code : (l : Line) → code_below l.trains (λ t. get_or (replicate 6 0) t 0) ≡ code l start
start_code l = code_cong l.trains (λ t. get_or (replicate 6 0) t 0) start (λ t k.
    ap (λ (z : List ℕ). get_or z t 0) (padded_none 6 start 0) ∙ past_padded 6 0 start 0 t (omega arith))

-- a train for each of the six routes
pub opened_fleet : (l : Line)
    → padded 6 6 (λ t. fresh (route_of l t) (opened_track l t)) no_train ≡ (opened_state l).fleet
unfolding values_from padded
opened_fleet l = refl

-- ---- an opening that is refused by n, with the table as it is then

abbrev pub refused_with : ℕ → List ℕ → Opening
refused_with n after = record { state = empty_state; number = n; table = after }

pub handed : (o : Opened) (after : List ℕ) {n : ℕ} → (o.state ≡ empty_state) × (o.refusal ≡ n)
    → opening_of o after ≡ refused_with n after
handed o after e = rw (e.0, e.1)

module _ (book table : List ℕ) (records : ℕ) where
  abbrev l : Line
  l = line_in book

  abbrev pub Gives : Opening → Type 0
  Gives o = o ≡ opening_with book table records

  -- the table is untouched but by 20
  untouched : (n : ℕ) → refusal (opening_checks book table records) ≡ n → 0 < n → n ≢ no_way_through
      → Gives (refused_with n table)
  unfolding opening_with
  untouched n e h other =
      let r : opening_with book table records ≡ refused_book l table n
      = rw e (refuses (opened l table) (refused_book l table) h) in
      rw r (rw (ne_eqb n no_way_through other))

  -- 2
  pub table_short : length table < table_length → Gives (refused_with short_store table)
  table_short h =
      let short : leb table_length (length table) && leb journal_length records ≡ false
      = rw (lt-leb table_length (length table) h) in
      untouched short_store (refusal_is (stop short)) (omega arith) (λ z. omega arith)

  pub journal_short : records < journal_length → Gives (refused_with short_store table)
  journal_short h =
      let short : leb table_length (length table) && leb journal_length records ≡ false
      = rw (lt-leb journal_length records h) (and-false (leb table_length (length table))) in
      untouched short_store (refusal_is (stop short)) (omega arith) (λ z. omega arith)

  module _ (long : table_length ≤ length table) (room : journal_length ≤ records) where
    -- what is left are the book's checks, and 19 and 20
    stores : refusal (opening_checks book table records) ≡ refusal (book_checks book ++ placing_checks l table)
    unfolding refusal
    stores = rw (le-leb table_length (length table) long, le-leb journal_length records room)

    -- 14, 4, 15, 14, 16, 23, 27, 17, 14, 18
    pub book_refused : (r : Reading) → r ≡ read_book book → (k : ℕ) → r.outcome ≡ Err k
        → (n : ℕ) → n ≡ outcome_number r.outcome → Gives (refused_with n table)
    book_refused r e k stopped n is =
        let own : n ≡ refusal (book_checks book)
        = is ∙ ap (λ (z : Reading). outcome_number z.outcome) e ∙ read_number first_edition book in
        let some : 0 < refusal (book_checks book) = refused_some first_edition book k (rw e at stopped) in
        let first = first_part (book_checks book) (placing_checks l table) some in
        untouched n (stores ∙ first ∙ sym own) (rw own some)
        (λ z. not_given no_way_through (book_checks book) (omega arith) refl (sym own ∙ z))

    module _ (m : Line) (ps : List ℕ) (is_read : read_book book ≡ accepted_book m ps) where
      unrefused : refusal (book_checks book) ≡ 0
      unrefused = (read_line first_edition book m ps is_read).0

      same : m ≡ l
      same = (read_line first_edition book m ps is_read).1

      formed : well_formed m ≡ true
      formed = rw same (book_formed first_edition book unrefused)

      left : refusal (opening_checks book table records) ≡ refusal (placing_checks m table)
      left = rw same (stores ∙ second_part (book_checks book) (placing_checks l table) refl unrefused)

      -- 19
      pub start_overfull : feasible m start ≡ false → Gives (refused_with overfull table)
      start_overfull e = untouched overfull (left ∙ refusal_is (stop e)) (omega arith) (λ z. omega arith)

      module _ (fits : feasible m start ≡ true) (after : List ℕ) (done : Bool) (f : Filling m table after done) where
        is_filled : after ≡ filled m table
        is_filled = f.fills ∙ rw (le-leb table_length (length table) long, formed)

        -- 20
        pub no_way : bit_of after (code m start) ≡ false → Gives (refused_with no_way_through after)
        unfolding opening_with
        no_way e =
            let n = left ∙ refusal_is (pass fits (stop (rw is_filled at e))) in
            let r : opening_with book table records ≡ refused_book l table no_way_through
            = rw n (refuses {n = no_way_through} (opened l table) (refused_book l table) (omega arith)) in
            rw (r, is_filled, same)

        pub opens : bit_of after (code m start) ≡ true
            → Gives (record { state = opened_state m; number = 0; table = after })
        unfolding opening_with
        opens e =
            let n = left ∙ refusal_is (pass fits (pass (rw is_filled at e) none)) in
            let r : opening_with book table records ≡ opened l table
            = accepts (opened l table) (refused_book l table) n in
            rw (r, is_filled, same)

-- ---- a book that is read opens by its line

-- the opening of a line
opened_line : Line → List ℕ → ℕ → Opening
opened_line l table records =
    unless_refused (refusal (stores_check table records ∷ placing_checks l table)) (opened l table)
    (refused_book l table)

by_line : (b : List ℕ) (l : Line) (ps : List ℕ) → read_book b ≡ accepted_book l ps → (table : List ℕ) (records : ℕ)
    → opening_with b table records ≡ opened_line l table records
unfolding opening_with opened_line refusal
by_line b l ps is_read table records =
    let facts = read_line first_edition b l ps is_read in
    rw (facts.1, second_part (book_checks b) (placing_checks (line_in b) table) refl facts.0)

pub opened_alike : OpenedAlike
opened_alike b c l ps qs p q table records = by_line b l ps p table records ∙ sym (by_line c l qs q table records)
