-- `opening::opened` meets its contract: at each `return` the checks that passed, and the one that fails, give the
-- opening's refusal; where all pass, its state. 19 is tested before the table is filled, and 20 after it.
use mathlib.Core.Path.{◌≡◌, sym, ap, ◌∙◌}
use mathlib.Core.Logic.{inl, inr}
use native.Mathlib.Omega.{arith}
use Rattle.std.proofs.lemmas.Result.{err_from_is_err_and}
use Rattle.line.specs.Book.{first_edition, accepted_book, read_book, outcome_number}
use Rattle.line.proofs.Claims.{line_book}
use Rattle.line.proofs.ReadingLaws.{read_as}
use Rattle.completion.specs.Configuration.{start, code}
use Rattle.completion.specs.Table.{bit_of}
use Rattle.rules.proofs.OpeningCases.{start_code, table_short, journal_short, book_refused}
use Rattle.rules.proofs.OpeningCases.{start_overfull, no_way, opens}
use Rattle.opening.proofs.opening.opened.Goals as goal
use Rattle.opening.proofs.opening.opened.Goals.{After-feasible_start, After-bit}

pub returns-then-table-lt-TABLE_LENGTH : goal.returns-then-table-lt-TABLE_LENGTH
returns-then-table-lt-TABLE_LENGTH c =
    elim c.then-table-lt-TABLE_LENGTH.either [
      | inl h ↦ table_short _ _ _ h
      | inr h ↦ journal_short _ _ _ h.1
    ]

pub returns-in_err-reading : goal.returns-in_err-reading
returns-in_err-reading c =
    let p = err_from_is_err_and c.from_residual.result c.from_residual.ensures.1 in
    rw (p.1, p.2)
    (book_refused _ _ _ c.if-table-lt-TABLE_LENGTH.false c.if-records-lt-JOURNAL_LENGTH.false
    c.read-reading.result c.read-reading.ensures _ c.in_err-reading.was _
    (sym (ap outcome_number c.in_err-reading.was)))

-- past the reading the book is read
is_read : (c : After-feasible_start) → read_book c.args.book.now
    ≡ accepted_book c.read-reading.result.line c.read-reading.result.positions
is_read c = read_as first_edition c.args.book.now c.read-reading.result c.read-reading.ensures c.in_ok-reading.was

pub returns-then-not-feasible_start : goal.returns-then-not-feasible_start
returns-then-not-feasible_start c =
    start_overfull _ _ _ c.if-table-lt-TABLE_LENGTH.false c.if-records-lt-JOURNAL_LENGTH.false _ _
    (is_read (goal.at.returns-then-not-feasible_start c).After-feasible_start)
    (sym c.feasible_start.ensures ∙ c.if-not-feasible_start.true)

-- the bit that is tested is that of the start
tested : (c : After-bit) → bit_of c.fill.new.table (code c.read-reading.result.line start) ≡ c.bit.result
tested c =
    ap (bit_of c.fill.new.table) (sym (c.code-start.ensures ∙ start_code c.read-reading.result.line))
    ∙ sym c.bit.ensures

pub returns-then-not-bit : goal.returns-then-not-bit
returns-then-not-bit c =
    no_way _ _ _ c.if-table-lt-TABLE_LENGTH.false c.if-records-lt-JOURNAL_LENGTH.false _ _
    (is_read (goal.at.returns-then-not-bit c).After-feasible_start)
    (sym c.feasible_start.ensures ∙ c.if-not-feasible_start.false) _ _ c.fill.ensures
    (tested (goal.at.returns-then-not-bit c).After-bit ∙ c.if-not-bit.true)

pub opened_state-requires : goal.opened_state-requires
opened_state-requires c =
    (line_book.only first_edition (omega arith) c.args.book.now c.read-reading.result.line
    c.read-reading.result.positions
    (is_read (goal.at.opened_state-requires c).After-feasible_start)).1.formed

pub returns : goal.returns
returns c =
    rw c.opened_state.ensures
    (opens _ _ _ c.if-table-lt-TABLE_LENGTH.false c.if-records-lt-JOURNAL_LENGTH.false _ _
    (is_read (goal.at.returns c).After-feasible_start)
    (sym c.feasible_start.ensures ∙ c.if-not-feasible_start.false) _ _ c.fill.ensures
    (tested (goal.at.returns c).After-bit ∙ c.if-not-bit.false))
