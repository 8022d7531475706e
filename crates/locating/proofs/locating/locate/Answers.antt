-- `locate` meets its contract: the book is refused, or its posts and positions are those that the report is held
-- against.
use mathlib.Core.Path.{◌≡◌, ◌∙◌}
use borrow.Author.Rules.{rules}
use Rattle.line.specs.Book.{last_edition, accepted_book, read_positioned}
use Rattle.line.proofs.ReadingLaws.{read_as}
use Rattle.place.specs.Locating.{Refused}
use Rattle.place.proofs.Cases.{book_refused, is_surveyed, by_survey}
use Rattle.locating.proofs.locating.locate.Goals as goal

pub returns-in_err-reading : goal.returns-in_err-reading
returns-in_err-reading c =
    let refused : c.from_residual.result ≡ Refused c.in_err-reading.field-0.0 = search rules in
    refused ∙ book_refused _ _ _ c.read_positioned-reading.ensures _ c.in_err-reading.was

pub on_survey-requires : goal.on_survey-requires
on_survey-requires c =
    let is_read : read_positioned c.args.book.now
    ≡ accepted_book c.read_positioned-reading.result.line c.read_positioned-reading.result.positions =
    read_as last_edition _ c.read_positioned-reading.result c.read_positioned-reading.ensures c.in_ok-reading.was in
    is_surveyed _ _ _ is_read

pub returns : goal.returns
returns c =
    let is_read : read_positioned c.args.book.now
    ≡ accepted_book c.read_positioned-reading.result.line c.read_positioned-reading.result.positions =
    read_as last_edition _ c.read_positioned-reading.result c.read_positioned-reading.ensures c.in_ok-reading.was in
    c.on_survey.ensures ∙ by_survey _ _ _ _ is_read
