-- `quangevit_read_book` meets its contract: there is no room for a line, or the line that is read is written.
use Rattle.calls.proofs.BoxSteps.{no_line, read}
use Rattle.quangevit.proofs.office.quangevit_read_book.Goals as goal

pub returns-then-line-ne-LINE_LENGTH : goal.returns-then-line-ne-LINE_LENGTH
returns-then-line-ne-LINE_LENGTH c = no_line _ _ c.if-line-ne-LINE_LENGTH.true _ c.word_of.ensures

pub returns : goal.returns
returns c =
    read _ _ c.if-line-ne-LINE_LENGTH.false _ c.read-reading.ensures _ c.put_line.ensures _ c.number_of.ensures _
    c.word_of-2.ensures
