-- `quangevit_open` meets its contract: there is no room for a state, or what the opening gives is written.
use Rattle.calls.proofs.BoxSteps.{not_opened, opened}
use Rattle.quangevit.proofs.office.quangevit_open.Goals as goal

pub returns-then-state-ne-STATE_LENGTH : goal.returns-then-state-ne-STATE_LENGTH
returns-then-state-ne-STATE_LENGTH c =
    let a = c.args in
    not_opened a.book.now a.state.now a.table.now a.journal.now c.if-state-ne-STATE_LENGTH.true _
    c.word_of.ensures

pub returns : goal.returns
returns c =
    let a = c.args in
    opened a.book.now a.state.now a.table.now a.journal.now c.if-state-ne-STATE_LENGTH.false _ _
    c.open_with-opened.ensures _ c.put_state.ensures _ c.word_of-2.ensures
