-- The line fits.
use Rattle.std.proofs.Common.{◌≤◌, [], length, ap, ◌∙◌, arith}
use Rattle.printout.specs.Text.{Text, text_length, followed}
use Rattle.printout.specs.Lines.{book_line}
use Rattle.printout.proofs.Room.{held, fits}
use Rattle.printout.proofs.printing.book_text.Goals as goal

pub returns : goal.returns
returns c =
    let line = book_line c.args.refusal in
    let room : length line ≤ text_length = omega (arith, c.with_book.ensures.refusal_len_bound) in
    let all =
    fits line _ room
    (c.with_book.ensures.value ∙ ap (λ (t : Text). followed t line) c.empty.ensures ∙ held [] line (omega arith)) in
    record { length_le_text_length = all.0; value = all.1 }
