-- The calls of the dispatcher's end: what each answers, and every lent buffer afterwards.
use Rattle.std.specs.Prelude.{cond, List, ℕ, eqb, length}
use Rattle.line.specs.Refusal.{strange_state}
use Rattle.line.specs.Book.{read_book, outcome_number}
use Rattle.rules.specs.Answer.{Answer, answer}
use Rattle.rules.specs.Opening.{opening_with}
use Rattle.calls.specs.Word.{word_of}
use Rattle.encoding.specs.LineBytes.{line_length, line_bytes}
use Rattle.encoding.specs.StateBytes.{state_length, state_bytes, encodes_state, state_in}
use Rattle.encoding.specs.JournalBytes.{record_count, records_in, with_records}

-- ---- reading a book

pub record BookCall : Type 0 where
  pub answer : ℕ
  pub line : List ℕ

abbrev pub book_call : ℕ → List ℕ → BookCall
book_call answer line = record { answer = answer; line = line }

-- a `line` buffer that is not 23 bytes is 1, nothing changed. Else the line is written; a refused book writes 23
-- zeros.
unfoldable pub read_book_call : List ℕ → List ℕ → BookCall
read_book_call book line =
    let r = read_book book in
    cond (eqb (length line) line_length)
    (book_call (word_of (outcome_number r.outcome) 0) (line_bytes r.line))
    (book_call (word_of strange_state 0) line)

-- ---- opening a book

pub record OpenCall : Type 0 where
  pub answer : ℕ
  pub state : List ℕ
  pub table : List ℕ

abbrev pub open_call_of : ℕ → List ℕ → List ℕ → OpenCall
open_call_of answer state table = record { answer = answer; state = state; table = table }

-- a `state` buffer that is not 74 bytes is 1, nothing changed, before every other check. Else as 01. What `state`
-- held is not looked at. The journal is not written.
unfoldable pub open_call : List ℕ → List ℕ → List ℕ → List ℕ → OpenCall
open_call book state table journal =
    let o = opening_with book table (record_count (length journal)) in
    cond (eqb (length state) state_length)
    (open_call_of (word_of o.number 0) (state_bytes o.state) o.table)
    (open_call_of (word_of strange_state 0) state table)

-- ---- the answer to a frame

pub record AnswerCall : Type 0 where
  pub answer : ℕ
  pub state : List ℕ
  pub journal : List ℕ
  pub out : List ℕ

abbrev pub answer_call_of : ℕ → List ℕ → List ℕ → List ℕ → AnswerCall
answer_call_of answer state journal out = record { answer = answer; state = state; journal = journal; out = out }

-- what the rules give: the number of the refusal and of the frames written as a word, the bytes of the state, the
-- journal's records with the bytes past them, and the out buffer
abbrev pub answer_left : List ℕ → Answer → AnswerCall
answer_left journal a =
    answer_call_of (word_of a.number a.frames) (state_bytes a.state) (with_records journal a.journal) a.out

-- bytes that encode no state are 1, nothing changed. Else as 01; a refusal changes nothing.
unfoldable pub answer_call : List ℕ → List ℕ → List ℕ → List ℕ → List ℕ → AnswerCall
answer_call state table journal frame out =
    cond (encodes_state state)
    (answer_left journal (answer (state_in state) table (records_in journal) frame out))
    (answer_call_of (word_of strange_state 0) state journal out)
