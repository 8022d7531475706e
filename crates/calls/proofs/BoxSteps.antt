-- How the calls of the dispatcher's end come out, by the tests that the code makes.
use mathlib.Core.Path.{◌≡◌, ap}
use mathlib.Core.Logic.{◌≢◌}
use mathlib.Core.Bool.{false}
use mathlib.Core.List.{List}
use Prim.Native.Nat.{ℕ}
use lib.ListN.{length}
use borrow.Author.Tests.{eq-eqb, ne_eqb}
use Rattle.line.specs.Refusal.{strange_state}
use Rattle.line.specs.Book.{read_book, outcome_number}
use Rattle.rules.specs.Opening.{Opening, opening_of, opening_with}
use Rattle.calls.specs.Types.{Reading, Opened}
use Rattle.calls.specs.Word.{word_of}
use Rattle.encoding.specs.LineBytes.{line_length, line_bytes}
use Rattle.encoding.specs.StateBytes.{state_length, state_bytes, encodes_state}
use Rattle.encoding.specs.JournalBytes.{record_count}
use Rattle.calls.specs.BoxCalls.{book_call, read_book_call, OpenCall, open_call_of, open_call}
use Rattle.calls.specs.BoxCalls.{answer_call_of, answer_call}

-- ---- reading a book

module _ (book line : List ℕ) where
  pub no_line : length line ≢ line_length → (w : ℕ) → w ≡ word_of strange_state 0
      → book_call w line ≡ read_book_call book line
  unfolding read_book_call
  no_line h w p = rw (p, ne_eqb (length line) line_length h)

  pub read : length line ≡ line_length → (r : Reading) → r ≡ read_book book
      → (after : List ℕ) → after ≡ line_bytes r.line
      → (n : ℕ) → n ≡ outcome_number r.outcome → (w : ℕ) → w ≡ word_of n 0
      → book_call w after ≡ read_book_call book line
  unfolding read_book_call
  read h r p after q n e w s = rw (s, q, e, p, eq-eqb (length line) line_length h)

-- ---- opening a book

-- an opening as bytes
abbrev opened_as : Opening → OpenCall
opened_as o = open_call_of (word_of o.number 0) (state_bytes o.state) o.table

module _ (book state table journal : List ℕ) where
  pub not_opened : length state ≢ state_length → (w : ℕ) → w ≡ word_of strange_state 0
      → open_call_of w state table ≡ open_call book state table journal
  unfolding open_call
  not_opened h w p = rw (p, ne_eqb (length state) state_length h)

  pub opened : length state ≡ state_length → (o : Opened) (filled : List ℕ)
      → opening_of o filled ≡ opening_with book table (record_count (length journal))
      → (after : List ℕ) → after ≡ state_bytes o.state → (w : ℕ) → w ≡ word_of o.refusal 0
      → open_call_of w after filled ≡ open_call book state table journal
  unfolding open_call
  opened h o filled p after q w r = rw (r, q, eq-eqb (length state) state_length h) (ap opened_as p)

-- ---- the answer to a frame

module _ (state table journal frame out : List ℕ) where
  pub not_answered : encodes_state state ≡ false → (w : ℕ) → w ≡ word_of strange_state 0
      → answer_call_of w state journal out ≡ answer_call state table journal frame out
  unfolding answer_call
  not_answered h w p = rw (p, h)
