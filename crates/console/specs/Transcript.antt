-- What the desk prints for an input. 01: "The program reads a book, then frames of 7 bytes, on standard input."
-- `proofs/Transcript.antt` has the proof.
use Rattle.std.specs.Prelude.{◌≡◌, cond, ℕ, zero, suc, eqb, length, take, drop, replicate}
use mathlib.Core.List.{List, [], ◌∷◌, ◌++◌, foldl}
use Rattle.frame.specs.Frame.{frame_length}
use Rattle.journal.specs.Log.{blank_log}
use Rattle.completion.specs.Table.{table_length}
use Rattle.rules.specs.Opening.{Opening, opening}
use Rattle.printout.specs.Lines.{run_lines, book_line}
use Rattle.console.specs.Types.{Run, Phase, Book, Refused, Frames, Ended, Console}
use Rattle.console.specs.Run.{fresh_run, after_frame}
use Rattle.console.specs.Piece.{book_length}
use Rattle.console.specs.Console.{Desk, desk_of, fresh_console, taken_bytes, finished}

-- "It prints each journal record .., then `end`, the record count and the count of refused frames"
abbrev pub run_printed : Run → List ℕ
run_printed r = run_lines r.log.records r.state.logged r.refused

-- ---- in the paper's words

-- "two bytes and as many as they name, at most as many in all as the longest book has", which is 58 with edition 3,
-- "or what there is if input ends"
abbrev pub book_in : List ℕ → List ℕ
book_in input = take (book_length input) input

-- "frames of 7 bytes .. a shorter rest after whole frames is one torn frame": in at most n frames
unfoldable pub cut_frames : ℕ → List ℕ → List (List ℕ)
cut_frames zero rest = []
cut_frames (suc n) [] = []
cut_frames (suc n) (b ∷ rest) = take frame_length (b ∷ rest) ∷ cut_frames n (drop frame_length (b ∷ rest))

-- what comes after the book has no more frames than bytes
abbrev pub frames_after : List ℕ → List (List ℕ)
frames_after input = let rest = drop (book_length input) input in cut_frames (length rest) rest

-- a table of 0, before a book is opened
abbrev pub blank_table : List ℕ
blank_table = replicate table_length 0

-- each frame is answered in turn
abbrev pub run_over : List ℕ → Run → List (List ℕ) → Run
run_over table r frames = foldl (λ r frame. after_frame r table frame) r frames

-- "for a refused book only `book` and the number"
abbrev pub transcript_with : Opening → List (List ℕ) → List ℕ
transcript_with o frames =
    cond (eqb o.number 0) (run_printed (run_over o.table (fresh_run o.state blank_log) frames))
    (book_line o.number)

unfoldable pub transcript_of : List ℕ → List ℕ
transcript_of input = transcript_with (opening (book_in input) blank_table blank_log.records) (frames_after input)

-- ---- what the console prints

abbrev pub printed_in : Phase → Run → List ℕ
printed_in (Refused n) r = book_line n
printed_in Book r = run_printed r
printed_in Frames r = run_printed r
printed_in Ended r = run_printed r

abbrev pub printed : Console → List ℕ
printed c = printed_in c.phase c.run

-- the desk before any byte
abbrev pub fresh_desk : Desk
fresh_desk = desk_of fresh_console blank_table

pub record Transcribes : Type 0 where
  -- every input is printed as the paper has it
  pub all : (input : List ℕ) → printed (finished (taken_bytes fresh_desk input)).console ≡ transcript_of input
  -- the sizes of the parts in which it comes do not matter
  pub parts : (d : Desk) (a b : List ℕ) → taken_bytes d (a ++ b) ≡ taken_bytes (taken_bytes d a) b
  -- what ended stays so
  pub over : (d : Desk) (more : List ℕ) → taken_bytes (finished d) more ≡ finished d
  pub once : (d : Desk) → finished (finished d) ≡ finished d
