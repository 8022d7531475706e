-- What the code makes of each byte and of the end of the input.
use Rattle.std.specs.Prelude.{Bool, true, false, cond, ℕ, eqb, ltb}
use mathlib.Core.List.{List, [], foldl}
use Rattle.frame.specs.Frame.{frame_length}
use Rattle.journal.specs.Log.{blank_log}
use Rattle.rules.specs.Opening.{Opening, empty_state, opening}
use Rattle.console.specs.Types.{State, Run, Phase, Book, Refused, Frames, Ended, Console}
use Rattle.console.specs.Piece.{piece_of, piece_bytes, piece_with, is_book}
use Rattle.console.specs.Run.{fresh_run, after_frame}

-- the console with its lent table
pub record Desk : Type 0 where
  pub console : Console
  pub table : List ℕ

abbrev pub desk_of : Console → List ℕ → Desk
desk_of c table = record { console = c; table = table }

-- the console before any byte
abbrev pub fresh_console : Console
fresh_console = record { phase = Book; piece = piece_of []; run = fresh_run empty_state blank_log }

-- ---- the book and the frame that have come

-- frames are awaited if the book was accepted
unfoldable pub after_opening : State → ℕ → Run → Console
after_opening s number r =
    cond (eqb number 0) (record { phase = Frames; piece = piece_of []; run = fresh_run s r.log })
    (record { phase = Refused number; piece = piece_of []; run = r })

abbrev pub opened_with : Run → Opening → Desk
opened_with r o = desk_of (after_opening o.state o.number r) o.table

abbrev pub book_opened : Desk → Desk
book_opened d =
    let r = d.console.run in
    opened_with r (opening (piece_bytes d.console.piece) d.table r.log.records)

abbrev pub frame_answered : Console → List ℕ → Console
frame_answered c table =
    record { phase = Frames; piece = piece_of []; run = after_frame c.run table (piece_bytes c.piece) }

-- ---- one byte

abbrev pub with_next : Console → ℕ → Console
with_next c b = record { phase = c.phase; piece = piece_with c.piece b; run = c.run }

-- the book is opened with its last byte
abbrev pub book_byte : Desk → ℕ → Desk
book_byte d b =
    let after = desk_of (with_next d.console b) d.table in
    cond (is_book after.console.piece) (book_opened after) after

-- a frame is answered with its seventh byte
abbrev pub frame_byte : Console → List ℕ → ℕ → Console
frame_byte c table b =
    let after = with_next c b in
    cond (ltb after.piece.length frame_length) after (frame_answered after table)

-- whether a byte is still taken: none after a refused book, and none after the end
abbrev pub awaits : Phase → Bool
awaits Book = true
awaits Frames = true
awaits (Refused n) = false
awaits Ended = false

abbrev pub taken_in : Phase → Desk → ℕ → Desk
taken_in Book d b = book_byte d b
taken_in Frames d b = desk_of (frame_byte d.console d.table b) d.table
taken_in (Refused n) d b = d
taken_in Ended d b = d

unfoldable pub taken_byte : Desk → ℕ → Desk
taken_byte d b = taken_in d.console.phase d b

-- some bytes, one after the other
abbrev pub taken_bytes : Desk → List ℕ → Desk
taken_bytes d bytes = foldl taken_byte d bytes

-- ---- the end of the input

abbrev pub after_end : Phase → Phase
after_end Book = Ended
after_end Frames = Ended
after_end (Refused n) = Refused n
after_end Ended = Ended

abbrev pub ended_console : Console → Console
ended_console c = record { phase = after_end c.phase; piece = c.piece; run = c.run }

-- "a shorter rest after whole frames is one torn frame"
abbrev pub last_frame : Console → List ℕ → Console
last_frame c table = cond (eqb c.piece.length 0) c (frame_answered c table)

abbrev pub ended_desk : Desk → Desk
ended_desk d = desk_of (ended_console d.console) d.table

abbrev pub finished_in : Phase → Desk → Desk
-- "or what there is if input ends"
finished_in Book d = ended_desk (book_opened d)
finished_in Frames d = desk_of (ended_console (last_frame d.console d.table)) d.table
finished_in (Refused n) d = d
finished_in Ended d = d

unfoldable pub finished : Desk → Desk
finished d = finished_in d.console.phase d
