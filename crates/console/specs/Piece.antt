-- The book or the frame that is being read, as far as it has come.
use Rattle.std.specs.Prelude.{Bool, List, ℕ, ◌+◌, min, leb, take, get_or}
use Rattle.common.specs.Word.{word}
use Rattle.line.specs.Claims.{longest}
use Rattle.bounded.specs.declared.bytes.Bytes.{Bytes}
use Rattle.bounded.specs.Bytes.{bytes_from, bytes_with}

-- bytes, as many as the longest book has at most
abbrev pub Piece : Type 0
Piece = Bytes longest

-- the piece of which l has come
abbrev pub piece_of : List ℕ → Piece
piece_of l = bytes_from longest l

-- what has come
abbrev pub piece_bytes : Piece → List ℕ
piece_bytes p = take p.length p.bytes

-- a piece with one more byte, where there is room
abbrev pub piece_with : Piece → ℕ → Piece
piece_with p b = bytes_with longest p b

-- "The book is two bytes and as many as they name, at most as many in all as the longest book has": 58 bytes with
-- edition 3
unfoldable pub book_length : List ℕ → ℕ
book_length l = min longest (2 + word (get_or l 0 0) (get_or l 1 0))

-- whether a piece has all bytes of its book
unfoldable pub is_book : Piece → Bool
is_book p = leb (book_length p.bytes) p.length
