-- A text by value: its bytes, then zeros, and how many bytes it has.
use Rattle.std.specs.Prelude.{ℕ, ◌+◌, ◌*◌}
use mathlib.Core.List.{List, foldl}
use Rattle.bounded.specs.declared.bytes.Bytes.{Bytes}
use Rattle.bounded.specs.Bytes.{bytes_from, bytes_with}

-- as many bytes as the longest line of a record has
abbrev pub record_line_length : ℕ
record_line_length = 24

-- as many as the longest end line has
abbrev pub end_line_length : ℕ
end_line_length = 29

-- as many as 255 lines of records and the end line have
abbrev pub text_length : ℕ
text_length = 255 * record_line_length + end_line_length

-- bytes, as many as are printed at most
abbrev pub Text : Type 0
Text = Bytes text_length

-- the text that holds l
abbrev pub text_of : List ℕ → Text
text_of l = bytes_from text_length l

-- a text with one byte more, where there is room
abbrev pub text_with : Text → ℕ → Text
text_with t b = bytes_with text_length t b

-- a text with a word after it
abbrev pub followed : Text → List ℕ → Text
followed t word = foldl text_with t word
