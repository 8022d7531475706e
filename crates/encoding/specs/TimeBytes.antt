-- A running time as eight bytes: seconds, then the rest, four bytes each.
use Rattle.std.specs.Prelude.{List, ◌++◌, ℕ, ◌+◌}
use Rattle.common.specs.Word.{long_word_bytes}
use Rattle.line.specs.Book.{long_word_at}
use Rattle.encoding.specs.Types.{Time}

-- where each of them is, and how many bytes they are
abbrev pub seconds_byte : ℕ
seconds_byte = 0

abbrev pub rest_byte : ℕ
rest_byte = seconds_byte + 4

abbrev pub time_length : ℕ
time_length = rest_byte + 4

unfoldable pub time_bytes : Time → List ℕ
time_bytes t = long_word_bytes t.seconds ++ long_word_bytes t.rest

-- the two numbers that the bytes say
abbrev pub seconds_in : List ℕ → ℕ
seconds_in b = long_word_at b seconds_byte

abbrev pub rest_in : List ℕ → ℕ
rest_in b = long_word_at b rest_byte
