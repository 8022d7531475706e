-- The journal as bytes. Records of 5 bytes: kind, train, from, to, track. A buffer of n bytes has n / 5 records; the
-- n % 5 bytes past them are never read or written.
use Rattle.std.specs.Prelude.{List, [], ◌∷◌, ℕ, ◌+◌, ◌*◌, ◌/◌, length, drop}
use Rattle.common.specs.Tabulate.{tabulate}
use Rattle.line.specs.Book.{byte_at}
use Rattle.encoding.specs.Types.{Record}
use Rattle.encoding.specs.Parts.{joined, each}

abbrev pub record_length : ℕ
record_length = 5

abbrev pub record_bytes : Record → List ℕ
record_bytes r = r.kind ∷ r.train.0 ∷ r.from.0 ∷ r.to.0 ∷ r.track.0 ∷ []

-- the record whose bytes begin at i
abbrev pub record_in : List ℕ → ℕ → Record
record_in b i = record {
  kind = byte_at b i;
  train = record { 0 = byte_at b (i + 1) };
  from = record { 0 = byte_at b (i + 2) };
  to = record { 0 = byte_at b (i + 3) };
  track = record { 0 = byte_at b (i + 4) };
}

-- how many records a buffer of n bytes has
abbrev pub record_count : ℕ → ℕ
record_count n = n / record_length

abbrev pub records_in : List ℕ → List Record
records_in b = tabulate (record_count (length b)) (λ i. record_in b (record_length * i))

-- the records j in the place of those of b; the bytes past them stay
abbrev pub journal_parts : List ℕ → List Record → List (List ℕ)
journal_parts b j = each record_bytes j ∷ drop (record_length * record_count (length b)) b ∷ []

unfoldable pub with_records : List ℕ → List Record → List ℕ
with_records b j = joined (journal_parts b j)
