-- A place as three bytes: its sort, 0 for nothing, 1 at a post, 2 in a section; the number of the post or the section;
-- and the nearest post.
use Rattle.std.specs.Prelude.{cond, List, [], ◌∷◌, ℕ, eqb}
use Rattle.line.specs.Book.{byte_at}
use Rattle.place.specs.Locating.{at, in_section}
use Rattle.encoding.specs.Types.{Place, AtPost, InSection, Nowhere}

-- where each of them is, and how many bytes they are
abbrev pub sort_byte : ℕ
sort_byte = 0

abbrev pub number_byte : ℕ
number_byte = 1

abbrev pub nearest_byte : ℕ
nearest_byte = 2

abbrev pub place_length : ℕ
place_length = 3

abbrev pub nothing_sort : ℕ
nothing_sort = 0

abbrev pub post_sort : ℕ
post_sort = 1

abbrev pub section_sort : ℕ
section_sort = 2

-- a post is the nearest to itself
abbrev pub place_bytes : Place → List ℕ
place_bytes (AtPost p) = post_sort ∷ p.0 ∷ p.0 ∷ []
place_bytes (InSection i q) = section_sort ∷ i.0 ∷ q.0 ∷ []
place_bytes Nowhere = nothing_sort ∷ 0 ∷ 0 ∷ []

-- the place that the bytes say, and the nearest post
abbrev pub place_in : List ℕ → Place
place_in b =
    cond (eqb (byte_at b sort_byte) post_sort) (at (byte_at b number_byte))
    (cond (eqb (byte_at b sort_byte) section_sort) (in_section (byte_at b number_byte) (byte_at b nearest_byte))
    Nowhere)

abbrev pub nearest_in : List ℕ → ℕ
nearest_in b = byte_at b nearest_byte
