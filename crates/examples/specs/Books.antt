-- Books: what the paper's own examples do not show of the checks that a book meets, and of their order.
use Rattle.std.specs.Prelude.{◌≡◌, List, [], ◌∷◌, ◌++◌, ℕ, length, replicate}
use Rattle.line.specs.Line.{no_route}
use Rattle.line.specs.Book.{route, accepted_book}
use Rattle.line.specs.Claims.{longest}
use Rattle.examples.specs.Reading.{read_alone, numbers_of, refusal_of}
use Rattle.examples.specs.Examples.{like_x, book_x}

-- a book: the length's low byte, version, posts; track counts, from edition 2 on with the siding byte after them and in
-- edition 3 with the positions; trains; their starts and ends
abbrev pub book_of : ℕ → ℕ → ℕ → List ℕ → ℕ → List ℕ → List ℕ
book_of size version posts counts trains ends = 0 ∷ size ∷ version ∷ posts ∷ counts ++ (trains ∷ ends)

-- X with other trains
abbrev pub with_trains : ℕ → ℕ → List ℕ → List ℕ
with_trains size trains ends = book_of size 1 3 (1 ∷ 2 ∷ 1 ∷ []) trains ends

-- a position below 65,536 metres, by its two lower bytes
abbrev pub position : ℕ → ℕ → List ℕ
position high low = 0 ∷ 0 ∷ high ∷ low ∷ []

-- edition 3, eight posts of four tracks, 256 metres apart, sidings at both ends of the line, six trains from one end to
-- the other
abbrev pub book_long : List ℕ
book_long =
    book_of 56 3 8
    (replicate 8 4 ++ (129 ∷ position 0 0 ++ position 1 0 ++ position 2 0 ++ position 3 0 ++ position 4 0
    ++ position 5 0 ++ position 6 0 ++ position 7 0))
    6 (0 ∷ 7 ∷ 7 ∷ 0 ∷ 0 ∷ 7 ∷ 7 ∷ 0 ∷ 0 ∷ 7 ∷ 7 ∷ 0 ∷ [])

pub record Books : Type 0 where
  -- what X says; the places for posts from 3 on and trains from 2 on are 0
  pub x : read_alone book_x ≡ accepted_book record {
    posts = 3;
    tracks = 1 ∷ 2 ∷ 1 ∷ replicate 5 0;
    sidings = 0;
    trains = 2;
    routes = route 0 2 ∷ route 2 0 ∷ replicate 4 no_route;
  } (replicate 8 0)
  -- 14 for a length that is too small, for no byte and for three; 14 before 4 before 15
  pub header : numbers_of
      (like_x 9 3 1 2 1 2 2 ∷ [] ∷ (0 ∷ 1 ∷ 1 ∷ []) ∷ book_of 11 4 9 (1 ∷ 2 ∷ 1 ∷ []) 2 (0 ∷ 2 ∷ 2 ∷ 0 ∷ [])
      ∷ book_of 10 4 9 (1 ∷ 2 ∷ 1 ∷ []) 2 (0 ∷ 2 ∷ 2 ∷ 0 ∷ []) ∷ [])
      ≡ 14 ∷ 14 ∷ 14 ∷ 14 ∷ 4 ∷ []
  -- two posts, and eight; 15 before 14, then 14 before 16: twelve bytes are too few for eight posts, thirteen are not
  pub posts : numbers_of
      (book_of 9 1 2 (1 ∷ 2 ∷ []) 2 (0 ∷ 1 ∷ 1 ∷ 0 ∷ []) ∷ book_of 15 1 8 (replicate 8 1) 2 (0 ∷ 2 ∷ 2 ∷ 0 ∷ [])
      ∷ like_x 10 9 1 2 1 2 2 ∷ (0 ∷ 10 ∷ 1 ∷ 8 ∷ replicate 8 5) ∷ (0 ∷ 11 ∷ 1 ∷ 8 ∷ replicate 9 5) ∷ [])
      ≡ 0 ∷ 0 ∷ 15 ∷ 14 ∷ 16 ∷ []
  -- the last count is checked too, and 16 comes before 17
  pub tracks : numbers_of (like_x 10 3 1 2 5 0 2 ∷ []) ≡ 16 ∷ []
  -- one train, and six; 17 for seven, though the total then differs
  pub trains : numbers_of
      (with_trains 8 1 (2 ∷ 2 ∷ []) ∷ with_trains 18 6 (replicate 12 0) ∷ like_x 10 3 1 2 1 7 2 ∷ [])
      ≡ 0 ∷ 0 ∷ 17 ∷ []
  -- 14 for a byte too many; 14 before 18; 18 for a start at P, and for the last end
  pub routes : numbers_of
      (with_trains 11 2 (0 ∷ 2 ∷ 2 ∷ 0 ∷ 0 ∷ []) ∷ with_trains 10 3 (9 ∷ 9 ∷ 9 ∷ 9 ∷ [])
      ∷ with_trains 10 2 (3 ∷ 2 ∷ 2 ∷ 0 ∷ []) ∷ with_trains 10 2 (0 ∷ 2 ∷ 2 ∷ 3 ∷ []) ∷ [])
      ≡ 14 ∷ 14 ∷ 18 ∷ 18 ∷ []
  -- the longest book, which also has the longest lists of moves, opens
  pub long : (length book_long ≡ longest) × (refusal_of book_long ≡ 0)
