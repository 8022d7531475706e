-- 02, card 5: books of edition 3, where 27 stands, and that opening one is opening the same line without positions.
use Rattle.std.specs.Prelude.{◌≡◌, List, [], ◌∷◌, ◌++◌, ℕ, replicate}
use Rattle.line.specs.Line.{no_route}
use Rattle.line.specs.Book.{route, accepted_book}
use Rattle.examples.specs.Reading.{read_alone, numbers_of, opened_blank}
use Rattle.examples.specs.Books.{book_of, position}
use Rattle.examples.specs.Examples.{book_x}

-- two posts of one track each, with that siding byte and these positions, and so many trains, with a start and an end
abbrev pub two_posts : ℕ → List ℕ → ℕ → List ℕ
two_posts sidings positions trains = book_of 16 3 2 (1 ∷ 1 ∷ sidings ∷ positions) trains (0 ∷ 1 ∷ [])

-- "00 10 03 02 01 01 00 00 00 00 00 00 00 03 E8 01 00 01": a kilometre
abbrev pub kilometre : List ℕ
kilometre = two_posts 0 (position 0 0 ++ position 3 232) 1

-- the same with the second post at the position of these four bytes
abbrev pub up_to : List ℕ → List ℕ
up_to bytes = two_posts 0 (position 0 0 ++ bytes) 1

-- X in edition 3, with these positions
abbrev pub like_x_at : List ℕ → List ℕ
like_x_at positions = book_of 23 3 3 (1 ∷ 2 ∷ 1 ∷ 0 ∷ positions) 2 (0 ∷ 2 ∷ 2 ∷ 0 ∷ [])

-- 1,000 and 2,500 metres from the first post
abbrev pub positioned_x : List ℕ
positioned_x = like_x_at (position 0 0 ++ position 3 232 ++ position 9 196)

pub record PositionBytes : Type 0 where
  -- four bytes for each post after the siding byte, high byte first; the places for posts from 3 on are 0
  pub read : read_alone positioned_x ≡ accepted_book record {
    posts = 3;
    tracks = 1 ∷ 2 ∷ 1 ∷ replicate 5 0;
    sidings = 0;
    trains = 2;
    routes = route 0 2 ∷ route 2 0 ∷ replicate 4 no_route;
  } (0 ∷ 1000 ∷ 2500 ∷ replicate 5 0)
  -- "counted in its length checks": under 6 + 5 P bytes is 14, before 16, and with as many it is 16; a byte less or
  -- more than 6 + 5 P + 2 T is 14
  pub lengths : numbers_of
      ((0 ∷ 13 ∷ 3 ∷ 2 ∷ replicate 11 9) ∷ (0 ∷ 14 ∷ 3 ∷ 2 ∷ replicate 12 9)
      ∷ book_of 15 3 2 (1 ∷ 1 ∷ 0 ∷ position 0 0 ++ position 0 1) 1 (0 ∷ [])
      ∷ book_of 17 3 2 (1 ∷ 1 ∷ 0 ∷ position 0 0 ++ position 0 1) 1 (0 ∷ 1 ∷ 0 ∷ []) ∷ [])
      ≡ 14 ∷ 16 ∷ 14 ∷ 14 ∷ []
  -- "not from 0, not strictly rising, or above 8,388,607", at the last post and at one before it; with 8,388,607 it is
  -- read
  pub in_order : numbers_of
      (up_to (position 0 0) ∷ two_posts 0 (position 0 1 ++ position 3 232) 1
      ∷ up_to (0 ∷ 128 ∷ 0 ∷ 0 ∷ []) ∷ up_to (0 ∷ 127 ∷ 255 ∷ 255 ∷ []) ∷ up_to (1 ∷ 0 ∷ 0 ∷ 0 ∷ [])
      ∷ like_x_at (position 0 0 ++ position 0 9 ++ position 0 8)
      ∷ like_x_at (position 0 0 ++ position 0 9 ++ position 0 9)
      ∷ like_x_at (position 0 0 ++ (0 ∷ 128 ∷ 0 ∷ 0 ∷ []) ++ (0 ∷ 128 ∷ 0 ∷ 1 ∷ [])) ∷ [])
      ≡ 27 ∷ 27 ∷ 27 ∷ 0 ∷ 27 ∷ 27 ∷ 27 ∷ 27 ∷ []
  -- 27 "stands after 23", and before 17
  pub order : numbers_of
      (two_posts 4 (position 0 1 ++ position 0 0) 1 ∷ two_posts 0 (position 0 1 ++ position 0 0) 0
      ∷ two_posts 0 (position 0 0 ++ position 0 1) 0 ∷ [])
      ≡ 23 ∷ 27 ∷ 17 ∷ []
  -- in edition 2 the same bytes are no positions: the number of trains is the first of them
  pub other_edition_lem : numbers_of (book_of 16 2 2 (1 ∷ 1 ∷ 0 ∷ position 0 0 ++ position 3 232) 1 (0 ∷ 1 ∷ []) ∷ [])
      ≡ 17 ∷ []

-- the opening of X in edition 3 is that of X: state, number and table, so that every run from it is a run from X
abbrev pub OpenedWithPositions : Type 0
OpenedWithPositions = opened_blank positioned_x ≡ opened_blank book_x
