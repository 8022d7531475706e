-- 01, "The line and its book", and 02, cards 1 and 5: what the bytes of a book say, when a book is refused, and which
-- bytes a line has.
use Rattle.std.specs.Prelude.{cond, ◌&&◌, List, [], ◌∷◌, ◌++◌, ℕ, ◌+◌, ◌*◌, ◌/◌, ◌%◌, leb, ltb, eqb, length, get_or}
use Rattle.std.specs.Prelude.{replicate, Result, Ok, Err}
use Rattle.common.specs.Check.{Check, check, refusal, unless_refused}
use Rattle.common.specs.Tabulate.{tabulate, padded}
use Rattle.common.specs.Word.{word, long_word, long_word_bytes}
use Rattle.line.specs.Refusal as number
use Rattle.line.specs.Sorts.{Route, Line, Reading}
use Rattle.line.specs.Line.{no_route, route_of, tracks_at, in_range, posts_in_range, tracks_in_range, sidings_on_line}
use Rattle.line.specs.Line.{trains_in_range, routes_on_line}
use Rattle.line.specs.Positions.{metres_at, positions_in_order}

-- ---- where the parts of a book stand

-- "Book: a two-byte big-endian length (the bytes after it), version byte 1, P, P track counts, T, then start and end of
-- each train, one byte each."
abbrev pub version_at : ℕ
version_at = 2

abbrev pub posts_at : ℕ
posts_at = 3

-- the track count of post p
abbrev pub count_at : ℕ → ℕ
count_at p = 4 + p

-- the editions, by their version byte
abbrev pub first_edition : ℕ
first_edition = 1

abbrev pub last_edition : ℕ
last_edition = 3

-- how many of n posts edition v gives a position: "Book edition 3 adds each post's position in metres"
unfoldable pub positioned : ℕ → ℕ → ℕ
positioned v n = cond (eqb v last_edition) n 0

-- "Book edition 2 has one more byte after the track counts", and edition 3 "four bytes after the siding byte" for each
-- position: how many bytes edition v adds there for n posts
unfoldable pub added : ℕ → ℕ → ℕ
added v n = cond (eqb v first_edition) 0 (1 + 4 * positioned v n)

-- the siding byte, after the track counts of n posts
abbrev pub sidings_at : ℕ → ℕ
sidings_at n = 4 + n

-- the first byte of the position of post p, after the siding byte of n posts
abbrev pub position_at : ℕ → ℕ → ℕ
position_at n p = sidings_at n + 1 + 4 * p

-- the number of trains, after the track counts of n posts and k bytes that the edition adds
abbrev pub trains_at : ℕ → ℕ → ℕ
trains_at n k = 4 + n + k

-- the start and the end of train t, after the number of trains at place a
abbrev pub start_at : ℕ → ℕ → ℕ
start_at a t = a + 1 + 2 * t

abbrev pub end_at : ℕ → ℕ → ℕ
end_at a t = start_at a t + 1

-- "Total 5 + P + 2T bytes.", and those that the edition adds: up to where a further train's start would stand
abbrev pub total : ℕ → ℕ → ℕ
total a t = start_at a t

-- ---- what a book says

abbrev pub byte_at : List ℕ → ℕ → ℕ
byte_at b i = get_or b i 0

-- four bytes from place i on, as one number
abbrev pub long_word_at : List ℕ → ℕ → ℕ
long_word_at b i = long_word (byte_at b i) (byte_at b (i + 1)) (byte_at b (i + 2)) (byte_at b (i + 3))

-- how many bytes the book has by its length field
abbrev pub named_length : List ℕ → ℕ
named_length b = word (byte_at b 0) (byte_at b 1) + 2

abbrev pub posts_of : List ℕ → ℕ
posts_of b = byte_at b posts_at

abbrev pub edition_of : List ℕ → ℕ
edition_of b = byte_at b version_at

-- "the bit of value 2^i says that post i has a siding. .. Edition 1 books have no sidings."
abbrev pub sidings_of : List ℕ → ℕ
sidings_of b = cond (eqb (edition_of b) first_edition) 0 (byte_at b (sidings_at (posts_of b)))

-- the position of post p of n
abbrev pub position_in : List ℕ → ℕ → ℕ → ℕ
position_in b n p = long_word_at b (position_at n p)

-- how many posts have one
abbrev pub positioned_in : List ℕ → ℕ
positioned_in b = positioned (edition_of b) (posts_of b)

-- the positions; 0 at the places without one
abbrev pub positions_of : List ℕ → List ℕ
positions_of b = padded 8 (positioned_in b) (position_in b (posts_of b)) 0

-- where its number of trains stands
abbrev pub trains_in : List ℕ → ℕ
trains_in b = trains_at (posts_of b) (added (edition_of b) (posts_of b))

abbrev pub trains_of : List ℕ → ℕ
trains_of b = byte_at b (trains_in b)

abbrev pub route : ℕ → ℕ → Route
route s e = record { start = record { 0 = s }; end = record { 0 = e } }

-- the route of train t, after the number of trains at place a
abbrev pub route_in : List ℕ → ℕ → ℕ → Route
route_in b a t = route (byte_at b (start_at a t)) (byte_at b (end_at a t))

-- the line; its places for posts from P on and trains from T on are 0
abbrev pub line_in : List ℕ → Line
line_in b = record {
  posts = posts_of b;
  tracks = padded 8 (posts_of b) (λ p. byte_at b (count_at p)) 0;
  sidings = sidings_of b;
  trains = trains_of b;
  routes = padded 6 (trains_of b) (route_in b (trains_in b)) no_route;
}

-- ---- when a book is refused

-- "Checks in order: .. 14 if under 4 bytes or the length is wrong; 4; 15; 14 if under 5 + P bytes;", where "Edition 2's
-- length checks count the added byte", and positions are "counted in its length checks". Who asks for positions reads
-- no edition below the last: "at 4's place, a version not 3 is 4".
abbrev pub posts_checks : ℕ → List ℕ → List Check
posts_checks least b =
    check number.torn_book (leb 4 (length b) && eqb (named_length b) (length b))
    ∷ check number.other_edition (in_range least last_edition (edition_of b))
    ∷ check number.posts (posts_in_range (line_in b))
    ∷ check number.torn_book (ltb (trains_in b) (length b))
    ∷ []

-- "16;"
abbrev pub tracks_checks : Line → List Check
tracks_checks l = check number.tracks (tracks_in_range l) ∷ []

-- "23, the byte names a post not in the line, stands directly after 16."
abbrev pub sidings_checks : Line → List Check
sidings_checks l = check number.sidings (sidings_on_line l) ∷ []

-- "27, positions not from 0, not strictly rising, or above 8,388,607, stands after 23"
abbrev pub positions_checks : ℕ → List ℕ → List Check
positions_checks n ps = check number.positions (positions_in_order n ps) ∷ []

-- "17; 14 if the total differs;"
abbrev pub trains_checks : List ℕ → List Check
trains_checks b =
    check number.trains (trains_in_range (line_in b))
    ∷ check number.torn_book (eqb (length b) (total (trains_in b) (trains_of b)))
    ∷ []

-- "18;"
abbrev pub routes_checks : Line → List Check
routes_checks l = check number.off_the_line (routes_on_line l) ∷ []

-- all of these, in this order, for editions from `least` on. What needs a table or a placing is the opening's: 2 before
-- them, 19 and 20 after them.
abbrev pub book_checks_from : ℕ → List ℕ → List Check
book_checks_from least b =
    posts_checks least b
    ++ tracks_checks (line_in b)
    ++ sidings_checks (line_in b)
    ++ positions_checks (positioned_in b) (positions_of b)
    ++ trains_checks b
    ++ routes_checks (line_in b)

-- for every edition
abbrev pub book_checks : List ℕ → List Check
book_checks b = book_checks_from first_edition b

-- ---- reading a book

abbrev pub empty_line : Line
empty_line = record { posts = 0; tracks = replicate 8 0; sidings = 0; trains = 0; routes = replicate 6 no_route }

abbrev pub accepted_book : Line → List ℕ → Reading
accepted_book l ps = record { outcome = Ok tt; line = l; positions = ps }

abbrev pub refused_by : ℕ → Reading
refused_by n = record { outcome = Err n; line = empty_line; positions = replicate 8 0 }

unfoldable pub read_from : ℕ → List ℕ → Reading
read_from least b =
    unless_refused (refusal (book_checks_from least b)) (accepted_book (line_in b) (positions_of b)) refused_by

-- a book of any edition, and one that has positions
abbrev pub read_book : List ℕ → Reading
read_book b = read_from first_edition b

abbrev pub read_positioned : List ℕ → Reading
read_positioned b = read_from last_edition b

-- the paper's number for an outcome; 0 where a book is read
abbrev pub outcome_number : Result (Unit {0}) ℕ → ℕ
outcome_number (Ok done) = 0
outcome_number (Err n) = n

-- ---- the bytes of a line and its positions in edition v

-- start and end of each train
unfoldable pub route_bytes : List Route → List ℕ
route_bytes [] = []
route_bytes (r ∷ rs) = r.start.0 ∷ r.end.0 ∷ route_bytes rs

-- four bytes of each position
unfoldable pub position_bytes : List ℕ → List ℕ
position_bytes [] = []
position_bytes (x ∷ xs) = long_word_bytes x ++ position_bytes xs

-- what the edition adds
unfoldable pub added_bytes : ℕ → Line → List ℕ → List ℕ
added_bytes v l ps =
    cond (eqb v first_edition) []
    (l.sidings ∷ position_bytes (tabulate (positioned v l.posts) (metres_at ps)))

-- what stands after the length
unfoldable pub body_of : ℕ → Line → List ℕ → List ℕ
body_of v l ps =
    v ∷ l.posts
    ∷ tabulate l.posts (tracks_at l)
    ++ (added_bytes v l ps ++ (l.trains ∷ route_bytes (tabulate l.trains (route_of l))))

unfoldable pub book_bytes : ℕ → Line → List ℕ → List ℕ
book_bytes v l ps = let n = length (body_of v l ps) in n / 256 ∷ n % 256 ∷ body_of v l ps
