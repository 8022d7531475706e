-- What is shown of the line book, beside the contracts of `book::read` and `book::read_positioned`, of sidings and of
-- positions. `proofs/Claims.antt`, `proofs/Sidings.antt` and `proofs/Positions.antt` have the proofs.
use Rattle.std.specs.Prelude.{◌≡◌, ◌≢◌, true, false, List, ℕ, ◌+◌, ◌*◌, ◌≤◌, ◌<◌, length}
use Rattle.common.specs.Bits.{bit_at}
use Rattle.common.specs.Check.{refusal}
use Rattle.line.specs.Refusal as number
use Rattle.line.specs.Sorts.{Line}
use Rattle.line.specs.Line.{no_route, route_of, tracks_at, in_range, names_posts, tracks_in_range, sidings_on_line}
use Rattle.line.specs.Line.{well_formed}
use Rattle.line.specs.Positions.{metres_at, positions_in_order}
use Rattle.line.specs.Book.{first_edition, last_edition, positioned, trains_at, total, byte_at, named_length}
use Rattle.line.specs.Book.{edition_of, positioned_in, positions_of, line_in, posts_checks, accepted_book, read_from}
use Rattle.line.specs.Book.{read_positioned, outcome_number, book_bytes}
use Rattle.line.specs.Holding.{standing, holds_post}

-- a line whose places for posts from P on and trains from T on are 0
pub record Padded (l : Line) : Type 0 where
  pub eight : length l.tracks ≡ 8
  pub six : length l.routes ≡ 6
  pub no_tracks : (p : ℕ) → l.posts ≤ p → tracks_at l p ≡ 0
  pub no_routes : (t : ℕ) → l.trains ≤ t → route_of l t ≡ no_route

-- edition v can say what the line and the positions are: "Edition 1 books have no sidings", and only edition 3 has
-- positions
pub record Says (v : ℕ) (l : Line) (ps : List ℕ) : Type 0 where
  pub known : in_range first_edition last_edition v ≡ true
  pub no_sidings : v ≡ first_edition → l.sidings ≡ 0
  pub places : length ps ≡ 8
  pub in_order : positions_in_order (positioned v l.posts) ps ≡ true
  pub no_positions : (p : ℕ) → positioned v l.posts ≤ p → metres_at ps p ≡ 0

-- the longest book, of edition 3, eight posts and six trains
abbrev pub longest : ℕ
longest = total (trains_at 8 (1 + 4 * 8)) 6

-- what is true of a line l and positions ps that the bytes b are read as
pub record ReadAs (b : List ℕ) (l : Line) (ps : List ℕ) : Type 0 where
  pub formed : well_formed l ≡ true
  pub padded : Padded l
  -- only the bytes of a line are read as it, in the edition that the book names; a position's four are one number, so
  -- that in edition 3 they are told apart only where they are bytes
  pub edition : Says (edition_of b) l ps
  pub bytes : (edition_of b ≡ last_edition → (i : ℕ) → byte_at b i < 256) → book_bytes (edition_of b) l ps ≡ b
  pub short : length b ≤ longest

-- of a book read for editions from `least` on
pub record LineBook : Type 0 where
  pub only : (least : ℕ) → first_edition ≤ least → (b : List ℕ) (l : Line) (ps : List ℕ)
      → read_from least b ≡ accepted_book l ps → (least ≤ edition_of b) × ReadAs b l ps
  -- the bytes of a line and its positions read back as these, in each edition that can say them
  pub back : (least v : ℕ) → least ≤ v → (l : Line) (ps : List ℕ) → Says v l ps → well_formed l ≡ true → Padded l
      → read_from least (book_bytes v l ps) ≡ accepted_book l ps
  -- "Read alone, without table or placing, a book cannot meet 2, 19 or 20."
  pub not_2 : (least : ℕ) (b : List ℕ) → outcome_number (read_from least b).outcome ≢ number.short_store
  pub not_19 : (least : ℕ) (b : List ℕ) → outcome_number (read_from least b).outcome ≢ number.overfull
  pub not_20 : (least : ℕ) (b : List ℕ) → outcome_number (read_from least b).outcome ≢ number.no_way_through

-- which siding bytes a line of n posts can have, and which trains a siding frees of their track
pub record Sidings : Type 0 where
  -- "the byte names a post not in the line": one that passes has no bit from n on, and one without such a bit passes
  pub only_posts : (n set : ℕ) → names_posts n set ≡ true → (p : ℕ) → n ≤ p → bit_at set p ≡ false
  pub all_posts : (n set : ℕ) → ((p : ℕ) → n ≤ p → bit_at set p ≡ false) → names_posts n set ≡ true
  -- 23 "stands directly after 16": once the checks up to the number of posts pass, 16 comes first, and then 23
  pub tracks_first : (least : ℕ) (b : List ℕ) → refusal (posts_checks least b) ≡ 0 → tracks_in_range (line_in b) ≡ false
      → outcome_number (read_from least b).outcome ≡ number.tracks
  pub then_sidings : (least : ℕ) (b : List ℕ) → refusal (posts_checks least b) ≡ 0 → tracks_in_range (line_in b) ≡ true
      → sidings_on_line (line_in b) ≡ false → outcome_number (read_from least b).outcome ≡ number.sidings
  -- "A train standing at its end there holds no track."
  pub put_away : (set e : ℕ) → bit_at set e ≡ true → (x : ℕ) → holds_post (standing set e e) x ≡ false
  -- "Another train holds a track at its present post.": short of its end, and where there is no siding
  pub short_of_end : (set e p : ℕ) → p ≢ e → holds_post (standing set e p) p ≡ true
  pub no_siding : (set e p : ℕ) → bit_at set p ≡ false → holds_post (standing set e p) p ≡ true

-- what positions are in order, and where 27 stands
pub record Positions : Type 0 where
  -- "positions not from 0, not strictly rising, or above 8,388,607": those of n posts that pass are none of these, for
  -- any two posts
  pub from_zero : (n : ℕ) (ps : List ℕ) → positions_in_order n ps ≡ true → metres_at ps 0 ≡ 0
  pub rising : (n : ℕ) (ps : List ℕ) → positions_in_order n ps ≡ true
      → (p q : ℕ) → p < q → q < n → metres_at ps p < metres_at ps q
  pub bounded : (n : ℕ) (ps : List ℕ) → positions_in_order n ps ≡ true → (p : ℕ) → p < n → metres_at ps p ≤ 8388607
  -- and those that are none of these pass
  pub all_such : (n : ℕ) (ps : List ℕ) → metres_at ps 0 ≡ 0
      → ((p q : ℕ) → p < q → q < n → metres_at ps p < metres_at ps q)
      → ((p : ℕ) → p < n → metres_at ps p ≤ 8388607) → positions_in_order n ps ≡ true
  -- 27 "stands after 23", and before 17
  pub then_positions : (least : ℕ) (b : List ℕ) → refusal (posts_checks least b) ≡ 0
      → tracks_in_range (line_in b) ≡ true
      → sidings_on_line (line_in b) ≡ true → positions_in_order (positioned_in b) (positions_of b) ≡ false
      → outcome_number (read_from least b).outcome ≡ number.positions
  -- editions 1 and 2 have no positions, and nothing that 27 could refuse
  pub only_last : (least : ℕ) (b : List ℕ) → edition_of b ≢ 3
      → outcome_number (read_from least b).outcome ≢ number.positions
  -- who asks for positions reads edition 3 alone: a book whole in its length and of another version is 4
  pub asked_for_lem : (b : List ℕ) → 4 ≤ length b → named_length b ≡ length b → edition_of b ≢ 3
      → outcome_number (read_positioned b).outcome ≡ number.other_edition
