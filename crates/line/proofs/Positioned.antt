-- A book that was read for its positions.
use mathlib.Core.Path.{◌≡◌, ap}
use mathlib.Core.Bool.{true}
use mathlib.Core.List.{List}
use Prim.Native.Nat.{ℕ, ◌≤◌}
use native.Mathlib.Omega.{arith}
use Rattle.common.specs.Check.{refusal}
use Rattle.line.specs.Sorts.{Line}
use Rattle.line.specs.Positions.{positions_in_order}
use Rattle.line.specs.Book.{first_edition, last_edition, edition_of, posts_of, positions_of, book_checks_from}
use Rattle.line.specs.Book.{accepted_book, read_positioned}
use Rattle.line.specs.Claims.{ReadAs}
use Rattle.line.proofs.WellFormed.{high, well_formed_lem}
use Rattle.line.proofs.Bytes.{positioned_last}
use Rattle.line.proofs.ReadingLaws.{read_line}
use Rattle.line.proofs.Claims.{line_book}

module _ (b : List ℕ) (l : Line) (ps : List ℕ) (is_read : read_positioned b ≡ accepted_book l ps) where
  pub book_passed : refusal (book_checks_from last_edition b) ≡ 0
  book_passed = (read_line last_edition b l ps is_read).0

  pub posts_same : l.posts ≡ posts_of b
  posts_same = ap (λ (m : Line). m.posts) (read_line last_edition b l ps is_read).1

  pub positions_same : ps ≡ positions_of b
  positions_same = (read_line last_edition b l ps is_read).2

  told : (last_edition ≤ edition_of b) × ReadAs b l ps
  told = line_book.only last_edition (omega arith) b l ps is_read

  pub some_posts : 2 ≤ l.posts
  some_posts = (well_formed_lem l told.1.formed).some_posts

  pub few_posts : l.posts ≤ 8
  few_posts = (well_formed_lem l told.1.formed).few_posts

  -- every post has a position, and they are in order
  pub in_order : positions_in_order l.posts ps ≡ true
  in_order =
      let known = high first_edition last_edition (edition_of b) told.1.edition.known in
      let third : edition_of b ≡ last_edition = omega (arith, told.0) in
      rw (positioned_last (edition_of b) l.posts third) at told.1.edition.in_order
