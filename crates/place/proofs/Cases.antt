-- The answer in the order in which the code tests the report: a law for each case.
use mathlib.Core.Path.{◌≡◌, refl, sym, ap}
use mathlib.Core.Bool.{true, false}
use mathlib.Core.List.{List}
use Prim.Native.Nat.{ℕ, ◌-◌, ◌≤◌, ◌<◌}
use native.Mathlib.Omega.{arith}
use lib.Ieee.{Float}
use borrow.Author.Tests.{lt-ltb, le-ltb}
use Rattle.common.specs.Check.{Check, refusal}
use Rattle.common.proofs.Check.{none, stop, pass, second_part, accepted_by, refused_by_lem}
use Rattle.line.specs.Refusal as number
use Rattle.line.specs.declared.sorts.PostNo.{PostNo}
use Rattle.line.specs.declared.line.Line.{Line}
use Rattle.line.specs.declared.line.Reading.{Reading}
use Rattle.line.specs.Positions.{metres_at}
use Rattle.line.specs.Book.{last_edition, book_checks_from, posts_of, positions_of, accepted_book, read_positioned}
use Rattle.line.specs.Book.{outcome_number}
use Rattle.line.proofs.ReadingLaws as reading
use Rattle.line.proofs.Positioned.{book_passed, posts_same, positions_same, some_posts, few_posts, in_order}
use Rattle.place.specs.Metres.{within_line}
use Rattle.place.specs.Locating.{Report, Post, Metres, Missing, At, Nothing, Ok, Refused, placed_at, placed}
use Rattle.place.specs.Locating.{report_checks, place_of, Surveyed, on_survey}

-- ---- once the book is read

module _ (n : ℕ) (ps : List ℕ) where
  pub post_off : (p : PostNo) → n ≤ p.0 → Refused number.wrong_post ≡ on_survey n ps (Post p)
  post_off p h = refused_by_lem (Ok (At p)) Refused (omega arith) (stop (le-ltb p.0 n h))

  pub post_on : (p : PostNo) → p.0 < n → Ok (At p) ≡ on_survey n ps (Post p)
  post_on p h = accepted_by (Ok (At p)) Refused (pass (lt-ltb p.0 n h) (pass refl none))

  pub metres_off : (x : Float) → within_line (metres_at ps (n - 1)) x ≡ false
      → Refused number.no_place ≡ on_survey n ps (Metres x)
  metres_off x h = refused_by_lem (Ok (placed_at n ps x)) Refused (omega arith) (pass refl (stop h))

  pub metres_on : (x : Float) → within_line (metres_at ps (n - 1)) x ≡ true
      → Ok (placed_at n ps x) ≡ on_survey n ps (Metres x)
  metres_on x h = accepted_by (Ok (placed_at n ps x)) Refused (pass refl (pass h none))

  pub is_missing : Ok Nothing ≡ on_survey n ps Missing
  is_missing = accepted_by (Ok Nothing) Refused (pass refl (pass refl none))

-- ---- with its book

pub is_surveyed : (b : List ℕ) (l : Line) (ps : List ℕ) → read_positioned b ≡ accepted_book l ps → Surveyed l.posts ps
is_surveyed b l ps is_read = record {
  some = some_posts b l ps is_read;
  few = few_posts b l ps is_read;
  ordered = in_order b l ps is_read;
}

module _ (b : List ℕ) (r : Report) where
  -- the checks after the book's
  abbrev after : List Check
  after = report_checks (posts_of b) (positions_of b) r

  -- the refusal of the report is that of the book
  pub refused_book_lem : (k : ℕ) → refusal (book_checks_from last_edition b) ≡ k → 0 < k → Refused k ≡ place_of b r
  unfolding place_of
  refused_book_lem = reading.refused_book_lem last_edition b after (Ok (placed (posts_of b) (positions_of b) r)) Refused

  -- the same by the outcome
  pub book_refused : (a : Reading) → a ≡ read_positioned b → (k : ℕ) → a.outcome ≡ Refused k
      → Refused k ≡ place_of b r
  unfolding place_of
  book_refused a is k stopped =
      reading.book_refused last_edition b after (Ok (placed (posts_of b) (positions_of b) r)) Refused
      a is k stopped k (sym (ap outcome_number stopped))

  module _ (l : Line) (ps : List ℕ) (is_read : read_positioned b ≡ accepted_book l ps) where
    pub by_survey : on_survey l.posts ps r ≡ place_of b r
    unfolding place_of
    by_survey =
        let own = second_part (book_checks_from last_edition b) after refl (book_passed b l ps is_read) in
        rw (posts_same b l ps is_read, positions_same b l ps is_read, own)
