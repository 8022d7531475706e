-- The claims about place reports.
use mathlib.Core.Path.{◌≡◌, refl, sym, ap, ◌∙◌, subst}
use mathlib.Core.Logic.{◌≢◌}
use mathlib.Core.Bool.{Bool, true, false, not, and-false, or-true, true≢false}
use mathlib.Core.List.{List}
use Prim.Native.Nat.{ℕ, zero, suc, ◌-◌, ◌*◌, ◌<◌}
use native.Mathlib.Nat.{zero-mul}
use native.Mathlib.Omega.{arith}
use lib.IntN.{ℤ}
use lib.Dec.{ltb}
use lib.Ieee.{Float, nan, inf, fin, up}
use lib.Ieee.Positive.{num, den}
use borrow.Author.Tests.{le-leb, lt-leb, ne_eqb, ltb-true}
use Rattle.common.specs.Check.{refusal, unless_refused}
use Rattle.common.proofs.Tests.{and_both, by_equality}
use Rattle.common.proofs.Check.{clear, not_given, accepts, number_told}
use Rattle.line.specs.Refusal as number
use Rattle.line.specs.declared.line.Line.{Line}
use Rattle.line.specs.Positions.{metres_at}
use Rattle.line.specs.Book.{last_edition, posts_of, positions_of, line_in, book_checks_from}
use Rattle.line.specs.Book.{accepted_book, refused_by, read_from, read_positioned, outcome_number}
use Rattle.line.proofs.InOrder.{from_zero_lem}
use Rattle.line.proofs.ReadingLaws.{read_number}
use Rattle.line.proofs.Positions.{positions}
use Rattle.std.specs.Result.{is_ok}
use Rattle.place.specs.Metres.{from_zero, within_line}
use Rattle.place.specs.Locating.{Report, Metres, Missing, Place, Result, Ok, Refused, at}
use Rattle.place.specs.Locating.{placed, place_checks, place_refusal, place_of, Surveyed, on_survey}
use Rattle.place.specs.Claims.{IsAt, somewhere, Located, PlaceReports}
use Rattle.place.proofs.Cases.{post_off, post_on, metres_off, is_missing, is_surveyed, by_survey}
use Rattle.place.proofs.Cases.{refused_book_lem}
use Rattle.place.proofs.Nearest.{nearest_own}
use Rattle.place.proofs.Told.{Told, at_one, in_one, off_line, told, told_at, told_in}
use Rattle.place.proofs.Told.{only_at, only_in}
use Rattle.place.proofs.SameValue.{same_place}

-- ---- numbers off the line, and zero

off_past : (m : ℕ) (x : Float) → m * den x < num x → within_line m x ≡ false
off_past m x h = rw (lt-leb (num x) (m * den x) h) (and-false (from_zero x))

off_below : (m k : ℕ) (e : ℤ) → 0 < k → within_line m (fin true k e) ≡ false
off_below m k e h = rw (ne_eqb k 0 (λ z. omega arith))

zero_at : (ps : List ℕ) → metres_at ps 0 ≡ 0 → (s : Bool) (e : ℤ) → IsAt ps (fin s 0 e) 0
zero_at ps first s e = record {
  number = or-true (not s);
  equal = zero-mul (up e) ∙ sym (rw (first, zero-mul (den (fin s 0 e))));
}

-- ---- once the book is read

module _ (b : List ℕ) (l : Line) (ps : List ℕ) (is_read : read_positioned b ≡ accepted_book l ps) where
  s : Surveyed l.posts ps
  s = is_surveyed b l ps is_read

  by : (r : Report) → on_survey l.posts ps r ≡ place_of b r
  by r = by_survey b r l ps is_read

  refused_off : (x : Float) → within_line (metres_at ps (l.posts - 1)) x ≡ false
      → place_of b (Metres x) ≡ Refused number.no_place
  refused_off x h = sym (metres_off l.posts ps x h ∙ by (Metres x))

  on_line : (x : Float) (a : Result Place ℕ) → Told l.posts ps x a → within_line (metres_at ps (l.posts - 1)) x ≡ true
      → somewhere a ≡ true
  on_line x _ (at_one p h own) on = refl
  on_line x _ (in_one i h between) on = refl
  on_line x _ (off_line off) on = sym off ∙ on

  place_told : (x : Float) → Told l.posts ps x (place_of b (Metres x))
  place_told x = subst (Told l.posts ps x) (by (Metres x)) (told l.posts ps x s)

  at_post : (x : Float) (p : ℕ) → p < l.posts → IsAt ps x p → place_of b (Metres x) ≡ Ok (at p)
  at_post x p h own = sym (told_at l.posts ps x s p h own ∙ by (Metres x))

  located : Located b l ps
  located = record {
    at_post = at_post;
    only_at = λ x p. only_at l.posts ps x s _ (place_told x) p;
    in_section_lem = λ x i q h between nearest. sym (told_in l.posts ps x s i q h between nearest ∙ by (Metres x));
    only_in = λ x i q. only_in l.posts ps x s _ (place_told x) i q;
    own_nearest = λ x p. nearest_own l.posts ps x s.ordered p;
    told = λ x z h. on_line x _ (place_told x) (and_both _ _ z (le-leb _ _ h));
    zero_either_way = λ sign e.
        at_post (fin sign 0 e) 0 (omega (arith, s.some)) (zero_at ps (from_zero_lem l.posts ps s.ordered) sign e);
    itself = λ p h. sym (post_on l.posts ps p h ∙ by _);
    nothing = sym (is_missing l.posts ps ∙ by Missing);
    other_post = λ p h. sym (post_off l.posts ps p h ∙ by _);
    not_a_number = refused_off nan refl;
    infinite = λ sign. refused_off (inf sign) refl;
    below_zero = λ m e h. refused_off _ (off_below _ m e h);
    past_last = λ x h. refused_off x (off_past _ x h);
  }

-- ---- the number of a report

no_number : (a : Result Place ℕ) → ((k : ℕ) → a ≢ Refused k) → place_refusal a ≡ 0
no_number (Ok a) h = refl
no_number (Refused k) h = absurd (h k refl)

some_number : (k : ℕ) (a : Place) (n : ℕ) → unless_refused k (Ok a) Refused ≡ Refused n → 0 < n
unfolding unless_refused
some_number zero a n e = absurd (true≢false (ap is_ok e))
some_number (suc k) a n e = let same : suc k ≡ n = ap place_refusal e in omega arith

module _ (b : List ℕ) (r : Report) where
  pub place_number : place_refusal (place_of b r) ≡ refusal (place_checks b r)
  unfolding place_of
  place_number =
      number_told place_refusal (Ok (placed (posts_of b) (positions_of b) r)) Refused refl (λ k. refl)
      (refusal (place_checks b r))

  own_number : (n : ℕ) → place_of b r ≡ Refused n → place_refusal (place_of b r) ≡ n
  own_number n e = ap place_refusal e

  numbered : (n : ℕ) → place_of b r ≡ Refused n → 0 < n
  unfolding place_of
  numbered n e = some_number _ _ n e

  book_first : (n : ℕ) → outcome_number (read_positioned b).outcome ≡ n → n ≢ 0 → place_of b r ≡ Refused n
  book_first n e h = sym (refused_book_lem b r n (sym (read_number last_edition b) ∙ e) (omega arith))

  not_met : (n : ℕ) → ltb 0 n ≡ true → clear n (place_checks b r) ≡ true → place_refusal (place_of b r) ≢ n
  not_met n h k = rw place_number (not_given n (place_checks b r) (ltb-true 0 n h) k)

-- ---- numbers of the same value

same_value : (b : List ℕ) (x y : Float) → from_zero x ≡ true → from_zero y ≡ true → num x * den y ≡ num y * den x
    → place_of b (Metres x) ≡ place_of b (Metres y)
unfolding read_from
same_value b x y zx zy same =
    let k = refusal (book_checks_from last_edition b) in
    by_equality k 0
    (λ e.
    let is_read = accepts (accepted_book (line_in b) (positions_of b)) refused_by e in
    sym (by b (line_in b) (positions_of b) is_read (Metres x))
    ∙ same_place x y same (posts_of b) (positions_of b) (is_surveyed b (line_in b) (positions_of b) is_read) zy zx
    ∙ by b (line_in b) (positions_of b) is_read (Metres y))
    (λ e.
    sym (refused_book_lem b (Metres x) k refl (omega arith)) ∙ refused_book_lem b (Metres y) k refl (omega arith))

pub place_reports : PlaceReports
place_reports = record {
  located = located;
  same_value = same_value;
  book_first = book_first;
  other_edition_lem = λ b r long right e.
      book_first b r number.other_edition (positions.asked_for_lem b long right e) (λ z. omega arith);
  finite = λ m e. refl;
  past = λ x m h. omega arith;
  before = λ x m h. omega arith;
  no_number = λ b r. no_number (place_of b r);
  own_number = own_number;
  numbered = numbered;
  not_1 = λ b r. not_met b r _ refl refl;
  not_2 = λ b r. not_met b r _ refl refl;
  not_19 = λ b r. not_met b r _ refl refl;
  not_20 = λ b r. not_met b r _ refl refl;
}
