-- What the reading of a book answers, and what that says of its checks.
use mathlib.Core.Path.{◌≡◌, refl, sym, ap, ◌∙◌}
use mathlib.Core.Logic.{◌≢◌}
use mathlib.Core.Bool.{Bool, true, false, true≢false}
use mathlib.Core.List.{List, ◌++◌}
use Prim.Native.Nat.{ℕ, zero, suc, ◌<◌}
use native.Mathlib.Omega.{arith}
use lib.Dec.{ltb}
use borrow.Author.Tests.{ltb-true}
use Rattle.std.specs.declared.result.Result.{Result}
use Rattle.std.specs.declared.result.Result.TheVariants.{Ok, Err}
use Rattle.common.specs.Check.{Check, refusal, unless_refused}
use Rattle.common.proofs.Tests.{by_equality}
use Rattle.common.proofs.Check.{clear, first_part, not_given, accepts, refuses, number_told}
use Rattle.line.specs.Sorts.{Line, Reading}
use Rattle.line.specs.Book.{positions_of, line_in, book_checks_from, accepted_book, refused_by, read_from}
use Rattle.line.specs.Book.{outcome_number}

accepted_of : (n : ℕ) (m l : Line) (qs ps : List ℕ)
    → unless_refused n (accepted_book m qs) refused_by ≡ accepted_book l ps → (n ≡ 0) × (l ≡ m) × (ps ≡ qs)
unfolding unless_refused
accepted_of zero m l qs ps e = (
  refl,
  sym (ap (λ (r : Reading). r.line) e),
  sym (ap (λ (r : Reading). r.positions) e),
)
accepted_of (suc n) m l qs ps e =
    let z : suc n ≡ 0 = ap (λ (r : Reading). outcome_number r.outcome) e in
    absurd (let y : ⊥ = omega arith in y)

abbrev is_read : Result (Unit {0}) ℕ → Bool
is_read (Ok done) = true
is_read (Err k) = false

module _ (least : ℕ) (b : List ℕ) where
  pub read_number : outcome_number (read_from least b).outcome ≡ refusal (book_checks_from least b)
  unfolding read_from
  read_number =
      number_told (λ (r : Reading). outcome_number r.outcome) (accepted_book (line_in b) (positions_of b)) refused_by
      refl (λ k. refl) (refusal (book_checks_from least b))

  pub read_line : (l : Line) (ps : List ℕ) → read_from least b ≡ accepted_book l ps
      → (refusal (book_checks_from least b) ≡ 0) × (l ≡ line_in b) × (ps ≡ positions_of b)
  unfolding read_from
  read_line l ps e = accepted_of (refusal (book_checks_from least b)) (line_in b) l (positions_of b) ps e

  pub not_met : (n : ℕ) → ltb 0 n ≡ true → clear n (book_checks_from least b) ≡ true
      → outcome_number (read_from least b).outcome ≢ n
  not_met n h k = rw read_number (not_given n (book_checks_from least b) (ltb-true 0 n h) k)

  -- by the outcome
  pub read_as : (r : Reading) → r ≡ read_from least b → r.outcome ≡ Ok tt
      → read_from least b ≡ accepted_book r.line r.positions
  read_as r e whole =
      sym e ∙ ap (λ (o : Result (Unit {0}) ℕ). record { outcome = o; line = r.line; positions = r.positions }) whole

  pub refused_some : (k : ℕ) → (read_from least b).outcome ≡ Err k → 0 < refusal (book_checks_from least b)
  unfolding read_from
  refused_some k stopped = by_equality (refusal (book_checks_from least b)) 0
      (λ e.
      let found = accepted_book (line_in b) (positions_of b) in
      let whole : read_from least b ≡ found = accepts found refused_by e in
      absurd (true≢false (sym (ap (λ (r : Reading). is_read r.outcome) whole) ∙ ap is_read stopped)))
      (λ h. omega arith)

  -- an answer whose checks begin with the book's: what the book is refused by, it is, by the number and by the outcome
  module _ {A : Type 0} (cs : List Check) (x : A) (f : ℕ → A) where
    pub refused_book_lem : (n : ℕ) → refusal (book_checks_from least b) ≡ n → 0 < n
        → f n ≡ unless_refused (refusal (book_checks_from least b ++ cs)) x f
    refused_book_lem n e h = rw (first_part (book_checks_from least b) cs (rw e h), e) (sym (refuses x f h))

    pub book_refused : (r : Reading) → r ≡ read_from least b → (k : ℕ) → r.outcome ≡ Err k
        → (n : ℕ) → n ≡ outcome_number r.outcome → f n ≡ unless_refused (refusal (book_checks_from least b ++ cs)) x f
    book_refused r e k stopped n is =
        let own : n ≡ refusal (book_checks_from least b)
        = is ∙ ap (λ (z : Reading). outcome_number z.outcome) e ∙ read_number in
        refused_book_lem n (sym own) (rw own (refused_some k (rw e at stopped)))
