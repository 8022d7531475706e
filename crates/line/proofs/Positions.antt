-- The claims about positions: which are in order, and where 27 and 4 stand among the checks.
use mathlib.Core.Path.{◌≡◌, refl, ◌∙◌}
use mathlib.Core.Logic.{◌≢◌}
use mathlib.Core.Bool.{true, false}
use mathlib.Core.List.{List}
use Prim.Native.Nat.{ℕ, ◌≤◌, ◌<◌}
use native.Mathlib.Nat.{not-suc-le-zero}
use native.Mathlib.Omega.{arith}
use lib.ListN.{length}
use borrow.Author.Tests.{le-leb, eq-eqb}
use Rattle.common.specs.Check.{refusal}
use Rattle.common.proofs.Tests.{and_both, by_order}
use Rattle.common.proofs.Check.{stop, pass, refusal_is, pass_all}
use Rattle.common.proofs.Tabulate.{past_padded}
use Rattle.line.specs.Refusal as number
use Rattle.line.specs.Line.{tracks_in_range, sidings_on_line}
use Rattle.line.specs.Positions.{metres_at, most_metres, positions_in_order}
use Rattle.line.specs.Book.{last_edition, named_length, posts_of, edition_of, positioned_in, positions_of, line_in}
use Rattle.line.specs.Book.{posts_checks, read_from, read_positioned, outcome_number}
use Rattle.line.specs.Claims.{Positions}
use Rattle.line.proofs.WellFormed.{below_range, above_range}
use Rattle.line.proofs.InOrder.{in_order_parts, from_zero_lem, bounded, rising}
use Rattle.line.proofs.Bytes.{positioned_none}
use Rattle.line.proofs.ReadingLaws.{read_number, not_met}

all_such : (n : ℕ) (ps : List ℕ) → metres_at ps 0 ≡ 0
    → ((p q : ℕ) → p < q → q < n → metres_at ps p < metres_at ps q)
    → ((p : ℕ) → p < n → metres_at ps p ≤ most_metres) → positions_in_order n ps ≡ true
all_such n ps first up most = in_order_parts n ps first (λ p h. up p _ (omega arith) (omega arith)) most

then_positions : (least : ℕ) (b : List ℕ) → refusal (posts_checks least b) ≡ 0 → tracks_in_range (line_in b) ≡ true
    → sidings_on_line (line_in b) ≡ true → positions_in_order (positioned_in b) (positions_of b) ≡ false
    → outcome_number (read_from least b).outcome ≡ number.positions
then_positions least b first k s h =
    read_number least b ∙ refusal_is (pass_all (posts_checks least b) refl first (pass k (pass s (stop h))))

-- without positions there are 0 everywhere, which is in order
none_in_order : (b : List ℕ) → edition_of b ≢ last_edition
    → positions_in_order (positioned_in b) (positions_of b) ≡ true
none_in_order b e =
    let none : positioned_in b ≡ 0 = positioned_none (edition_of b) (posts_of b) e in
    in_order_parts (positioned_in b) (positions_of b)
    (past_padded 8 (positioned_in b) _ 0 0 (omega arith))
    (λ p h. absurd (not-suc-le-zero (let z : p < 0 = omega arith in z)))
    (λ p h. absurd (not-suc-le-zero (rw none at h)))

only_last : (least : ℕ) (b : List ℕ) → edition_of b ≢ last_edition
    → outcome_number (read_from least b).outcome ≢ number.positions
only_last least b e = not_met least b number.positions refl (and_both _ _ (none_in_order b e) refl)

asked_for_lem : (b : List ℕ) → 4 ≤ length b → named_length b ≡ length b → edition_of b ≢ last_edition
    → outcome_number (read_positioned b).outcome ≡ number.other_edition
asked_for_lem b long right e =
    let whole = and_both _ _ (le-leb 4 (length b) long) (eq-eqb (named_length b) (length b) right) in
    let v = edition_of b in
    let other = by_order v last_edition
    (λ h. below_range last_edition last_edition v h)
    (λ h. above_range last_edition last_edition v (omega arith)) in
    read_number last_edition b ∙ refusal_is (pass whole (stop other))

pub positions : Positions
positions = record {
  from_zero = from_zero_lem;
  rising = rising;
  bounded = bounded;
  all_such = all_such;
  then_positions = then_positions;
  only_last = only_last;
  asked_for_lem = asked_for_lem;
}
