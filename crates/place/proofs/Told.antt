-- What is told of a number of metres, and that nothing else could be.
use mathlib.Core.Path.{◌≡◌, refl, ap, ◌∙◌, subst}
use mathlib.Core.Logic.{◌≢◌}
use mathlib.Core.Bool.{true, false}
use mathlib.Core.List.{List}
use Prim.Native.Nat.{ℕ, ◌+◌, ◌-◌, ◌*◌, ◌≤◌, ◌<◌}
use native.Mathlib.Omega.{arith}
use lib.Ieee.{Float}
use lib.Ieee.Positive.{num, den}
use borrow.Author.Tests.{le-leb, eqb-true, eq-eqb, ne_eqb}
use Rattle.common.proofs.Tests.{and_both, by_cases, by_equality, by_order}
use Rattle.line.specs.Refusal as number
use Rattle.line.specs.Positions.{metres_at}
use Rattle.line.proofs.InOrder.{from_zero_lem}
use Rattle.place.specs.Metres.{from_zero, equals, within_line, nearer}
use Rattle.place.specs.Locating.{Metres, Place, At, In, Nothing, Result, Ok, Refused, at, in_section, last_reached}
use Rattle.place.specs.Locating.{placed_at}
use Rattle.place.specs.Locating.{Surveyed, on_survey}
use Rattle.place.specs.Claims.{IsAt, IsBetween, Nearest}
use Rattle.place.proofs.Reached.{reached_at_most, next_past, not_past}
use Rattle.place.proofs.Placed.{number_from_zero, post_on_line, is_at, past_it, short, before_next, is_in}
use Rattle.place.proofs.Nearest.{farther, no_farther, nearest_of_all, one_nearest}
use Rattle.place.proofs.Cases.{metres_off, metres_on}

-- ---- places of different sorts, and places of one sort by their numbers

abbrev sort : Result Place ℕ → ℕ
sort (Ok (At p)) = 0
sort (Ok (In i q)) = 1
sort (Ok Nothing) = 2
sort (Refused k) = 3

abbrev first : Result Place ℕ → ℕ
first (Ok (At p)) = p.0
first (Ok (In i q)) = i.0
first (Ok Nothing) = 0
first (Refused k) = k

abbrev second : Result Place ℕ → ℕ
second (Ok (At p)) = p.0
second (Ok (In i q)) = q.0
second (Ok Nothing) = 0
second (Refused k) = k

other_sort : {A : Type 0} (a b : Result Place ℕ) → a ≡ b → sort a ≢ sort b → A
other_sort a b e h = absurd (h (ap sort e))

module _ (n : ℕ) (ps : List ℕ) (x : Float) where
  -- at a post, in a section with the nearer of its posts, or off the line
  pub data Told : Result Place ℕ → Type 0 where
    at_one : (p : ℕ) → p < n → IsAt ps x p → Told (Ok (at p))
    in_one : (i : ℕ) → i + 1 < n → IsBetween ps x i
        → Told (Ok (in_section i (nearer x i (metres_at ps i) (metres_at ps (i + 1)))))
    off_line : within_line (metres_at ps (n - 1)) x ≡ false → Told (Refused number.no_place)

  module _ (s : Surveyed n ps) where
    on_line_told : within_line (metres_at ps (n - 1)) x ≡ true → Told (Ok (placed_at n ps x))
    on_line_told on =
        let p = last_reached ps x (n - 1) in
        by_cases (equals x (metres_at ps p))
        (λ e.
        subst Told (ap Ok (is_at n ps x s on p refl e))
        (at_one p (post_on_line n ps x s on p refl)
        (record { number = number_from_zero n ps x s on; equal = eqb-true _ _ e })))
        (λ e.
        subst Told (ap Ok (is_in n ps x s on p refl e))
        (in_one p (short n ps x s on p refl e)
        (record {
          from_zero = number_from_zero n ps x s on;
          after = past_it n ps x s on p refl e;
          before = before_next n ps x s on p refl e;
        })))

    pub told : Told (on_survey n ps (Metres x))
    told = by_cases (within_line (metres_at ps (n - 1)) x)
        (λ on. subst Told (metres_on n ps x on) (on_line_told on))
        (λ off. subst Told (metres_off n ps x off) (off_line off))

    -- ---- a place that would do is the one told

    -- p is the last post that is not past the number
    reached_is : (p : ℕ) → p < n → metres_at ps p * den x ≤ num x
        → (p + 1 < n → num x < metres_at ps (p + 1) * den x) → p ≡ last_reached ps x (n - 1)
    reached_is p h at_least_lem next =
        let r = last_reached ps x (n - 1) in
        let few = reached_at_most ps x (n - 1) in
        by_equality p r
        (λ e. e)
        (λ e. by_order p r
        (λ up.
        let reached-it = not_past ps x (from_zero_lem n ps s.ordered) (n - 1) in
        let far = no_farther n ps x s.ordered (p + 1) r (omega arith) (omega (arith, few, s.some)) in
        absurd (let y : ⊥ = omega (arith, next (omega (arith, few, s.some)), far, reached-it) in y))
        (λ down.
        let past = next_past ps x (n - 1) (omega arith) in
        let far = no_farther n ps x s.ordered (r + 1) p (omega arith) h in
        absurd (let y : ⊥ = omega (arith, past, far, at_least_lem) in y)))

    on_the_line : (p : ℕ) → p < n → from_zero x ≡ true → num x ≤ metres_at ps p * den x
        → within_line (metres_at ps (n - 1)) x ≡ true
    on_the_line p h number at_most =
        let far = no_farther n ps x s.ordered p (n - 1) (omega arith) (omega (arith, s.some)) in
        let not_past_last : num x ≤ metres_at ps (n - 1) * den x = omega (arith, at_most) in
        and_both _ _ number (le-leb _ _ not_past_last)

    pub told_at : (p : ℕ) → p < n → IsAt ps x p → Ok (at p) ≡ on_survey n ps (Metres x)
    told_at p h own =
        let on = on_the_line p h own.number (omega (arith, own.equal)) in
        let next : p + 1 < n → num x < metres_at ps (p + 1) * den x
        = λ k. omega (arith, own.equal, farther n ps x s.ordered p (p + 1) (omega arith) k) in
        ap Ok (is_at n ps x s on p (reached_is p h (omega (arith, own.equal)) next) (eq-eqb _ _ own.equal))
        ∙ metres_on n ps x on

    pub told_in : (i q : ℕ) → i + 1 < n → IsBetween ps x i → Nearest n ps x q
        → Ok (in_section i q) ≡ on_survey n ps (Metres x)
    told_in i q h b nearest =
        let on = on_the_line (i + 1) h b.from_zero (omega (arith, b.before)) in
        let is = reached_is i (omega arith) (omega (arith, b.after)) (λ k. b.before) in
        let off = ne_eqb (num x) (metres_at ps i * den x) (λ e. omega (arith, b.after)) in
        ap (λ (z : ℕ). Ok (in_section i z))
        (one_nearest n ps x s.ordered _ _ nearest (nearest_of_all n ps x s.ordered i h b))
        ∙ ap Ok (is_in n ps x s on i is off)
        ∙ metres_on n ps x on

    -- ---- and what is told would do

    pub only_at : (a : Result Place ℕ) → Told a → (p : ℕ) → a ≡ Ok (at p) → (p < n) × IsAt ps x p
    only_at _ (at_one r h own) p e = subst (λ (z : ℕ). (z < n) × IsAt ps x z) (ap first e) (h, own)
    only_at _ (in_one i h b) p e = other_sort _ _ e (λ z. omega arith)
    only_at _ (off_line h) p e = other_sort _ _ e (λ z. omega arith)

    pub only_in : (a : Result Place ℕ) → Told a → (i q : ℕ) → a ≡ Ok (in_section i q)
        → (i + 1 < n) × IsBetween ps x i × Nearest n ps x q
    only_in _ (at_one r h own) i q e = other_sort _ _ e (λ z. omega arith)
    only_in _ (in_one r h b) i q e = (
      subst (λ (z : ℕ). z + 1 < n) (ap first e) h,
      subst (IsBetween ps x) (ap first e) b,
      subst (Nearest n ps x) (ap second e) (nearest_of_all n ps x s.ordered r h b),
    )
    only_in _ (off_line h) i q e = other_sort _ _ e (λ z. omega arith)
