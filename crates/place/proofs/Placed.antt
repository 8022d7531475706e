-- A number of metres on the line: at the last post that it has reached, or in the section past it.
use mathlib.Core.Path.{◌≡◌, sym, ap, ◌∙◌, subst}
use mathlib.Core.Logic.{◌≢◌}
use mathlib.Core.Bool.{true, false}
use mathlib.Core.List.{List}
use Prim.Native.Nat.{ℕ, ◌+◌, ◌-◌, ◌*◌, ◌≤◌, ◌<◌}
use native.Mathlib.Omega.{arith}
use lib.Ieee.{Float}
use lib.Ieee.Positive.{num, den}
use borrow.Author.Tests.{leb-true, eqb-false}
use Rattle.common.proofs.Tests.{and_left, and_right, by_equality}
use Rattle.line.specs.Positions.{metres_at}
use Rattle.line.proofs.InOrder.{from_zero_lem}
use Rattle.place.specs.Metres.{from_zero, equals, within_line, FromTo, nearer}
use Rattle.place.specs.Locating.{Surveyed, at, in_section, last_reached, place_past, placed_at}
use Rattle.place.proofs.Reached.{reached_at_most, next_past, not_past}

module _ (n : ℕ) (ps : List ℕ) (x : Float) (s : Surveyed n ps) (on : within_line (metres_at ps (n - 1)) x ≡ true) where
  pub number_from_zero : from_zero x ≡ true
  number_from_zero = and_left _ _ on

  not_past_last : num x ≤ metres_at ps (n - 1) * den x
  not_past_last = leb-true _ _ (and_right (from_zero x) _ on)

  -- q is the last post that it has reached
  module _ (q : ℕ) (is : q ≡ last_reached ps x (n - 1)) where
    pub post_on_line : q < n
    post_on_line = rw is (omega (arith, reached_at_most ps x (n - 1), s.some))

    pub at_or_past : metres_at ps q * den x ≤ num x
    at_or_past = rw is (not_past ps x (from_zero_lem n ps s.ordered) (n - 1))

    pub is_at : equals x (metres_at ps q) ≡ true → at q ≡ placed_at n ps x
    is_at own = sym (ap (place_past ps x) (sym is) ∙ rw own)

    -- it is not at that post
    module _ (off : equals x (metres_at ps q) ≡ false) where
      pub past_it : metres_at ps q * den x < num x
      past_it = let other : num x ≢ metres_at ps q * den x = eqb-false _ _ off in omega (arith, at_or_past)

      -- so there is a post past the number
      pub short : q + 1 < n
      short = by_equality q (n - 1)
          (λ e.
          let far : metres_at ps (n - 1) * den x < num x =
          subst (λ (r : ℕ). metres_at ps r * den x < num x) e past_it in
          omega (arith, not_past_last))
          (λ e. omega (arith, post_on_line))

      pub before_next : num x < metres_at ps (q + 1) * den x
      before_next = rw is (next_past ps x (n - 1) (rw (← is) (omega (arith, short))))

      pub within : FromTo x (metres_at ps q) (metres_at ps (q + 1))
      within = record {
        number = number_from_zero;
        after = at_or_past;
        before = omega (arith, before_next);
      }

      pub is_in : in_section q (nearer x q (metres_at ps q) (metres_at ps (q + 1))) ≡ placed_at n ps x
      is_in = sym (ap (place_past ps x) (sym is) ∙ rw off)
