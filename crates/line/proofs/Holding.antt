-- Laws of where a standing train is, and of the test whether it is stabled.
use mathlib.Core.Path.{◌≡◌, refl, sym, ap}
use mathlib.Core.Logic.{◌≢◌}
use mathlib.Core.Bool.{Bool, true, false, not, ◌&&◌, and-false}
use Prim.Native.Nat.{ℕ, ◌/◌, ◌^◌, ◌≤◌, ◌<◌}
use native.Mathlib.Nat.{zero-div, div-eq_of_lt, pow-le-pow_right}
use native.Mathlib.Omega.{arith}
use lib.Dec.{eqb, lit<}
use borrow.Author.Tests.{eq-eqb, ne_eqb}
use Rattle.common.specs.Bits.{bit_at}
use Rattle.common.proofs.Tests.{by_cases}
use Rattle.line.specs.Holding.{at, stabled, is_stabled, standing, holds_post, holds_section}

module _ (sidings e p : ℕ) where
  -- it holds its post unless it is stabled
  pub standing_holds : (x : ℕ) → holds_post (standing sidings e p) x ≡ not (is_stabled sidings e p) && eqb p x
  unfolding standing
  standing_holds x = by_cases (is_stabled sidings e p) (λ q. rw q) (λ q. rw q)

  pub standing_section : (i : ℕ) → holds_section (standing sidings e p) i ≡ false
  unfolding standing
  standing_section i = by_cases (is_stabled sidings e p) (λ q. rw q) (λ q. rw q)

  -- short of its end it is at its post
  pub standing_short : eqb p e ≡ false → standing sidings e p ≡ at p
  unfolding standing
  standing_short h =
      let away : is_stabled sidings e p ≡ false = ap (λ (b : Bool). b && bit_at sidings p) h in
      rw away

-- at its end it stands there, or is stabled where there is a siding
module _ (sidings e : ℕ) where
  pub standing_ended : bit_at sidings e ≡ false → standing sidings e e ≡ at e
  unfolding standing
  standing_ended h = rw (eq-eqb e e refl, h)

  pub standing_stabled : bit_at sidings e ≡ true → standing sidings e e ≡ stabled
  unfolding standing
  standing_stabled h = rw (eq-eqb e e refl, h)

-- ---- the test, as code works it out from a byte

module _ (sidings e p : ℕ) where
  pub short_of_end : p ≢ e → false ≡ is_stabled sidings e p
  short_of_end h = rw (ne_eqb p e h)

  pub siding_at_end : p ≡ e → bit_at sidings p ≡ is_stabled sidings e p
  siding_at_end h = rw (eq-eqb p e h)

  pub none_stabled : sidings ≡ 0 → false ≡ is_stabled sidings e p
  none_stabled h = rw (h, zero-div (2 ^ p)) (sym (and-false (eqb p e)))

  -- a byte has no bit for a number past the eight posts
  pub past_the_posts : sidings < 256 → 8 ≤ p → false ≡ is_stabled sidings e p
  past_the_posts small h =
      let top : 2 ^ 8 ≤ 2 ^ p = pow-le-pow_right {n = 2} (lit< tt) {i = 8} {j = p} h in
      let none : sidings / 2 ^ p ≡ 0 = div-eq_of_lt (omega arith) in
      rw none (sym (and-false (eqb p e)))
