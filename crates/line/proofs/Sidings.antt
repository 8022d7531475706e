-- The claims about sidings: a set is below 2 ^ n exactly where no bit from n on is in it, where 23 stands among the
-- checks, and which trains hold a track.
use mathlib.Core.Path.{◌≡◌, refl, sym, ◌∙◌}
use mathlib.Core.Logic.{◌≢◌}
use mathlib.Core.Bool.{true, false, and-false}
use mathlib.Core.List.{List}
use Prim.Native.Nat.{ℕ, zero, suc, ◌+◌, ◌%◌, ◌^◌, ◌≤◌, ◌<◌}
use native.Mathlib.Nat.{lt_of_lt_of_le, div-eq_of_lt, mod-eq_of_lt, mod-lt, pow-succ', add-zero, add-suc}
use native.Mathlib.Omega.{arith}
use lib.Dec.{eqb}
use lib.Pow.{pow_pos, pow_mono}
use borrow.Author.Tests.{ltb-true, lt-ltb, eq-eqb, ne_eqb}
use Rattle.common.specs.Bits.{set_below, bit_at}
use Rattle.common.specs.Check.{refusal}
use Rattle.common.proofs.Bits.{set_of_bits}
use Rattle.common.proofs.Check.{stop, pass, refusal_is, pass_all}
use Rattle.line.specs.Refusal as number
use Rattle.line.specs.Line.{names_posts, tracks_in_range, sidings_on_line}
use Rattle.line.specs.Book.{line_in, posts_checks, read_from, outcome_number}
use Rattle.line.specs.Holding.{standing, holds_post}
use Rattle.line.specs.Claims.{Sidings}
use Rattle.line.proofs.ReadingLaws.{read_number}

-- ---- the sets below 2 ^ n

below_power : (n : ℕ) → n < 2 ^ n
below_power zero = omega arith
below_power (suc n) = let k = below_power n in rw pow-succ' (omega arith)

module _ (n set : ℕ) where
  only_posts : names_posts n set ≡ true → (p : ℕ) → n ≤ p → bit_at set p ≡ false
  only_posts h p k =
      let small : set < 2 ^ p = lt_of_lt_of_le (ltb-true set (2 ^ n) h) (pow_mono k) in
      rw (div-eq_of_lt small)

  module _ (none : (p : ℕ) → n ≤ p → bit_at set p ≡ false) where
    -- k bits from n on add nothing
    same_bits : (k : ℕ) → set_below (n + k) (bit_at set) ≡ set_below n (bit_at set)
    unfolding set_below
    same_bits zero = rw add-zero
    same_bits (suc k) = let s = same_bits k in rw (add-suc, none (n + k) (omega arith)) (omega arith)

    all_posts : names_posts n set ≡ true
    all_posts =
        let small : set < 2 ^ (n + set) = lt_of_lt_of_le (below_power set) (pow_mono (omega arith)) in
        let same : set % 2 ^ (n + set) ≡ set % 2 ^ n
        = sym (set_of_bits (n + set) set) ∙ same_bits set ∙ set_of_bits n set in
        let is : set ≡ set % 2 ^ n = sym (mod-eq_of_lt small) ∙ same in
        lt-ltb set (2 ^ n) (rw is (mod-lt set (pow_pos n)))

-- ---- the order of the checks

module _ (least : ℕ) (b : List ℕ) (first : refusal (posts_checks least b) ≡ 0) where
  tracks_first : tracks_in_range (line_in b) ≡ false → outcome_number (read_from least b).outcome ≡ number.tracks
  tracks_first h = read_number least b ∙ refusal_is (pass_all (posts_checks least b) refl first (stop h))

  then_sidings : tracks_in_range (line_in b) ≡ true → sidings_on_line (line_in b) ≡ false
      → outcome_number (read_from least b).outcome ≡ number.sidings
  then_sidings k h = read_number least b ∙ refusal_is (pass_all (posts_checks least b) refl first (pass k (stop h)))

-- ---- the trains that stand

short_of_end : (set e p : ℕ) → p ≢ e → holds_post (standing set e p) p ≡ true
unfolding standing
short_of_end set e p h = rw (ne_eqb p e h, eq-eqb p p refl)

no_siding : (set e p : ℕ) → bit_at set p ≡ false → holds_post (standing set e p) p ≡ true
unfolding standing
no_siding set e p h = rw (h, and-false (eqb p e), eq-eqb p p refl)

put_away : (set e : ℕ) → bit_at set e ≡ true → (x : ℕ) → holds_post (standing set e e) x ≡ false
unfolding standing
put_away set e h x = rw (eq-eqb e e refl, h)

pub sidings : Sidings
sidings = record {
  only_posts = only_posts;
  all_posts = all_posts;
  tracks_first = tracks_first;
  then_sidings = then_sidings;
  put_away = put_away;
  short_of_end = short_of_end;
  no_siding = no_siding;
}
