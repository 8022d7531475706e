-- Sections in the hands of gangs (02, card 4): what a state says of them when one is lent or given back, and that it
-- stays consistent.
use mathlib.Core.Path.{◌≡◌, subst, ◌∙◌}
use mathlib.Core.Logic.{◌≢◌}
use mathlib.Core.Bool.{Bool, true, false, ◌&&◌, and-false}
use mathlib.Core.List.{List}
use Prim.Native.Nat.{ℕ, ◌+◌, ◌≤◌, ◌<◌}
use native.Mathlib.Omega.{arith}
use lib.Dec.{ltb}
use lib.ListN.{length, set, get_or, length-set, get_or-eq_default}
use lib.Seq.{get_or-set_same, get_or-set_other}
use borrow.Author.Tests.{ltb-true, lt-ltb, le-ltb}
use Rattle.common.proofs.Tests.{clash, by_cases, by_equality, by_order, not_passed, and_left, and_right}
use Rattle.common.proofs.Below.{of_bool_le}
use Rattle.rules.specs.Types.{State}
use Rattle.rules.specs.State.{possessed, holders_of, with_possession}
use Rattle.rules.specs.Valid.{most_given}
use Rattle.rules.specs.Granting.{grantable}
use Rattle.rules.proofs.Validity.{Consistent}
use Rattle.rules.proofs.Changes.{grantable_facts, is_grantable}
use Rattle.rules.proofs.Oldest.{Nobody}

module _ (s : State) (i : ℕ) (held : Bool) (n : ℕ) where
  -- the other sections are as they were
  pub others_possessed : (k : ℕ) → k ≢ i → possessed (with_possession s i held n) k ≡ possessed s k
  others_possessed k h = rw (get_or-set_other s.possessions i k held false h)

  -- the section itself is as it was made, where it is on the line and has its place
  pub own_possessed : possessed (with_possession s i held n) i
      ≡ ltb (i + 1) s.posts && (ltb i (length s.possessions) && held)
  own_possessed = by_order i (length s.possessions)
      (λ k. rw (lt-ltb _ _ k, get_or-set_same s.possessions i held false k))
      (λ k.
      let past : length (set s.possessions i held) ≤ i = rw length-set k in
      rw (le-ltb _ _ k, get_or-eq_default (set s.possessions i held) false past))

pub lent_possessed : (s : State) (i n : ℕ) → i + 1 < s.posts → i < length s.possessions
    → possessed (with_possession s i true n) i ≡ true
lent_possessed s i n on place = own_possessed s i true n ∙ rw (lt-ltb _ _ on, lt-ltb _ _ place)

-- one that a gang has is on the line and has its place
pub possessed_on : (s : State) (i : ℕ) → possessed s i ≡ true → i + 1 < s.posts
possessed_on s i e = ltb-true _ _ (and_left (ltb (i + 1) s.posts) _ e)

pub possessed_place : (s : State) (i : ℕ) → possessed s i ≡ true → i < length s.possessions
possessed_place s i e = by_order i (length s.possessions) (λ h. h) (λ h.
    clash (get_or s.possessions i false) (and_right (ltb (i + 1) s.posts) _ e)
    (get_or-eq_default s.possessions false h))

-- given back, it is nobody's
pub back_unpossessed : (s : State) (i n : ℕ) → possessed (with_possession s i false n) i ≡ false
back_unpossessed s i n =
    own_possessed s i false n ∙ rw (and-false (ltb i (length s.possessions))) (and-false (ltb (i + 1) s.posts))

-- a section is lent where nobody holds it, or given back
pub valid_possession : (s : State) → Consistent s → (i : ℕ) (held : Bool) (n : ℕ) → (held ≡ true → holders_of s i ≡ 0)
    → n ≤ most_given → Consistent (with_possession s i held n)
valid_possession s d i held n free few = record {
  line = d.line;
  each = d.each;
  sections = λ k on. by_equality k i
      (λ e. rw e (own (subst (λ (j : ℕ). j < s.posts) e on)))
      (λ e. rw (others_possessed s i held n k e) (d.sections k on));
  posts = d.posts;
  tracks = d.tracks;
  differ = d.differ;
  away = d.away;
  distinct = d.distinct;
  few_given = few;
}
  where
    own : i < s.posts → holders_of (with_possession s i held n) i ≤ 1
    own on = by_cases held
        (λ e. omega (arith, free e, of_bool_le (possessed (with_possession s i held n) i)))
        (λ e. rw (e, back_unpossessed s i n) (omega (arith, d.sections i on)))

-- ---- who can be granted

-- where nobody holds a section with one gang more, nobody did before
lent_more : (s : State) (i n k : ℕ) → holders_of (with_possession s i true n) k ≡ 0 → holders_of s k ≡ 0
lent_more s i n k e = by_equality k i
    (λ q. by_cases (possessed s i)
    (λ y. absurd (omega (arith, rw (q, lent_possessed s i n (possessed_on s i y) (possessed_place s i y)) at e)))
    (λ y. rw (q, y) (omega (arith, rw q at e))))
    (λ q. rw (others_possessed s i true n k q) at e)

-- who cannot be granted cannot with one gang more
pub lent_nobody : (table : List ℕ) (s : State) (i n : ℕ) → Nobody table s s.trains
    → Nobody table (with_possession s i true n) s.trains
lent_nobody table s i n k = record {
  barred = λ u ku. not_passed _ (λ e.
      let g = grantable_facts table (with_possession s i true n) u e in
      clash (grantable table s u)
      (is_grantable table s u (record {
        asks = g.asks;
        section = lent_more s i n _ g.section;
        track = g.track;
        bit = g.bit;
      }))
      (k.barred u ku));
}
