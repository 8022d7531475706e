-- What the choice of a track gives: one that is not held, or 0 where all are; and which of those that are not.
use mathlib.Core.Path.{◌≡◌, refl, sym, subst, ◌∙◌}
use mathlib.Core.Logic.{◌≢◌}
use mathlib.Core.Bool.{Bool, true, false}
use Prim.Native.Nat.{ℕ, zero, suc, ◌+◌, ◌-◌, ◌≤◌, ◌<◌}
use native.Mathlib.Omega.{arith}
use lib.Dec.{leb}
use borrow.Author.Tests.{eq-eqb, ne_eqb, le-leb, lt-leb}
use Rattle.common.proofs.Tests.{clash, by_cases, by_equality, by_order}
use Rattle.line.specs.declared.route.Route.{Route}
use Rattle.tracks.specs.Tracks.{smallest, largest, track_for, TrackRule}

-- r is one of tracks 1 to n and not held, or 0 where all are
pub record Chosen (held : ℕ → Bool) (n r : ℕ) : Type 0 where
  pub few : r ≤ n
  pub free : r ≢ 0 → held r ≡ false
  pub full : r ≡ 0 → (k : ℕ) → k < n → held (suc k) ≡ true

module _ (held : ℕ → Bool) where
  none : Chosen held 0 0
  none = record { few = omega arith; free = λ h. absurd (h refl); full = λ e k l. absurd (omega arith) }

  -- one track more, which is held
  held_more : (n r : ℕ) → Chosen held n r → held (suc n) ≡ true → Chosen held (suc n) r
  held_more n r c e = record {
    few = omega (arith, c.few);
    free = c.free;
    full = λ z k l. by_equality k n (λ q. rw q e) (λ q. c.full z k (omega arith));
  }

  -- or not
  free_more : (n : ℕ) → held (suc n) ≡ false → Chosen held (suc n) (suc n)
  free_more n e = record { few = omega arith; free = λ h. e; full = λ z k l. absurd (omega arith) }

  chosen_smallest : (n : ℕ) → Chosen held n (smallest held n)
  unfolding smallest
  chosen_smallest zero = none
  chosen_smallest (suc n) = at (chosen_smallest n)
    where
      at : Chosen held n (smallest held n) → Chosen held (suc n) (smallest held (suc n))
      at c = by_equality (smallest held n) 0
          (λ z. rw (eq-eqb (smallest held n) 0 z) (by_cases (held (suc n))
          (λ e. rw e (held_more n 0 (rw z at c) e))
          (λ e. rw e (free_more n e))))
          (λ z. rw (ne_eqb (smallest held n) 0 z) (record {
            few = omega (arith, c.few);
            free = c.free;
            full = λ y. absurd (z y);
          }))

  chosen_largest : (n : ℕ) → Chosen held n (largest held n)
  unfolding largest
  chosen_largest zero = none
  chosen_largest (suc n) = at (chosen_largest n)
    where
      at : Chosen held n (largest held n) → Chosen held (suc n) (largest held (suc n))
      at c = by_cases (held (suc n)) (λ e. rw e (held_more n _ c e)) (λ e. rw e (free_more n e))

  pub chosen : (r : Route) (n : ℕ) → Chosen held n (track_for r held n)
  unfolding track_for
  chosen r n = by_cases (leb r.start.0 r.end.0) (λ e. rw e (chosen_smallest n)) (λ e. rw e (chosen_largest n))

-- an up train's and a down train's
module _ (r : Route) (held : ℕ → Bool) (n k : ℕ) where
  pub up_track : r.start.0 ≤ r.end.0 → k ≡ smallest held n → k ≡ track_for r held n
  unfolding track_for
  up_track h e = e ∙ rw (le-leb r.start.0 r.end.0 h)

  pub down_track : r.end.0 < r.start.0 → k ≡ largest held n → k ≡ track_for r held n
  unfolding track_for
  down_track h e = e ∙ rw (lt-leb r.start.0 r.end.0 h)

-- the choice goes by which of tracks 1 to n are held
pub track_cong : (r : Route) (f g : ℕ → Bool) (n : ℕ) → ((k : ℕ) → k < n → f (suc k) ≡ g (suc k))
    → track_for r f n ≡ track_for r g n
unfolding track_for smallest largest
track_cong r f g n h = rw (low n h, high n h)
  where
    low : (m : ℕ) → ((k : ℕ) → k < m → f (suc k) ≡ g (suc k)) → smallest f m ≡ smallest g m
    low zero h = refl
    low (suc m) h = rw (low m (λ k l. h k (omega arith)), h m (omega arith))

    high : (m : ℕ) → ((k : ℕ) → k < m → f (suc k) ≡ g (suc k)) → largest f m ≡ largest g m
    high zero h = refl
    high (suc m) h = rw (high m (λ k l. h k (omega arith)), h m (omega arith))

-- ---- which one

low_held : (held : ℕ → Bool) (n : ℕ) (k : ℕ) → 1 ≤ k → k < smallest held n → held k ≡ true
unfolding smallest
low_held held zero k a b = absurd (omega arith)
low_held held (suc n) k a b = at (low_held held n) b
  where
    at : ((k : ℕ) → 1 ≤ k → k < smallest held n → held k ≡ true) → k < smallest held (suc n) → held k ≡ true
    at ih b = by_equality (smallest held n) 0
        (λ z. by_cases (held (suc n))
        (λ e. let none : k < 0 = rw (z, e) at b in absurd (omega arith))
        (λ e.
        let below : k < suc n = rw (z, e) at b in
        let p : suc (k - 1) ≡ k = omega arith in
        rw (← p) ((chosen_smallest held n).full z (k - 1) (omega arith))))
        (λ z. ih k a (rw (ne_eqb (smallest held n) 0 z) at b))

high_held : (held : ℕ → Bool) (n k : ℕ) → largest held n < k → k ≤ n → held k ≡ true
unfolding largest
high_held held zero k a b = absurd (omega arith)
high_held held (suc n) k a b = at (high_held held n k) a
  where
    at : (largest held n < k → k ≤ n → held k ≡ true) → largest held (suc n) < k → held k ≡ true
    at ih a = by_cases (held (suc n))
        (λ e. by_equality k (suc n) (λ q. rw (q, e)) (λ q. ih (rw e at a) (omega arith)))
        (λ e. let past : suc n < k = rw e at a in absurd (omega arith))

pub track_rule : TrackRule
unfolding track_for
track_rule = record {
  one = λ r held n. (chosen held r n).few;
  unheld = λ r held n. (chosen held r n).free;
  none = λ r held n k e a b.
      let p : suc (k - 1) ≡ k = omega arith in
      rw (← p) ((chosen held r n).full e (k - 1) (omega arith));
  up = λ r held n k way a b. low_held held n k a (rw (le-leb r.start.0 r.end.0 way) at b);
  down = λ r held n k way a b. high_held held n k (rw (lt-leb r.start.0 r.end.0 way) at a) b;
}

-- ---- found by a search, from track 1 on or from the last one down

module _ (held : ℕ → Bool) where
  -- the tracks from i on and below k are held
  pub record HeldFrom (i k : ℕ) : Type 0 where
    pub each : (j : ℕ) → i ≤ j → j < k → held j ≡ true

  pub none_passed : (i k : ℕ) → k ≤ i → HeldFrom i k
  none_passed i k h = record { each = λ j a b. absurd (omega arith) }

  pub passed_up : {i k : ℕ} → HeldFrom i k → held k ≡ true → HeldFrom i (k + 1)
  passed_up {i} {k} h e = record { each = λ j a b. by_equality j k (λ q. rw (q, e)) (λ q. h.each j a (omega arith)) }

  pub passed_down : {i k : ℕ} → HeldFrom (i + 1) k → held i ≡ true → (n : ℕ) → i ≤ n → HeldFrom n k
  passed_down {i} {k} h e n l = record {
    each = λ j a b. by_equality j i (λ q. rw (q, e)) (λ q. h.each j (omega arith) b);
  }

  -- a choice that is 0 though track k is not held
  none_chosen : {A : Type 0} (n r k : ℕ) → Chosen held n r → r ≡ 0 → 1 ≤ k → k ≤ n → held k ≡ false → A
  none_chosen n r k c z a b e =
      let p : suc (k - 1) ≡ k = omega arith in
      clash (held k) (subst (λ (j : ℕ). held j ≡ true) p (c.full z (k - 1) (omega arith))) e

  -- where all are held, it is 0
  all_held : (n r i k : ℕ) → Chosen held n r → HeldFrom i k → i ≤ 1 → n < k → 0 ≡ r
  all_held n r i k c h a b = by_equality r 0 (λ z. sym z)
      (λ z. clash (held r) (h.each r (omega arith) (omega (arith, c.few))) (c.free z))

  module _ (n : ℕ) where
    pub no_smallest : {k : ℕ} → HeldFrom 1 k → n < k → 0 ≡ smallest held n
    no_smallest {k} h = all_held n (smallest held n) 1 k (chosen_smallest held n) h (omega arith)

    pub no_largest : {i : ℕ} → HeldFrom i (n + 1) → i ≤ 1 → 0 ≡ largest held n
    no_largest {i} h a = all_held n (largest held n) i (n + 1) (chosen_largest held n) h a (omega arith)

    module _ (k : ℕ) (a : 1 ≤ k) (b : k ≤ n) (e : held k ≡ false) where
      pub found_smallest : HeldFrom 1 k → k ≡ smallest held n
      found_smallest h =
          let r = smallest held n in
          let c = chosen_smallest held n in
          by_equality k r (λ q. q) (λ q. by_equality r 0
          (λ z. none_chosen n r k c z a b e)
          (λ z. by_order r k
          (λ l. clash (held r) (h.each r (omega arith) l) (c.free z))
          (λ l. clash (held k) (low_held held n k a (omega arith)) e)))

      pub found_largest : HeldFrom (k + 1) (n + 1) → k ≡ largest held n
      found_largest h =
          let r = largest held n in
          let c = chosen_largest held n in
          by_equality k r (λ q. q) (λ q. by_equality r 0
          (λ z. none_chosen n r k c z a b e)
          (λ z. by_order k r
          (λ l. clash (held r) (h.each r (omega arith) (omega (arith, c.few))) (c.free z))
          (λ l. clash (held k) (high_held held n k (omega arith) b) e)))
