-- Tracks counted: trains whose tracks differ have as many as they are, and trains that have as many as they are differ.
-- For any trains that hold something, each by a number.
use mathlib.Core.Path.{◌≡◌, refl, sym, ap, ◌∙◌}
use mathlib.Core.Bool.{Bool, true, false, ◌&&◌, ◌||◌}
use Prim.Native.Nat.{ℕ, zero, suc, ◌+◌, ◌≤◌, ◌<◌}
use native.Mathlib.Omega.{arith}
use lib.Dec.{eqb}
use borrow.Author.Tests.{eqb-true, eq-eqb, ne_eqb}
use Rattle.common.specs.Below.{of_bool, count_below, any_below}
use Rattle.common.proofs.Tests.{clash, by_cases, by_equality, by_order, not_passed, and_left, and_right, and_both}
use Rattle.common.proofs.Below.{of_bool_le, count_cong, count_le, count_none, count_change, any_below_lem, below_any}

module _ (holds : ℕ → Bool) (track : ℕ → ℕ) where
  -- one of the first n trains has the number k
  abbrev pub taken : ℕ → ℕ → Bool
  taken n k = any_below n (λ t. holds t && eqb (track t) k)

  -- each of them has a number below m, and no two the same
  pub record Apart (m n : ℕ) : Type 0 where
    pub low : (t : ℕ) → t < n → holds t ≡ true → track t < m
    pub differ : (t u : ℕ) → t < n → u < n → holds t ≡ true → holds u ≡ true → track t ≡ track u → t ≡ u

  module _ (m n : ℕ) where
    fewer_apart : Apart m (suc n) → Apart m n
    fewer_apart a = record {
      low = λ t k. a.low t (omega arith);
      differ = λ t u k l. a.differ t u (omega arith) (omega arith);
    }

    -- a train more that holds nothing
    same_taken : holds n ≡ false → count_below m (taken (suc n)) ≡ count_below m (taken n)
    unfolding any_below
    same_taken e = count_cong m (taken (suc n)) (taken n) (λ k l. rw e)

    -- or that has a number: those taken are with it one more, or as many where another has it
    more_taken : holds n ≡ true → track n < m
        → count_below m (taken (suc n)) + of_bool (taken n (track n)) ≡ 1 + count_below m (taken n)
    unfolding any_below
    more_taken e l =
        let c = count_change m (taken n) (λ k. eqb (track n) k || taken n k) (track n) l
        (λ u k z. rw (ne_eqb (track n) u (λ y. z (sym y)))) in
        let after : of_bool (eqb (track n) (track n) || taken n (track n)) ≡ 1 = rw (eq-eqb (track n) (track n) refl) in
        let same : count_below m (taken (suc n)) ≡ count_below m (λ k. eqb (track n) k || taken n k) =
        count_cong m (taken (suc n)) (λ k. eqb (track n) k || taken n k) (λ k q. rw e) in
        omega arith

    -- a number from m on is not counted
    past_taken : m ≤ track n → count_below m (taken (suc n)) ≡ count_below m (taken n)
    unfolding any_below
    past_taken h = count_cong m (taken (suc n)) (taken n) (λ k l.
        rw (ne_eqb (track n) k (λ y. omega arith)) (by_cases (holds n) (λ e. rw e) (λ e. rw e)))

  -- as many numbers as trains
  pub as_many : (m n : ℕ) → Apart m n → count_below m (taken n) ≡ count_below n holds
  unfolding count_below any_below
  as_many m zero a = count_none m (λ _. false) (λ u k. refl)
  as_many m (suc n) a = at (as_many m n (fewer_apart m n a))
    where
      at : count_below m (taken n) ≡ count_below n holds
          → count_below m (taken (suc n)) ≡ of_bool (holds n) + count_below n holds
      at rest = by_cases (holds n)
          (λ e.
          let new : taken n (track n) ≡ false = not_passed (taken n (track n)) (λ p.
          let r = any_below_lem n (λ t. holds t && eqb (track t) (track n)) p in
          let z = a.differ r.0 n (omega (arith, r.1)) (omega arith)
          (and_left (holds r.0) _ r.2) e (eqb-true _ _ (and_right (holds r.0) _ r.2)) in
          omega (arith, r.1)) in
          let more : count_below m (taken (suc n)) + of_bool (taken n (track n)) ≡ 1 + count_below m (taken n) =
          more_taken m n e (a.low n (omega arith) e) in
          let none : of_bool (taken n (track n)) ≡ 0 = rw new in
          rw e (omega arith))
          (λ e. rw e (same_taken m n e ∙ rest ∙ omega arith))

  -- never more
  pub at_most : (m n : ℕ) → count_below m (taken n) ≤ count_below n holds
  unfolding count_below any_below
  at_most m zero = omega (arith, count_none m (λ _. false) (λ u k. refl))
  at_most m (suc n) = at (at_most m n)
    where
      at : count_below m (taken n) ≤ count_below n holds
          → count_below m (taken (suc n)) ≤ of_bool (holds n) + count_below n holds
      at rest = by_cases (holds n)
          (λ e. by_order (track n) m
          (λ l. rw e (omega (arith, more_taken m n e l)))
          (λ l. rw e (omega (arith, past_taken m n l))))
          (λ e. omega (arith, same_taken m n e))

  -- and as many only where no two are the same: with train n, if it is so of those below it
  module _ (m n : ℕ) (e : count_below m (taken (suc n)) ≡ of_bool (holds n) + count_below n holds)
      (rest : count_below m (taken n) ≡ count_below n holds → Apart m n) where
    module _ (h : holds n ≡ false) where
      apart_without : Apart m (suc n)
      apart_without =
          let z : of_bool (holds n) ≡ 0 = rw h in
          let a = rest (omega (arith, e, same_taken m n h)) in
          record {
            low = λ t k g. by_equality t n (λ q. clash (holds t) g (rw (q, h))) (λ q. a.low t (omega arith) g);
            differ = λ t u k l g i same. by_equality t n (λ q. clash (holds t) g (rw (q, h))) (λ q.
                by_equality u n (λ r. clash (holds u) i (rw (r, h)))
                (λ r. a.differ t u (omega arith) (omega arith) g i same));
          }

    module _ (h : holds n ≡ true) (l : track n < m) where
      one : of_bool (holds n) ≡ 1
      one = rw h

      -- no lower train has its number
      new : taken n (track n) ≡ false
      new = not_passed (taken n (track n)) (λ q.
          let z : of_bool (taken n (track n)) ≡ 1 = rw q in
          omega (arith, e, one, more_taken m n h l, at_most m n))

      lower : Apart m n
      lower =
          let z : of_bool (taken n (track n)) ≡ 0 = rw new in
          rest (omega (arith, e, one, more_taken m n h l))

      other : {A : Type 0} (t : ℕ) → t < n → holds t ≡ true → track t ≡ track n → A
      other t k g same = clash (taken n (track n)) (below_any n _ t k (and_both _ _ g (eq-eqb _ _ same))) new

      apart_with : Apart m (suc n)
      apart_with = record {
        low = λ t k g. by_equality t n (λ q. rw q l) (λ q. lower.low t (omega arith) g);
        differ = λ t u k i g j same. by_equality t n
            (λ q. by_equality u n (λ r. q ∙ sym r) (λ r. other u (omega arith) j (sym same ∙ ap track q)))
            (λ q. by_equality u n (λ r. other t (omega arith) g (same ∙ ap track r))
            (λ r. lower.differ t u (omega arith) (omega arith) g j same));
      }

    apart_more : Apart m (suc n)
    apart_more = by_cases (holds n)
        (λ h. by_order (track n) m (apart_with h) (λ l.
        let one : of_bool (holds n) ≡ 1 = rw h in
        absurd (omega (arith, e, past_taken m n l, at_most m n))))
        apart_without

  pub then_apart : (m n : ℕ) → count_below m (taken n) ≡ count_below n holds → Apart m n
  unfolding count_below
  then_apart m zero e = record { low = λ t k. absurd (omega arith); differ = λ t u k. absurd (omega arith) }
  then_apart m (suc n) e = apart_more m n e (then_apart m n)

-- ---- counts from 1 on

count_shift : (n : ℕ) (f : ℕ → Bool) → count_below (suc n) f ≡ of_bool (f 0) + count_below n (λ k. f (suc k))
unfolding count_below
count_shift zero f = refl
count_shift (suc n) f = let rest = count_shift n f in omega arith

-- tracks are numbered from 1 on
module _ (holds : ℕ → Bool) (track : ℕ → ℕ) (m n : ℕ) (some : (t : ℕ) → t < n → holds t ≡ true → 1 ≤ track t) where
  none_at_0 : taken holds track n 0 ≡ false
  none_at_0 = not_passed (taken holds track n 0) (λ p.
      let r = any_below_lem n (λ t. holds t && eqb (track t) 0) p in
      let z : track r.0 ≡ 0 = eqb-true _ _ (and_right (holds r.0) _ r.2) in
      omega (arith, some r.0 r.1 (and_left (holds r.0) _ r.2)))

  pub tracks_taken : Apart holds track (suc m) n
      → count_below m (λ k. taken holds track n (suc k)) ≡ count_below n holds
  tracks_taken a =
      let z : of_bool (taken holds track n 0) ≡ 0 = rw none_at_0 in
      omega (arith, count_shift m (taken holds track n), as_many holds track (suc m) n a)

pub count_full : (n : ℕ) (f : ℕ → Bool) → ((k : ℕ) → k < n → f k ≡ true) → count_below n f ≡ n
unfolding count_below
count_full zero f h = refl
count_full (suc n) f h = rw (h n (omega arith), count_full n f (λ k l. h k (omega arith))) (omega arith)

pub count_short : (n : ℕ) (f : ℕ → Bool) (k : ℕ) → k < n → f k ≡ false → count_below n f < n
unfolding count_below
count_short zero f k l e = absurd (omega arith)
count_short (suc n) f k l e = at (λ q. count_short n f k q e)
  where
    at : (k < n → count_below n f < n) → of_bool (f n) + count_below n f < suc n
    at ih = by_equality k n
        (λ q. let z : f n ≡ false = rw q at e in rw z (omega (arith, count_le n f)))
        (λ q. omega (arith, ih (omega arith), of_bool_le (f n)))

-- more are not fewer
pub count_more : (m n : ℕ) (f : ℕ → Bool) → m ≤ n → count_below m f ≤ count_below n f
unfolding count_below
count_more m zero f h = let e : m ≡ 0 = omega arith in rw e (omega arith)
count_more m (suc n) f h = at (λ k. count_more m n f k)
  where
    at : (m ≤ n → count_below m f ≤ count_below n f) → count_below m f ≤ of_bool (f n) + count_below n f
    at ih = by_equality m (suc n) (λ e. rw e (omega arith)) (λ e. omega (arith, ih (omega arith)))
