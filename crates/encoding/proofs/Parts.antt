-- Laws of parts laid end to end: where each part stands, which bytes are made of given parts, and one thing of many
-- replaced by another.
use mathlib.Core.Path.{◌≡◌, sym, ap, subst, ◌∙◌}
use mathlib.Core.List.{List, [], ◌∷◌, ◌++◌, map, append_assoc}
use Prim.Native.Nat.{ℕ, zero, suc, ◌+◌, ◌*◌, ◌-◌, ◌≤◌, ◌<◌}
use native.Mathlib.Nat.{not-suc-le-zero, mul-zero, mul-suc, zero-add, add-zero, add_assoc, add_comm}
use native.Mathlib.Omega.{arith}
use lib.ListN.{length, get_or, set, length-append, get_or-append}
use lib.Seq.{get_or-append-add, take-append-add, drop-append-add, drop_at, ext_get_or}
use Rattle.common.specs.Part.{replaced}
use Rattle.common.proofs.Tests.{by_order}
use Rattle.encoding.specs.Parts.{joined, each}

-- the part p stands in b from place n on
pub record At (b : List ℕ) (n : ℕ) (p : List ℕ) : Type 0 where
  pub byte : (j : ℕ) → j < length p → get_or p j 0 ≡ get_or b (n + j) 0

-- the parts stand there one after the other
abbrev pub AllAt : List ℕ → ℕ → List (List ℕ) → Type 0
AllAt b n [] = Unit {0}
AllAt b n (p ∷ ps) = At b n p × AllAt b (n + length p) ps

-- the bytes of p stand there, each by itself; k of them come before
abbrev pub BytesAt : List ℕ → ℕ → ℕ → List ℕ → Type 0
BytesAt b n k [] = Unit {0}
BytesAt b n k (x ∷ p) = (x ≡ get_or b (n + k) 0) × BytesAt b n (suc k) p

-- the byte of b at a place that is written in two ways
pub same_place : (b : List ℕ) {m n : ℕ} → m ≡ n → get_or b m 0 ≡ get_or b n 0
same_place b e = ap (λ (k : ℕ). get_or b k 0) e

bytes_from : (b : List ℕ) (n : ℕ) (p : List ℕ) (k : ℕ) → BytesAt b n k p → (j : ℕ) → j < length p
    → get_or p j 0 ≡ get_or b (n + (k + j)) 0
bytes_from b n [] k q j h = absurd (not-suc-le-zero h)
bytes_from b n (x ∷ p) k q zero h = q.0 ∙ same_place b (omega arith)
bytes_from b n (x ∷ p) k q (suc j) h =
    bytes_from b n p (suc k) q.1 j (omega arith) ∙ same_place b (omega arith)

pub bytes_at : {b : List ℕ} {n : ℕ} {p : List ℕ} → BytesAt b n 0 p → At b n p
bytes_at {b} {n} {p} q = record { byte = λ j h. bytes_from b n p 0 q j h ∙ same_place b (omega arith) }

-- a part of a part
pub within : {b p q : List ℕ} {n m i : ℕ} → At b n p → At p m q → m + length q ≤ length p → i ≡ n + m → At b i q
within {b} {m = m} a c fits e = record {
  byte = λ j h. c.byte j h ∙ a.byte (m + j) (omega arith) ∙ same_place b (omega arith);
}

-- ---- parts and what they make

-- after the bytes h, each part stands where the one before it ends
pub joined_after : (h : List ℕ) (ps : List (List ℕ)) → AllAt (h ++ joined ps) (length h) ps
unfolding joined
joined_after h [] = tt
joined_after h (p ∷ ps) = (
  record { byte = λ j l. sym (get_or-append-add h (p ++ joined ps) j 0 ∙ get_or-append p (joined ps) 0 j l) },
  subst (λ (b : List ℕ). AllAt b (length h + length p) ps) (append_assoc h p (joined ps))
      (subst (λ (n : ℕ). AllAt ((h ++ p) ++ joined ps) n ps) (length-append h p) (joined_after (h ++ p) ps)),
)

pub joined_at : (ps : List (List ℕ)) → AllAt (joined ps) 0 ps
joined_at ps = joined_after [] ps

-- parts that stand one after the other are one part
pub at_joined : {b : List ℕ} {n : ℕ} (ps : List (List ℕ)) → AllAt b n ps → At b n (joined ps)
unfolding joined
at_joined [] a = record { byte = λ j h. absurd (not-suc-le-zero h) }
at_joined {b = b} {n = n} (p ∷ ps) a = record {
  byte = λ j h. by_order j (length p)
      (λ l. get_or-append p (joined ps) 0 j l ∙ a.0.byte j l)
      (λ l.
      let place : j ≡ length p + (j - length p) = omega arith in
      same_place (p ++ joined ps) place
      ∙ get_or-append-add p (joined ps) (j - length p) 0
      ∙ (at_joined {b = b} {n = n + length p} ps a.1).byte (j - length p) (omega (arith, length-append p (joined ps)))
      ∙ same_place b (omega arith));
}

-- a part that is as long as b is b
pub whole_at : {b p : List ℕ} → At b 0 p → length p ≡ length b → p ≡ b
whole_at {b} {p} a e = ext_get_or 0 p b e (λ k h. a.byte k h ∙ same_place b (zero-add k))

-- ---- a part that is replaced

replaced_first : (p q b : List ℕ) → length b ≡ length p → replaced (p ++ q) 0 b ≡ b ++ q
unfolding replaced
replaced_first p q b e = rw (zero-add (length b), drop_at p q (length b) (sym e))

replaced_past : (p s : List ℕ) (i : ℕ) (b : List ℕ) → replaced (p ++ s) (length p + i) b ≡ p ++ replaced s i b
unfolding replaced
replaced_past p s i b =
    rw (take-append-add p s i, add_assoc (length p) i (length b), drop-append-add p s (i + length b))
    (simp append_assoc)

-- ---- things of w bytes each

module _ {A : Type 0} (f : A → List ℕ) (w : ℕ) (wide : (x : A) → length (f x) ≡ w) where
  pub length_each : (l : List A) → length (each f l) ≡ w * length l
  unfolding joined
  length_each [] = rw mul-zero
  length_each (x ∷ l) = rw (length-append, wide x, length_each l, mul-suc) (add_comm w (w * length l))

  pub each_at : (l : List A) (t : ℕ) (d : A) → t < length l → At (each f l) (w * t) (f (get_or l t d))
  unfolding joined
  each_at [] t d h = absurd (not-suc-le-zero h)
  each_at (x ∷ l) zero d h = record {
    byte = λ j k. rw (mul-zero, zero-add) (sym (get_or-append (f x) (each f l) 0 j k));
  }
  each_at (x ∷ l) (suc t) d h = record {
    byte = λ j k.
        let place : length (f x) + (w * t + j) ≡ w * suc t + j = rw (wide x, mul-suc) (omega arith) in
        (each_at l t d (omega arith)).byte j k
        ∙ sym (get_or-append-add (f x) (each f l) (w * t + j) 0)
        ∙ same_place (f x ++ each f l) place;
  }

  things_at : (b : List ℕ) (n : ℕ) (l : List A) (d : A)
      → ((t : ℕ) → t < length l → At b (n + w * t) (f (get_or l t d))) → AllAt b n (map f l)
  things_at b n [] d h = tt
  things_at b n (x ∷ l) d h = (
    subst (λ (m : ℕ). At b m (f x)) (rw (mul-zero, add-zero)) (h 0 (omega arith)),
    things_at b (n + length (f x)) l d
        (λ t k.
        let place : n + w * suc t ≡ n + length (f x) + w * t = rw (wide x, mul-suc) (omega arith) in
        subst (λ (m : ℕ). At b m (f (get_or l t d))) place (h (suc t) (omega arith))),
  )

  -- things that stand one after the other are one part
  pub at_each : {b : List ℕ} {n : ℕ} (l : List A) (d : A)
      → ((t : ℕ) → t < length l → At b (n + w * t) (f (get_or l t d))) → At b n (each f l)
  at_each {b} {n} l d h = at_joined (map f l) (things_at b n l d h)

  pub each_set : (l : List A) (t : ℕ) (x : A) (rest : List ℕ) → t < length l
      → replaced (each f l ++ rest) (w * t) (f x) ≡ each f (set l t x) ++ rest
  unfolding joined
  each_set [] t x rest h = absurd (not-suc-le-zero h)
  each_set (y ∷ l) zero x rest h =
      rw (mul-zero, append_assoc (f y) (each f l) rest, append_assoc (f x) (each f l) rest)
      (replaced_first (f y) (each f l ++ rest) (f x) (wide x ∙ sym (wide y)))
  each_set (y ∷ l) (suc t) x rest h =
      let place : w * suc t ≡ length (f y) + w * t = rw (mul-suc, wide y) (add_comm (w * t) w) in
      rw (place, append_assoc (f y) (each f l) rest, append_assoc (f y) (each f (set l t x)) rest)
      (replaced_past (f y) (each f l ++ rest) (w * t) (f x) ∙ ap (◌++◌ (f y)) (each_set l t x rest (omega arith)))
