-- Laws of a number in decimal.
use mathlib.Core.Path.{◌≡◌, sym, ◌∙◌}
use mathlib.Core.Logic.{◌≢◌}
use mathlib.Core.Bool.{cond}
use mathlib.Core.List.{List, [], ◌∷◌, ◌++◌, append_assoc}
use Prim.Native.Nat.{ℕ, zero, suc, ◌+◌, ◌-◌, ◌*◌, ◌/◌, ◌%◌, ◌^◌, ◌≤◌, ◌<◌}
use native.Mathlib.Nat.{pow-succ'}
use native.Mathlib.Numerals.{add-one}
use lib.Seq.{take_all}
use Rattle.std.proofs.lemmas.List.{drop-set}
use native.Mathlib.Omega.{arith}
use lib.Dec.{eqb, ltb, lit<}
use lib.ListN.{length, take, drop, set, length-set, length-append, length-drop}
use borrow.Author.Tests.{eq-eqb, ne_eqb, lt-ltb, le-ltb}
use Rattle.common.proofs.Tests.{by_cases, by_order}
use Rattle.printout.specs.Lines.{decimal_in, decimal, kind_name, record_line, end_line, book_line}
use Rattle.printout.specs.Text.{record_line_length, end_line_length}
use Rattle.printout.specs.Types.{Record}

-- one digit, or those of a tenth and one more
pub decimal_short : (f n : ℕ) → n < 10 → decimal_in (suc f) n ≡ (48 + n % 10) ∷ []
unfolding decimal_in
decimal_short f n h = rw (lt-ltb n 10 h)

pub decimal_long : (f n : ℕ) → 10 ≤ n → decimal_in (suc f) n ≡ decimal_in f (n / 10) ++ ((48 + n % 10) ∷ [])
unfolding decimal_in
decimal_long f n h = rw (le-ltb n 10 h)

-- no tenth
tenth_none : (n : ℕ) → ltb n 10 ≡ eqb (n / 10) 0
tenth_none n = by_order n 10 (λ few. rw (lt-ltb n 10 few) (grind arith)) (λ many. rw (le-ltb n 10 many) (grind arith))

-- the digits of n from place f of twenty on are written, and those of m come before them
pub record Written (n f m : ℕ) (digits : List ℕ) : Type 0 where
  pub places : length digits ≡ 20
  pub are : decimal n ≡ decimal_in f m ++ drop f digits

-- one more of them
digit_more : (f n : ℕ) (digits : List ℕ) → f < length digits
    → decimal_in (f + 1) n ++ drop (f + 1) digits
    ≡ cond (eqb (n / 10) 0) [] (decimal_in f (n / 10)) ++ drop f (set digits f (48 + n % 10))
unfolding decimal_in
digit_more f n digits h =
    rw (drop-set digits f (48 + n % 10) h, ← tenth_none n, add-one f)
    (append_assoc _ ((48 + n % 10) ∷ []) (drop (suc f) digits))

-- and one before
pub next_written : (n f m : ℕ) (digits : List ℕ) → 0 < f → f ≤ 20 → m / 10 ≢ 0 → Written n f m digits
    → Written n (f - 1) (m / 10) (set digits (f - 1) (48 + m % 10))
next_written n f m digits p q some w =
    let next : f - 1 + 1 ≡ f = omega arith in
    let more = rw next at (digit_more (f - 1) m digits (omega (arith, w.places))) in
    record { places = rw length-set w.places; are = w.are ∙ rw (ne_eqb (m / 10) 0 some) at more }

-- and the first
pub first_written : (n f m : ℕ) (digits : List ℕ) → 0 < f → f ≤ 20 → m / 10 ≡ 0 → Written n f m digits
    → take (20 - (f - 1)) (drop (f - 1) (set digits (f - 1) (48 + m % 10))) ≡ decimal n
first_written n f m digits p q none w =
    let next : f - 1 + 1 ≡ f = omega arith in
    let more = rw next at (digit_more (f - 1) m digits (omega (arith, w.places))) in
    let all = set digits (f - 1) (48 + m % 10) in
    take_all (20 - (f - 1)) (drop (f - 1) all) (omega (arith, length-drop {A = ℕ}, length-set {A = ℕ}, w.places))
    ∙ sym (w.are ∙ rw (eq-eqb (m / 10) 0 none) at more)

-- or all twenty
pub all_written : (n m : ℕ) (digits : List ℕ) → Written n 0 m digits → digits ≡ decimal n
unfolding decimal_in
all_written n m digits w = sym w.are

-- a number below 10 ^ k has at most k digits
pub decimal_length : (f n k : ℕ) → n < 10 ^ k → 0 < k → length (decimal_in f n) ≤ k
unfolding decimal_in
decimal_length zero n k h p = omega arith
decimal_length (suc f) n zero h p = omega arith
decimal_length (suc f) n (suc zero) h p = rw (decimal_short f n h) (omega arith)
decimal_length (suc f) n (suc (suc k)) h p =
    by_order n 10 (λ few. rw (decimal_short f n few) (omega arith))
    (λ many.
    let most : n < 10 * 10 ^ suc k = rw (← pow-succ' 10 (suc k)) h in
    rw (decimal_long f n many, length-append)
    (omega (arith, decimal_length f (n / 10) (suc k) (omega arith) (omega arith))))

-- ---- the lines fit

-- the name of kind n, or that of a later one
short_name : (k n : ℕ) (name later : List ℕ) → length name ≤ 4 → length later ≤ 4
    → length (cond (eqb k n) name later) ≤ 4
short_name k n name later h l = by_cases (eqb k n) (λ e. rw e h) (λ e. rw e l)

kind_length : (k : ℕ) → length (kind_name k) ≤ 4
unfolding kind_name
kind_length k =
    short_name k 1 _ _ (omega arith) (short_name k 2 _ _ (omega arith) (short_name k 3 _ _ (omega arith)
    (short_name k 4 _ _ (omega arith) (short_name k 5 _ _ (omega arith) (short_name k 6 _ _ (omega arith)
    (short_name k 7 _ _ (omega arith) (omega arith)))))))

pub record_fits : (n : ℕ) (r : Record) → n < 2 ^ 8 → r.train.0 < 2 ^ 8 → r.from.0 < 2 ^ 8 → r.to.0 < 2 ^ 8
    → r.track.0 < 2 ^ 8 → length (record_line n r) ≤ record_line_length
record_fits n r h₀ h₁ h₂ h₃ h₄ =
    let d : (k : ℕ) → k < 2 ^ 8 → length (decimal k) ≤ 3 = λ k h. decimal_length 20 k 3 (omega arith) (lit< tt) in
    simp length-append
    (omega (
      arith,
      kind_length r.kind,
      d n h₀,
      d r.train.0 h₁,
      d r.from.0 h₂,
      d r.to.0 h₃,
      d r.track.0 h₄,
    ))

pub end_fits : (logged refused : ℕ) → logged < 2 ^ 8 → refused < 2 ^ 64
    → length (end_line logged refused) ≤ end_line_length
end_fits n m h k =
    simp length-append
    (omega (arith, decimal_length 20 n 3 (omega arith) (lit< tt), decimal_length 20 m 20 (omega arith) (lit< tt)))

pub book_fits : (n : ℕ) → n < 2 ^ 8 → length (book_line n) ≤ end_line_length
book_fits n h = simp length-append (omega (arith, decimal_length 20 n 3 (omega arith) (lit< tt)))
