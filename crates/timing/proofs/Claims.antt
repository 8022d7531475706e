-- The claims about the running time: a question that is answered passes every check, and division with rest gives one
-- pair.
use mathlib.Core.Path.{◌≡◌, refl, sym, ap, ◌∙◌}
use mathlib.Core.Logic.{◌≢◌, ◌⊎◌, inl, inr}
use mathlib.Core.Bool.{Bool, true, false, ◌&&◌, true≢false}
use mathlib.Core.List.{List}
use Prim.Native.Nat.{ℕ, zero, suc, ◌+◌, ◌*◌, ◌/◌, ◌^◌, ◌≤◌, ◌<◌}
use native.Mathlib.Nat.{div-add-mod, div-le_self, mod-lt, mul-add, mul_comm, zero-div, zero-mod}
use native.Mathlib.Omega.{arith}
use lib.Dec.{ltb}
use lib.ListN.{length}
use borrow.Author.Tests.{ltb-true}
use Rattle.common.specs.Check.{refusal, unless_refused}
use Rattle.common.proofs.Tests.{and_left, and_right}
use Rattle.common.proofs.Check.{passed_by, both_pass, clear, not_given, accepts, number_told}
use Rattle.common.proofs.Word.{high_digit}
use Rattle.line.specs.Refusal as number
use Rattle.line.specs.declared.line.Line.{Line}
use Rattle.line.specs.Book.{last_edition, named_length, posts_of, edition_of, positions_of, line_in, book_checks_from}
use Rattle.line.specs.Book.{accepted_book, refused_by, read_from, read_positioned, outcome_number}
use Rattle.line.specs.Positions.{metres_at}
use Rattle.line.proofs.WellFormed.{low, high}
use Rattle.line.proofs.InOrder.{no_nearer}
use Rattle.line.proofs.ReadingLaws.{read_number}
use Rattle.line.proofs.Positions.{positions}
use Rattle.line.proofs.Positioned.{in_order}
use Rattle.std.specs.Result.{is_ok}
use Rattle.timing.specs.Timing.{Time, Result, Ok, Err, most_speed, metres, timed, question_checks, time_checks}
use Rattle.timing.specs.Timing.{no_time, running_time, time_refusal}
use Rattle.timing.specs.Claims.{Divides, Asked, RunningTime}
use Rattle.timing.proofs.Cases.{metres_read, few_metres, refused_book_lem, from_off, to_off, too_slow}
use Rattle.timing.proofs.Cases.{too_fast, is_timed}

-- ---- division with rest

one_pair : (d s u r w : ℕ) → r < d → w < d → d * s + r ≡ d * u + w → (s ≡ u) × (r ≡ w)
one_pair d s u r w h k e =
    let same : s ≡ u = high_digit d s u r w h k (rw (mul_comm s d, mul_comm u d) e) in
    let rests : d * u + r ≡ d * u + w = rw same at e in
    (same, omega arith)

-- ---- the time of an answer

abbrev time_or : Time → Result Time ℕ → Time
time_or d (Ok t) = t
time_or d (Err n) = d

-- what has no time has a number
some_number : (k : ℕ) (t : Time) (n : ℕ) → unless_refused k (Ok t) no_time ≡ no_time n → 0 < n
unfolding unless_refused
some_number zero t n e = absurd (true≢false (ap is_ok e))
some_number (suc k) t n e = let same : suc k ≡ n = ap time_refusal e in omega arith

-- ---- the number of a question

module _ (b : List ℕ) (p q v : ℕ) where
  pub time_number : time_refusal (running_time b p q v) ≡ refusal (time_checks b p q v)
  unfolding running_time
  time_number =
      number_told time_refusal (Ok (timed (metres b p q) v)) no_time refl (λ k. refl) (refusal (time_checks b p q v))

  no_time_lem : time_refusal (running_time b p q v) ≢ 0 → (t : Time) → running_time b p q v ≢ Ok t
  no_time_lem h t e = h (ap time_refusal e)

  numbered : (n : ℕ) → running_time b p q v ≡ no_time n → 0 < n
  unfolding running_time
  numbered n e = some_number _ _ n e

  -- ---- who is answered

  pub answered : time_refusal (running_time b p q v) ≡ 0 → Asked b p q v
  unfolding read_from
  answered e =
      let both = both_pass (book_checks_from last_edition b) (question_checks b p q v) refl (sym time_number ∙ e) in
      let passed = passed_by (question_checks b p q v) refl both.1 in
      record {
        line = line_in b;
        positions = positions_of b;
        read = accepts (accepted_book (line_in b) (positions_of b)) refused_by both.0;
        from = ltb-true _ _ (and_left (ltb p (posts_of b)) _ (passed number.wrong_post));
        to = ltb-true _ _ (and_right (ltb p (posts_of b)) _ (passed number.wrong_post));
        slow = low 1 most_speed v (passed number.speed);
        fast = high 1 most_speed v (passed number.speed);
      }

  module _ (a : Asked b p q v) where
    time_is : Ok (timed (metres b p q) v) ≡ running_time b p q v
    time_is = is_timed b p q v a.line a.positions a.read a.from a.to a.slow a.fast

    pub accepted : (t : Time) × (running_time b p q v ≡ Ok t)
    accepted = (timed (metres b p q) v, sym time_is)

  -- ---- what is answered

  module _ (t : Time) (is : running_time b p q v ≡ Ok t) where
    abbrev way : ℕ
    way = 18 * metres b p q

    asked : Asked b p q v
    asked = answered (ap time_refusal is)

    some : 0 < 5 * v
    some = omega (arith, asked.slow)

    time_same : timed (metres b p q) v ≡ t
    time_same = ap (time_or t) (time_is asked ∙ is)

    pub divides : Divides (metres b p q) v t.seconds t.rest
    divides = rw (← time_same) record {
      exact = sym (div-add-mod way (5 * v));
      small = mod-lt way some;
    }

    only : (s r : ℕ) → Divides (metres b p q) v s r → (s ≡ t.seconds) × (r ≡ t.rest)
    only s r d =
        one_pair (5 * v) s _ r _ d.small divides.small (sym d.exact ∙ divides.exact)

    -- 32 bits hold both
    pub in_32_bits : (t.seconds < 2 ^ 32) × (t.rest < 2 ^ 32)
    in_32_bits =
        let a = asked in
        let far = metres_read b a.line a.positions a.read p q in
        let few = few_metres b a.line a.positions a.read p q a.from a.to in
        let seconds : way / (5 * v) ≤ way = div-le_self way (5 * v) in
        let rest = mod-lt way some in
        rw (← time_same) (omega arith, omega (arith, a.fast))

  -- ---- who is refused

  book_first : (n : ℕ) → outcome_number (read_positioned b).outcome ≡ n → n ≢ 0 → running_time b p q v ≡ no_time n
  book_first n e h = sym (refused_book_lem b p q v n (sym (read_number last_edition b) ∙ e) (omega arith))

  other_edition_lem : 4 ≤ length b → named_length b ≡ length b → edition_of b ≢ last_edition
      → running_time b p q v ≡ no_time number.other_edition
  other_edition_lem long right e =
      book_first number.other_edition (positions.asked_for_lem b long right e) (λ z. omega arith)

  not_met : (n : ℕ) → ltb 0 n ≡ true → clear n (time_checks b p q v) ≡ true → time_refusal (running_time b p q v) ≢ n
  not_met n h k = rw time_number (not_given n (time_checks b p q v) (ltb-true 0 n h) k)

  module _ (l : Line) (ps : List ℕ) (is_read : read_positioned b ≡ accepted_book l ps) where
    then_posts : (l.posts ≤ p) ⊎ (l.posts ≤ q) → running_time b p q v ≡ no_time number.wrong_post
    then_posts (inl h) = sym (from_off b p q v l ps is_read h)
    then_posts (inr h) = sym (to_off b p q v l ps is_read h)

    then_speed : p < l.posts → q < l.posts → (v < 1) ⊎ (most_speed < v) → running_time b p q v ≡ no_time number.speed
    then_speed from to (inl h) = sym (too_slow b p q v l ps is_read from to h)
    then_speed from to (inr h) = sym (too_fast b p q v l ps is_read from to h)

-- ---- the metres, and two ways one after the other

apart : (b : List ℕ) (p q v : ℕ) (a : Asked b p q v) → metres_at a.positions p ≤ metres_at a.positions q
    → metres_at a.positions p + metres b p q ≡ metres_at a.positions q
apart b p q v a up = let far = metres_read b a.line a.positions a.read p q in omega arith

-- the same asked between two other posts of the line
abbrev asked_between : {b : List ℕ} {p q v : ℕ} (a : Asked b p q v) (x y : ℕ)
    → x < a.line.posts → y < a.line.posts → Asked b x y v
asked_between a x y from to = record {
  line = a.line;
  positions = a.positions;
  read = a.read;
  from = from;
  to = to;
  slow = a.slow;
  fast = a.fast;
}

adds_up : (b : List ℕ) (p q r v : ℕ) → p ≤ q → q ≤ r → Asked b p r v
    → (s : Time) × (t : Time) × (u : Time)
    × (running_time b p q v ≡ Ok s) × (running_time b q r v ≡ Ok t) × (running_time b p r v ≡ Ok u)
    × (5 * v * (s.seconds + t.seconds) + (s.rest + t.rest) ≡ 5 * v * u.seconds + u.rest)
adds_up b p q r v h k a =
    let near = no_nearer a.line.posts a.positions (in_order b a.line a.positions a.read) in
    let first = asked_between a p q a.from (omega (arith, a.to)) in
    let second = asked_between a q r (omega (arith, a.to)) a.to in
    let one = apart b p q v first (near p q h (omega (arith, a.to))) in
    let other = apart b q r v second (near q r k a.to) in
    let whole = apart b p r v a (near p r (omega arith) a.to) in
    let s = accepted b p q v first in
    let t = accepted b q r v second in
    let u = accepted b p r v a in
    let s-exact = (divides b p q v s.0 s.1).exact in
    let t-exact = (divides b q r v t.0 t.1).exact in
    let u-exact = (divides b p r v u.0 u.1).exact in
    (s.0, t.0, u.0, s.1, t.1, u.1, rw mul-add (omega arith))

-- ---- the posts exchanged, and the same post twice

both_ways : (x y : Bool) → x && y ≡ y && x
both_ways true true = refl
both_ways true false = refl
both_ways false true = refl
both_ways false false = refl

either_way : (b : List ℕ) (p q v : ℕ) → running_time b p q v ≡ running_time b q p v
unfolding running_time
either_way b p q v =
    let far : metres b p q ≡ metres b q p = omega arith in
    rw (far, both_ways (ltb p (posts_of b)) (ltb q (posts_of b)))

same_post : (b : List ℕ) (p v : ℕ) (t : Time) → running_time b p p v ≡ Ok t → (t.seconds ≡ 0) × (t.rest ≡ 0)
same_post b p v t is =
    let none : metres b p p ≡ 0 = omega arith in
    rw (← time_same b p p v t is, none) (zero-div _, zero-mod _)

pub running_time_lem : RunningTime
running_time_lem = record {
  answered = answered;
  accepted = accepted;
  apart = apart;
  divides = divides;
  only = only;
  either_way = either_way;
  same_post = same_post;
  adds_up = adds_up;
  no_time_lem = no_time_lem;
  numbered = numbered;
  book_first = λ b p q v n. book_first b p q v n;
  other_edition_lem = other_edition_lem;
  then_posts = then_posts;
  then_speed = then_speed;
  not_2 = λ b p q v. not_met b p q v _ refl refl;
  not_19 = λ b p q v. not_met b p q v _ refl refl;
  not_20 = λ b p q v. not_met b p q v _ refl refl;
}
