-- The answer in the order in which the code tests the question: a law for each case.
use mathlib.Core.Path.{◌≡◌, refl, sym, ap}
use mathlib.Core.Logic.{◌⊎◌, inl, inr}
use mathlib.Core.Bool.{true, false, ◌&&◌, and-false}
use mathlib.Core.List.{List}
use Prim.Native.Nat.{ℕ, ◌≤◌, ◌<◌}
use native.Mathlib.Omega.{arith}
use lib.Dec.{ltb}
use borrow.Author.Tests.{lt-ltb, le-ltb}
use Rattle.std.specs.Int.{abs_diff}
use Rattle.common.specs.Check.{refusal}
use Rattle.common.proofs.Tests.{and_both}
use Rattle.common.proofs.Check.{Refuses, none, stop, pass, pass_all, accepted_by, refused_by_lem}
use Rattle.line.specs.Refusal as number
use Rattle.line.specs.declared.line.Line.{Line}
use Rattle.line.specs.declared.line.Reading.{Reading}
use Rattle.line.specs.Line.{in_range}
use Rattle.line.specs.Route.{distance}
use Rattle.line.specs.Positions.{metres_at, most_metres}
use Rattle.line.specs.Book.{last_edition, posts_of, book_checks_from, accepted_book}
use Rattle.line.specs.Book.{read_positioned, outcome_number}
use Rattle.line.proofs.WellFormed.{ranged, below_range, above_range}
use Rattle.line.proofs.InOrder.{bounded}
use Rattle.line.proofs.ReadingLaws as reading
use Rattle.line.proofs.Positioned.{book_passed, posts_same, positions_same, few_posts, in_order}
use Rattle.timing.specs.Timing.{Ok, Err, most_speed, metres, timed, question_checks, time_checks, no_time, running_time}

-- ---- a book that is read

module _ (b : List ℕ) (l : Line) (ps : List ℕ) (is_read : read_positioned b ≡ accepted_book l ps) where
  module _ (p q : ℕ) where
    -- the metres by the positions that were read
    pub metres_read : metres b p q ≡ distance (metres_at ps p) (metres_at ps q)
    metres_read = rw (positions_same b l ps is_read)

    pub few_metres : p < l.posts → q < l.posts → distance (metres_at ps p) (metres_at ps q) ≤ most_metres
    few_metres from to =
        let each = bounded l.posts ps (in_order b l ps is_read) in
        omega (arith, each p from, each q to)

-- ---- the question

module _ (b : List ℕ) (p q v : ℕ) where
  -- the refusal of the question is that of the book
  pub refused_book_lem : (n : ℕ) → refusal (book_checks_from last_edition b) ≡ n → 0 < n
      → no_time n ≡ running_time b p q v
  unfolding running_time
  refused_book_lem = reading.refused_book_lem last_edition b (question_checks b p q v)
      (Ok (timed (metres b p q) v)) no_time

  -- the same by the outcome
  pub book_refused : (r : Reading) → r ≡ read_positioned b → (k : ℕ) → r.outcome ≡ Err k
      → Err k ≡ running_time b p q v
  unfolding running_time
  book_refused r is k stopped =
      reading.book_refused last_edition b (question_checks b p q v) (Ok (timed (metres b p q) v)) no_time
      r is k stopped k (sym (ap outcome_number stopped))

  module _ (l : Line) (ps : List ℕ) (is_read : read_positioned b ≡ accepted_book l ps) where
    same : l.posts ≡ posts_of b
    same = posts_same b l ps is_read

    after_book : {n : ℕ} → Refuses (question_checks b p q v) n → Refuses (time_checks b p q v) n
    after_book r = pass_all (book_checks_from last_edition b) refl (book_passed b l ps is_read) r

    -- 9
    off : ltb p (posts_of b) && ltb q (posts_of b) ≡ false → no_time number.wrong_post ≡ running_time b p q v
    unfolding running_time
    off h = refused_by_lem (Ok (timed (metres b p q) v)) no_time (omega arith) (after_book (stop h))

    pub from_off : l.posts ≤ p → no_time number.wrong_post ≡ running_time b p q v
    from_off h = off (rw (le-ltb p (posts_of b) (rw same at h)))

    pub to_off : l.posts ≤ q → no_time number.wrong_post ≡ running_time b p q v
    to_off h = off (rw (le-ltb q (posts_of b) (rw same at h)) (and-false (ltb p (posts_of b))))

    module _ (from : p < l.posts) (to : q < l.posts) where
      on : ltb p (posts_of b) && ltb q (posts_of b) ≡ true
      on = and_both _ _ (lt-ltb p (posts_of b) (rw same at from)) (lt-ltb q (posts_of b) (rw same at to))

      -- 28
      other_speed : in_range 1 most_speed v ≡ false → no_time number.speed ≡ running_time b p q v
      unfolding running_time
      other_speed h = refused_by_lem (Ok (timed (metres b p q) v)) no_time (omega arith) (after_book (pass on (stop h)))

      pub too_slow : v < 1 → no_time number.speed ≡ running_time b p q v
      too_slow h = other_speed (below_range 1 most_speed v h)

      pub too_fast : most_speed < v → no_time number.speed ≡ running_time b p q v
      too_fast h = other_speed (above_range 1 most_speed v h)

      pub is_timed : 1 ≤ v → v ≤ most_speed → Ok (timed (metres b p q) v) ≡ running_time b p q v
      unfolding running_time
      is_timed slow fast =
          accepted_by (Ok (timed (metres b p q) v)) no_time
          (after_book (pass on (pass (ranged 1 most_speed v slow fast) none)))

-- ---- by the reading that the code has

module _ (b : List ℕ) (p q v : ℕ) (r : Reading) (is : r ≡ read_positioned b) (whole : r.outcome ≡ Ok tt) where
  is_read : read_positioned b ≡ accepted_book r.line r.positions
  is_read = reading.read_as last_edition b r is whole

  pub off_posts : {A : Type 0} → (r.line.posts ≤ p) ⊎ (A × (r.line.posts ≤ q))
      → Err number.wrong_post ≡ running_time b p q v
  off_posts (inl h) = from_off b p q v r.line r.positions is_read h
  off_posts (inr h) = to_off b p q v r.line r.positions is_read h.1

  module _ (from : p < r.line.posts) (to : q < r.line.posts) where
    pub off_speed : {A : Type 0} → (v < 1) ⊎ (A × (most_speed < v)) → Err number.speed ≡ running_time b p q v
    off_speed (inl h) = too_slow b p q v r.line r.positions is_read from to h
    off_speed (inr h) = too_fast b p q v r.line r.positions is_read from to h.1

    -- both have a position
    pub positioned : (p < 8) × (q < 8)
    positioned = let few = few_posts b r.line r.positions is_read in (omega arith, omega arith)

    apart_is : abs_diff (metres_at r.positions p) (metres_at r.positions q) ≡ metres b p q
    apart_is = let far = metres_read b r.line r.positions is_read p q in omega arith

    pub few_apart : abs_diff (metres_at r.positions p) (metres_at r.positions q) ≤ most_metres
    few_apart =
        rw (apart_is, metres_read b r.line r.positions is_read p q)
        (few_metres b r.line r.positions is_read p q from to)

    pub told : 1 ≤ v → v ≤ most_speed
        → Ok (timed (abs_diff (metres_at r.positions p) (metres_at r.positions q)) v) ≡ running_time b p q v
    told slow fast = rw apart_is (is_timed b p q v r.line r.positions is_read from to slow fast)
