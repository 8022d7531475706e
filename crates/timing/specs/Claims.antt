-- What is shown of the running time, beside the contract of `running_time`. `proofs/Claims.antt` has the proofs.
use Rattle.std.specs.Prelude.{◌≡◌, ◌≢◌, ◌⊎◌, List, ℕ, ◌+◌, ◌*◌, ◌≤◌, ◌<◌, length}
use Rattle.line.specs.Refusal as number
use Rattle.line.specs.declared.line.Line.{Line}
use Rattle.line.specs.Positions.{metres_at}
use Rattle.line.specs.Book.{named_length, edition_of, accepted_book, read_positioned, outcome_number}
use Rattle.timing.specs.Timing.{Time, Ok, metres, no_time, running_time, time_refusal}

-- "18 × L = 5 × v × q + r and r is below 5 × v", of m metres, s seconds and the rest r
pub record Divides (m v s r : ℕ) : Type 0 where
  pub exact : 18 * m ≡ 5 * v * s + r
  pub small : r < 5 * v

-- a question that a book with positions, two posts on its line and a speed in range make
pub record Asked (b : List ℕ) (p q v : ℕ) : Type 0 where
  pub line : Line
  pub positions : List ℕ
  pub read : read_positioned b ≡ accepted_book line positions
  pub from : p < line.posts
  pub to : q < line.posts
  pub slow : 1 ≤ v
  pub fast : v ≤ 160

pub record RunningTime : Type 0 where
  -- who is answered, and what: by the metres between the positions that were read, and no other pair of seconds and
  -- rest would do
  pub answered : (b : List ℕ) (p q v : ℕ) → time_refusal (running_time b p q v) ≡ 0 → Asked b p q v
  pub accepted : (b : List ℕ) (p q v : ℕ) → Asked b p q v → (t : Time) × (running_time b p q v ≡ Ok t)
  pub apart : (b : List ℕ) (p q v : ℕ) (a : Asked b p q v)
      → metres_at a.positions p ≤ metres_at a.positions q
      → metres_at a.positions p + metres b p q ≡ metres_at a.positions q
  pub divides : (b : List ℕ) (p q v : ℕ) (t : Time) → running_time b p q v ≡ Ok t
      → Divides (metres b p q) v t.seconds t.rest
  pub only : (b : List ℕ) (p q v : ℕ) (t : Time) → running_time b p q v ≡ Ok t
      → (s r : ℕ) → Divides (metres b p q) v s r
      → (s ≡ t.seconds) × (r ≡ t.rest)
  -- it does not matter which post is named first, and from a post to itself it takes no time
  pub either_way : (b : List ℕ) (p q v : ℕ) → running_time b p q v ≡ running_time b q p v
  pub same_post : (b : List ℕ) (p v : ℕ) (t : Time) → running_time b p p v ≡ Ok t → (t.seconds ≡ 0) × (t.rest ≡ 0)
  -- with the rests no second is lost: those of two ways, one after the other, and of both together
  pub adds_up : (b : List ℕ) (p q r v : ℕ) → p ≤ q → q ≤ r → Asked b p r v
      → (s : Time) × (t : Time) × (u : Time)
      × (running_time b p q v ≡ Ok s) × (running_time b q r v ≡ Ok t) × (running_time b p r v ≡ Ok u)
      × (5 * v * (s.seconds + t.seconds) + (s.rest + t.rest) ≡ 5 * v * u.seconds + u.rest)
  -- a question that is refused has no time, and has a number
  pub no_time_lem : (b : List ℕ) (p q v : ℕ) → time_refusal (running_time b p q v) ≢ 0
      → (t : Time) → running_time b p q v ≢ Ok t
  pub numbered : (b : List ℕ) (p q v n : ℕ) → running_time b p q v ≡ no_time n → 0 < n
  -- "The book is read first": what it is refused by, the question is
  pub book_first : (b : List ℕ) (p q v n : ℕ) → outcome_number (read_positioned b).outcome ≡ n → n ≢ 0
      → running_time b p q v ≡ no_time n
  -- "and in it, at 4's place, a version not 3 is 4"
  pub other_edition_lem : (b : List ℕ) (p q v : ℕ) → 4 ≤ length b → named_length b ≡ length b → edition_of b ≢ 3
      → running_time b p q v ≡ no_time number.other_edition
  -- "a post not in the line is 9", whatever the speed; "28, v not 1 to 160, is tested after the posts"
  pub then_posts : (b : List ℕ) (p q v : ℕ) (l : Line) (ps : List ℕ) → read_positioned b ≡ accepted_book l ps
      → (l.posts ≤ p) ⊎ (l.posts ≤ q) → running_time b p q v ≡ no_time number.wrong_post
  pub then_speed : (b : List ℕ) (p q v : ℕ) (l : Line) (ps : List ℕ) → read_positioned b ≡ accepted_book l ps
      → p < l.posts → q < l.posts → (v < 1) ⊎ (160 < v) → running_time b p q v ≡ no_time number.speed
  -- no store is lent and no train placed: whether the trains of the book could start or get through is not asked
  pub not_2 : (b : List ℕ) (p q v : ℕ) → time_refusal (running_time b p q v) ≢ number.short_store
  pub not_19 : (b : List ℕ) (p q v : ℕ) → time_refusal (running_time b p q v) ≢ number.overfull
  pub not_20 : (b : List ℕ) (p q v : ℕ) → time_refusal (running_time b p q v) ≢ number.no_way_through
