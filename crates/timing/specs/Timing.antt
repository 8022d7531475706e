-- 02, card 5: "For two posts L metres apart and a speed of v km/h the answer is whole seconds q and the rest r, where
-- 18 × L = 5 × v × q + r and r is below 5 × v."
use Rattle.std.specs.Prelude.{◌&&◌, List, [], ◌∷◌, ◌++◌, ℕ, ◌*◌, ◌/◌, ◌%◌, ltb}
use Rattle.common.specs.Check.{Check, check, refusal, unless_refused}
use Rattle.line.specs.Refusal as number
use Rattle.line.specs.Line.{in_range}
use Rattle.line.specs.Route.{distance}
use Rattle.line.specs.Positions.{metres_at}
use Rattle.line.specs.Book.{last_edition, posts_of, positions_of, book_checks_from}
pub use Rattle.timing.specs.declared.timing.Time.{Time}
pub use Rattle.std.specs.declared.result.Result.{Result}
pub use Rattle.std.specs.declared.result.Result.TheVariants.{Ok, Err}

-- how far two posts of a book are apart, whichever is named first
abbrev pub metres : List ℕ → ℕ → ℕ → ℕ
metres b p q = distance (metres_at (positions_of b) p) (metres_at (positions_of b) q)

-- so many metres at v km/h: a second is 5 v eighteenths of a metre
abbrev pub timed : ℕ → ℕ → Time
timed m v = record { seconds = 18 * m / (5 * v); rest = 18 * m % (5 * v) }

-- ---- when a question is refused

abbrev pub most_speed : ℕ
most_speed = 160

-- "a post not in the line is 9. .. 28, v not 1 to 160, is tested after the posts."
abbrev pub question_checks : List ℕ → ℕ → ℕ → ℕ → List Check
question_checks b p q v =
    check number.wrong_post (ltb p (posts_of b) && ltb q (posts_of b))
    ∷ check number.speed (in_range 1 most_speed v)
    ∷ []

-- "The book is read first, and in it, at 4's place, a version not 3 is 4"
abbrev pub time_checks : List ℕ → ℕ → ℕ → ℕ → List Check
time_checks b p q v = book_checks_from last_edition b ++ question_checks b p q v

-- ---- the answer

-- a question that is refused has its number, and no time
abbrev pub no_time : ℕ → Result Time ℕ
no_time n = Err n

unfoldable pub running_time : List ℕ → ℕ → ℕ → ℕ → Result Time ℕ
running_time b p q v = unless_refused (refusal (time_checks b p q v)) (Ok (timed (metres b p q) v)) no_time

-- the number that a question is refused by; 0 of one that is answered
abbrev pub time_refusal : Result Time ℕ → ℕ
time_refusal (Ok t) = 0
time_refusal (Err n) = n
