-- 02, card 5: running times, to the second and the rest, and by which number a question is refused.
use Rattle.std.specs.Prelude.{◌≡◌, List, [], ◌∷◌, ◌++◌, ℕ}
use Rattle.common.specs.Below.{all_below}
use Rattle.common.specs.Check.{refusal, unless_refused}
use Rattle.common.specs.Tabulate.{values_from, padded}
use Rattle.line.specs.Positions.{positions_in_order}
use Rattle.line.specs.Book.{positioned, added}
use Rattle.timing.specs.declared.timing.Time.{Time}
use Rattle.timing.specs.Timing.{Result, Ok, no_time, running_time}
use Rattle.examples.specs.Reading.{refusal_of}
use Rattle.examples.specs.Books.{book_of, position}
use Rattle.examples.specs.Examples.{book_x}
use Rattle.distances.specs.Positions.{kilometre, up_to, positioned_x}

unfoldable pub asked : List ℕ → ℕ → ℕ → ℕ → Result Time ℕ
unfolding running_time refusal unless_refused values_from padded all_below positioned added positions_in_order
asked book p q v = running_time book p q v

-- the answer of so many seconds and the rest
abbrev pub time : ℕ → ℕ → Result Time ℕ
time seconds rest = Ok (record { seconds = seconds; rest = rest })

-- the longest line that a book can have
abbrev pub longest_line : List ℕ
longest_line = up_to (0 ∷ 127 ∷ 255 ∷ 255 ∷ [])

-- "18 × L = 5 × v × q + r and r is below 5 × v"
pub record Times : Type 0 where
  -- 1,000 metres at 60 km/h, in both directions
  pub up : asked kilometre 0 1 60 ≡ time 60 0
  pub down : asked kilometre 1 0 60 ≡ time 60 0
  -- 1,234 at 50, 1 at 160, 750 at 25
  pub with_rest : asked (up_to (position 4 210)) 0 1 50 ≡ time 88 212
  pub no_second : asked (up_to (position 0 1)) 0 1 160 ≡ time 0 18
  pub exact : asked (up_to (position 2 238)) 0 1 25 ≡ time 108 0
  -- 8,388,607 at 1 and at 160
  pub slowest : asked longest_line 0 1 1 ≡ time 30198985 1
  pub fastest : asked longest_line 0 1 160 ≡ time 188743 526
  -- between posts that are not neighbours, and between the second and the third
  pub whole_way : asked positioned_x 0 2 50 ≡ time 180 0
  pub second_section : asked positioned_x 2 1 50 ≡ time 108 0
  -- the same post twice
  pub nowhere : asked kilometre 1 1 160 ≡ time 0 0

-- "The book is read first, and in it, at 4's place, a version not 3 is 4; a post not in the line is 9 .. 28, v not 1 to
-- 160, is tested after the posts."
pub record TimeRefusals : Type 0 where
  -- editions 1, 2 and 4; a wrong length comes before, and 15 after
  pub first_edition_lem : asked book_x 0 1 60 ≡ no_time 4
  pub second_edition : asked (book_of 11 2 3 (1 ∷ 2 ∷ 1 ∷ 0 ∷ []) 2 (0 ∷ 2 ∷ 2 ∷ 0 ∷ [])) 0 1 60 ≡ no_time 4
  pub fourth_edition : asked (book_of 16 4 9 (1 ∷ 1 ∷ 0 ∷ position 0 0 ++ position 3 232) 1 (0 ∷ 1 ∷ [])) 0 1 60
      ≡ no_time 4
  pub torn : asked (book_of 15 2 2 (1 ∷ 1 ∷ 0 ∷ position 0 0 ++ position 3 232) 1 (0 ∷ 1 ∷ [])) 0 1 60 ≡ no_time 14
  -- what is wrong with the book comes before what is wrong with the question, to the last of its numbers
  pub posts : asked (book_of 16 3 9 (1 ∷ 1 ∷ 0 ∷ position 0 0 ++ position 3 232) 1 (0 ∷ 1 ∷ [])) 9 9 0 ≡ no_time 15
  pub positions : asked (up_to (position 0 0)) 2 2 0 ≡ no_time 27
  pub off_the_line_lem : asked (book_of 16 3 2 (1 ∷ 1 ∷ 0 ∷ position 0 0 ++ position 3 232) 1 (0 ∷ 2 ∷ [])) 2 2 0
      ≡ no_time 18
  -- either post, at P and past it, before the speed
  pub from : asked kilometre 2 1 0 ≡ no_time 9
  pub to : asked kilometre 0 255 161 ≡ no_time 9
  -- 0, 161, and 416, which is 160 in a byte
  pub standing : asked kilometre 0 1 0 ≡ no_time 28
  pub too_fast : asked kilometre 0 1 161 ≡ no_time 28
  pub one_byte : asked kilometre 0 1 416 ≡ no_time 28

-- two trains that face each other on single tracks, and two that start at a post with one track
abbrev pub jammed : List ℕ
jammed = book_of 18 3 2 (1 ∷ 1 ∷ 0 ∷ position 0 0 ++ position 3 232) 2 (0 ∷ 1 ∷ 1 ∷ 0 ∷ [])

abbrev pub overfull_start : List ℕ
overfull_start = book_of 18 3 2 (1 ∷ 1 ∷ 0 ∷ position 0 0 ++ position 3 232) 2 (0 ∷ 1 ∷ 0 ∷ 1 ∷ [])

-- a book that the opening refuses, since its trains cannot be placed or get through, is answered
pub record AnsweredAllTheSame : Type 0 where
  pub jam : (refusal_of jammed ≡ 20) × (asked jammed 0 1 60 ≡ time 60 0)
  pub overfull : (refusal_of overfull_start ≡ 19) × (asked overfull_start 0 1 60 ≡ time 60 0)
