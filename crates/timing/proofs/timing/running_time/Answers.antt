-- `running_time` meets its contract: at each `return` the checks that passed, and the one that fails, give the refusal;
-- where all pass, the positions that were read give the metres.
use mathlib.Core.Path.{◌≡◌, ◌∙◌}
use native.Mathlib.Omega.{arith}
use borrow.Author.Rules.{rules}
use Rattle.timing.specs.Timing.{Err}
use Rattle.timing.proofs.Cases.{book_refused, off_posts, off_speed, positioned, few_apart, told}
use Rattle.timing.proofs.timing.running_time.Goals as goal

pub returns-in_err-reading : goal.returns-in_err-reading
returns-in_err-reading c =
    let refused : c.from_residual.result ≡ Err c.in_err-reading.field-0.0 = search rules in
    refused ∙ book_refused _ _ _ _ _ c.read_positioned-reading.ensures _ c.in_err-reading.was

pub returns-then-posts-from : goal.returns-then-posts-from
returns-then-posts-from c =
    off_posts _ _ _ _ _ c.read_positioned-reading.ensures c.in_ok-reading.was c.then-posts-from.either

pub returns-then-speed-lt1 : goal.returns-then-speed-lt1
returns-then-speed-lt1 c =
    off_speed _ _ _ _ _ c.read_positioned-reading.ensures c.in_ok-reading.was (omega arith) (omega arith)
    c.then-speed-lt1.either

pub bounds-reading-from : goal.bounds-reading-from
bounds-reading-from c =
    (positioned _ _ c.args.to.0 0 _ c.read_positioned-reading.ensures c.in_ok-reading.was (omega arith) (omega arith)).0

pub bounds-reading-to : goal.bounds-reading-to
bounds-reading-to c =
    (positioned _ c.args.«from».0 _ 0 _ c.read_positioned-reading.ensures c.in_ok-reading.was (omega arith)
    (omega arith)).1

pub timed-requires : goal.timed-requires
timed-requires c = (
  rw c.abs_diff.ensures
      (few_apart _ _ _ 0 _ c.read_positioned-reading.ensures c.in_ok-reading.was (omega arith) (omega arith)),
  omega arith,
  omega arith,
)

pub returns : goal.returns
returns c =
    rw (c.timed.ensures, c.abs_diff.ensures)
    (told _ _ _ _ _ c.read_positioned-reading.ensures c.in_ok-reading.was (omega arith) (omega arith) (omega arith)
    (omega arith))
