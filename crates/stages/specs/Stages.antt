-- The stages in which a book is read, one for each part of its checks. Nothing above the reading cites them.
use Rattle.std.specs.Prelude.{◌≡◌, List, ◌++◌, ℕ, ◌<◌, length}
use Rattle.common.specs.Check.{Check, refusal, unless_refused}
use Rattle.line.specs.declared.line.Line.{Line}
use Rattle.line.specs.declared.line.Reading.{Reading}
use Rattle.line.specs.Book.{posts_of, sidings_of, positions_of, trains_in, trains_of, line_in, posts_checks}
use Rattle.line.specs.Book.{tracks_checks}
use Rattle.line.specs.Book.{sidings_checks, positions_checks, trains_checks, routes_checks, accepted_book, refused_by}
pub use Rattle.stages.specs.declared.stage.Stage.{Stage}
pub use Rattle.stages.specs.declared.stage.Stage.TheVariants.{Passed, Stopped}

-- v where the checks of a stage pass, else the number of the first that fails
abbrev pub stage_of : List Check → ℕ → Stage
stage_of cs v = unless_refused (refusal cs) (Passed v) Stopped

-- the number that a stage stopped at; 0 of one that passed
abbrev pub number_of : Stage → ℕ
number_of (Passed n) = 0
number_of (Stopped n) = n

-- the editions from `least` on
abbrev pub posts_stage : ℕ → List ℕ → Stage
posts_stage least b = stage_of (posts_checks least b) (posts_of b)

abbrev pub tracks_stage : Line → Stage
tracks_stage l = stage_of (tracks_checks l) l.posts

abbrev pub sidings_stage : List ℕ → Stage
sidings_stage b = stage_of (sidings_checks (line_in b)) (sidings_of b)

-- the positions ps of n posts
abbrev pub positions_stage : ℕ → List ℕ → Stage
positions_stage n ps = stage_of (positions_checks n ps) n

abbrev pub trains_stage : List ℕ → Stage
trains_stage b = stage_of (trains_checks b) (trains_of b)

abbrev pub routes_stage : Line → Stage
routes_stage l = stage_of (routes_checks l) l.trains

-- ---- between the posts and the trains of a book

-- the posts were read: l has them with their tracks and sidings, ps are their positions, and there is a byte for the
-- number of trains
pub record PostsRead (b : List ℕ) (l : Line) (ps : List ℕ) : Type 0 where
  pub posts : l.posts ≡ posts_of b
  pub tracks : l.tracks ≡ (line_in b).tracks
  pub sidings : l.sidings ≡ sidings_of b
  pub positions : ps ≡ positions_of b
  pub room : trains_in b < length b

-- the checks that are left then
abbrev pub after_posts : List ℕ → List Check
after_posts b = trains_checks b ++ routes_checks (line_in b)

-- the book, read as far as these say
unfoldable pub read_trains : List ℕ → Reading
read_trains b = unless_refused (refusal (after_posts b)) (accepted_book (line_in b) (positions_of b)) refused_by
