-- `tracks_in_range` meets its contract: `all` tests the places below the number of posts.
use native.Mathlib.Omega.{arith}
use Rattle.std.proofs.Common.{rules}
use Rattle.line.specs.Line.{in_range}
use Rattle.form.proofs.FormTest.{first_test}
use Rattle.form.proofs.form.tracks_in_range.Goals as goal

pub returns : goal.returns
returns c = first_test c.args.line.now.tracks 0 (in_range 1 4) c.args.line.now.posts (omega arith) _ (search rules)
