-- What the test of a grant answers.
use Rattle.std.specs.Prelude.{cond, List, ℕ}
use Rattle.rules.specs.State.{next_of, train_of, free_track}
use Rattle.rules.specs.Granting.{grantable}
use Rattle.authority.specs.Types.{State}

-- 02, card 2: "The test for a free track now returns which one": that for train t at its next post, or 0 where t cannot
-- be granted
abbrev pub grant_track : List ℕ → State → ℕ → ℕ
grant_track table s t = cond (grantable table s t) (free_track s t (next_of (train_of s t))) 0
