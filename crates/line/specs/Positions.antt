-- 02, card 5: "each post's position in metres". Positions stand beside a line, as a list, and are no part of it.
use Rattle.std.specs.Prelude.{Bool, ◌&&◌, List, ℕ, ◌+◌, ◌-◌, leb, ltb, eqb, get_or}
use Rattle.common.specs.Below.{all_below}

-- the position of post p
abbrev pub metres_at : List ℕ → ℕ → ℕ
metres_at ps p = get_or ps p 0

-- how far from the first post a post can be
abbrev pub most_metres : ℕ
most_metres = 8388607

-- the positions of n posts are none of these: "not from 0, not strictly rising, or above 8,388,607". Where no post has
-- one, 0 stands at the first place, and there is nothing else to test.
unfoldable pub positions_in_order : ℕ → List ℕ → Bool
positions_in_order n ps =
    eqb (metres_at ps 0) 0
    && (all_below (n - 1) (λ p. ltb (metres_at ps p) (metres_at ps (p + 1)))
    && all_below n (λ p. leb (metres_at ps p) most_metres))
