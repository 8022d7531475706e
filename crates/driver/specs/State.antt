-- The unit's state: its present and next post, its own move and its last one, its phases, and when it is valid (01:
-- sound).
use Rattle.std.specs.Prelude.{Bool, true, false, not, ◌&&◌, ◌||◌, ℕ, eqb, leb}
use Rattle.line.specs.Route.{next_post, between}
use Rattle.frame.specs.Frame.{move_of}
use Rattle.driver.specs.Types.{Move, Phase, Standing, Asked, Declined, Granted, UnderWay, Arrived, Unit}

-- "States: Standing, Asked, Declined, Granted, Under way, Arrived."
abbrev pub phase_no : Phase → ℕ
phase_no Standing = 0
phase_no Asked = 1
phase_no Declined = 2
phase_no Granted = 3
phase_no UnderWay = 4
phase_no Arrived = 5

unfoldable pub same_phase : Phase → Phase → Bool
same_phase p q = eqb (phase_no p) (phase_no q)

-- it has asked and has no authority yet
abbrev pub awaiting : Phase → Bool
awaiting Standing = false
awaiting Asked = true
awaiting Declined = true
awaiting Granted = false
awaiting UnderWay = false
awaiting Arrived = false

-- "train (0 to 5), start and end (0 to 7)"
unfoldable pub numbers_fit : ℕ → ℕ → ℕ → Bool
numbers_fit train start end = leb train 5 && (leb start 7 && leb end 7)

-- whether the unit is at its end, where there is no next post
abbrev pub ended : Unit → Bool
ended u = eqb u.at.0 u.route.end.0

-- the move of the unit's own train from its present to its next post
abbrev pub own_move : Unit → Move
own_move u = move_of u.train.0 u.at.0 (next_post u.at.0 u.route.end.0)

-- "past the start": the present post is not the start
abbrev pub past_start : Unit → Bool
past_start u = not (eqb u.at.0 u.route.start.0)

-- 02, card 6: "the last move": that of the unit's own train to its present post, from the post before that, seen from
-- the start. At the start there is none.
abbrev pub last_move : Unit → Move
last_move u = move_of u.train.0 (next_post u.at.0 u.route.start.0) u.at.0

-- "train and posts are in range", "the present post lies between start and end"
abbrev pub in_ranges : Unit → Bool
in_ranges u = numbers_fit u.train.0 u.route.start.0 u.route.end.0

abbrev pub on_route : Unit → Bool
on_route u = between u.route.start.0 u.at.0 u.route.end.0

-- "A unit state is sound if .., .., and only Standing may be at the end."
unfoldable pub valid_unit : Unit → Bool
valid_unit u = in_ranges u && (on_route u && (not (ended u) || same_phase u.phase Standing))

-- the unit in another phase
abbrev pub in_phase : Unit → Phase → Unit
in_phase u p = record { train = u.train; route = u.route; at = u.at; phase = p }
