-- The tests of a state as the code groups them: the counts, each train's record, each post with its section and the
-- tracks held there.
use Rattle.std.specs.Prelude.{Bool, ◌&&◌, ℕ, ◌/◌, ◌%◌, ◌^◌, leb, ltb, eqb, get_or}
use Rattle.std.specs.Int.Count.{ones}
use Rattle.common.specs.Below.{all_below}
use Rattle.line.specs.Line.{in_range, names_posts}
use Rattle.line.specs.Holding.{post_holders}
use Rattle.rules.specs.State.{train_of, located, holders_of}
use Rattle.rules.specs.Valid.{train_valid, track_valid, away_valid, most_given}
use Rattle.validity.specs.Types.{Route, Train, State}

-- so many posts and trains, sidings at posts of the line, and so many local runs given
abbrev pub counts_valid : ℕ → ℕ → ℕ → ℕ → Bool
counts_valid posts sidings trains given =
    in_range 2 8 posts && names_posts posts sidings && leb given most_given && in_range 1 6 trains

-- a route on a line of so many posts
abbrev pub on_line : ℕ → Route → Bool
on_line posts r = ltb r.start.0 posts && ltb r.end.0 posts

abbrev pub record_valid : ℕ → ℕ → Train → Bool
record_valid posts sidings x = on_line posts x.route && (train_valid x && away_valid sidings x)

abbrev pub records_valid : State → Bool
records_valid s = all_below s.trains (λ t. record_valid s.posts s.sidings (train_of s t))

-- a post of so many tracks with h holders, and the section after it with i
abbrev pub held_within : ℕ → ℕ → ℕ → Bool
held_within tracks h i = in_range 1 4 tracks && (leb h tracks && leb i 1)

-- the set of the tracks held at it: neither that of number 0 nor one above the last, and one for each holder
abbrev pub own_tracks : ℕ → ℕ → ℕ → Bool
own_tracks tracks h set = eqb (set % 2) 0 && (ltb (set / 2 ^ tracks) 2 && eqb (ones set) h)

abbrev pub place_valid : State → ℕ → Bool
place_valid s p =
    held_within (get_or s.tracks p 0) (post_holders s.trains (located s) p) (holders_of s p)
    && all_below s.trains (track_valid s p)
