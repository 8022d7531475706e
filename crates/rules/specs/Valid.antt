-- When a state that is handed in is valid (01: sound).
use Rattle.std.specs.Prelude.{Bool, true, false, not, cond, ◌&&◌, ◌||◌, ℕ, leb, ltb, eqb, get_or}
use Rattle.common.specs.Below.{all_below}
use Rattle.line.specs.Route.{next_post, between}
use Rattle.line.specs.Line.{in_range, well_formed}
use Rattle.line.specs.Holding.{is_stabled, holds_post, post_holders}
use Rattle.rules.specs.Types.{Status, Free, Asked, Running, Train, State}
use Rattle.rules.specs.State.{is_free, is_nothing, is_last, at_end, track_at, train_of, line_of, located, holders_of}
use Rattle.rules.specs.State.{holds_track}

-- 02, card 6: "in a sound state none at its start, else the one-post move towards its end that reached the present
-- post": that came from the post before it, which is the next one on the way back to the start
abbrev pub last_valid : Train → Bool
last_valid x =
    cond (eqb x.at.0 x.route.start.0)
    (is_nothing x.last)
    (is_last x.last (next_post x.at.0 x.route.start.0) x.at.0)

-- "present posts lie between start and end (both counted), only trains short of their end are Asked or Running";
-- then the last finished move
abbrev pub train_valid : Train → Bool
train_valid x =
    between x.route.start.0 x.at.0 x.route.end.0
    && ((is_free x.status || not (at_end x)) && last_valid x)

-- "sections and tracks are held as above": "No section has two holders. .. The number of trains that hold a post is
-- never above its tracks." 02, card 4: "a gang is a holder".
abbrev pub sections_valid : State → Bool
sections_valid s = all_below s.posts (λ i. leb (holders_of s i) 1)

abbrev pub posts_valid : State → Bool
posts_valid s = all_below s.posts (λ p. leb (post_holders s.trains (located s) p) (get_or s.tracks p 0))

-- 02, card 2: "In a sound state the tracks held at a post differ and are in its count": at post p, that of train t
abbrev pub track_valid : State → ℕ → ℕ → Bool
track_valid s p t =
    let k = track_at (train_of s t) p in
    not (holds_post (located s t) p)
    || (in_range 1 (get_or s.tracks p 0) k && all_below t (λ u. not (holds_track s p k u)))

abbrev pub tracks_valid : State → Bool
tracks_valid s = all_below s.posts (λ p. all_below s.trains (track_valid s p))

-- "one put away in a siding has none"
abbrev pub away_valid : ℕ → Train → Bool
away_valid sidings x = not (is_stabled sidings x.route.end.0 x.at.0) || eqb x.track.0 0

-- "FA numbers are distinct and below that count"
abbrev pub number_below : Status → ℕ → Bool
number_below Free c = true
number_below (Asked n) c = ltb n c
number_below (Running k) c = true

abbrev pub same_number : Status → Status → Bool
same_number Free v = false
same_number (Asked m) Free = false
same_number (Asked m) (Asked n) = eqb m n
same_number (Asked m) (Running k) = false
same_number (Running k) v = false

abbrev pub number_valid : State → ℕ → Bool
number_valid s t =
    number_below (train_of s t).status s.logged
    && all_below t (λ u. not (same_number (train_of s t).status (train_of s u).status))

-- 02, card 4: "fewer than 20 local runs were given" before each of them
abbrev pub most_given : ℕ
most_given = 20

-- "A state is sound if P, T, the track counts and any other number kept are in their ranges and, for trains below T,
-- starts and ends are below P", then as above: all that is asked of a state but the range of its count
unfoldable pub consistent : State → Bool
consistent s =
    well_formed (line_of s)
    && leb s.given most_given
    && all_below s.trains (λ t. train_valid (train_of s t))
    && sections_valid s
    && posts_valid s
    && tracks_valid s
    && all_below s.trains (λ t. away_valid s.sidings (train_of s t))
    && all_below s.trains (number_valid s)

-- "the journal count is at most 176"; 02, card 7: "A state whose journal count is above 229 becomes strange, refusal
-- 1." With the records of one frame more, at most seven, they are the 236 that the journal has.
abbrev pub most_counted : ℕ
most_counted = 229

unfoldable pub valid : State → Bool
valid s = consistent s && leb s.logged most_counted
