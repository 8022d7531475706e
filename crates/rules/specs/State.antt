-- One train's record and the state, read: the next post, where the train is and on which track, what it has travelled,
-- and who holds a section.
use Rattle.std.specs.Prelude.{Bool, true, false, cond, ◌&&◌, List, map, ℕ, ◌+◌, eqb, ltb, get_or, set}
use Rattle.common.specs.Below.{of_bool, any_below}
use Rattle.line.specs.Route.{next_post, distance}
use Rattle.line.specs.Line.{no_route}
use Rattle.line.specs.Holding.{Whereabouts, moving, standing, section_holders}
use Rattle.tracks.specs.Tracks.{has_track, unless_away, track_for}
use Rattle.frame.specs.Frame.{move_of}
use Rattle.completion.specs.Configuration.{Configuration}
use Rattle.rules.specs.Types.{Line, Move, Status, Free, Asked, Running, Last, None, Some, Train, State}

-- ---- one train

abbrev pub is_free : Status → Bool
is_free Free = true
is_free (Asked n) = false
is_free (Running k) = false

abbrev pub is_asked : Status → Bool
is_asked Free = false
is_asked (Asked n) = true
is_asked (Running k) = false

abbrev pub is_running : Status → Bool
is_running Free = false
is_running (Asked n) = false
is_running (Running k) = true

-- "an Asked train carries the journal number of its FA"
abbrev pub asked_as : Status → ℕ
asked_as Free = 0
asked_as (Asked n) = n
asked_as (Running k) = 0

-- the track at the post that a Running train runs to
abbrev pub track_ahead : Status → ℕ
track_ahead Free = 0
track_ahead (Asked n) = 0
track_ahead (Running k) = k.0

-- 02, card 6: no move is finished yet; the last finished one is that from post p to q
abbrev pub is_nothing : Last → Bool
is_nothing None = true
is_nothing (Some m) = false

abbrev pub is_last : Last → ℕ → ℕ → Bool
is_last None p q = false
is_last (Some m) p q = eqb m.0.0 p && eqb m.1.0 q

abbrev pub at_end : Train → Bool
at_end x = eqb x.at.0 x.route.end.0

-- the post after the present one on the way to its end
abbrev pub next_of : Train → ℕ
next_of x = next_post x.at.0 x.route.end.0

-- "A Running train, from its present post p to q, holds the section between them and a track at each of p and q. ..
-- Another train holds a track at its present post." 02, card 1: at its end, where there is a siding, it holds none.
abbrev pub located_at : ℕ → Train → Whereabouts
located_at sidings x =
    cond (is_running x.status) (moving x.at.0 (next_of x)) (standing sidings x.route.end.0 x.at.0)

-- the track that it has at post p, where it holds one there
abbrev pub track_at : Train → ℕ → ℕ
track_at x p = cond (eqb x.at.0 p) x.track.0 (track_ahead x.status)

-- the posts travelled, and one more for a train that is Running: it "has reached its next post"
abbrev pub reached_by : Train → ℕ
reached_by x = distance x.route.start.0 x.at.0 + of_bool (is_running x.status)

-- ---- the state

abbrev pub no_train : Train
no_train = record {
  route = no_route;
  at = record { 0 = 0 };
  track = record { 0 = 0 };
  status = Free;
  last = None;
}

abbrev pub train_of : State → ℕ → Train
train_of s t = get_or s.fleet t no_train

-- the state's posts, tracks, sidings, trains and routes as a line
abbrev pub line_of : State → Line
line_of s = record {
  posts = s.posts;
  tracks = s.tracks;
  sidings = s.sidings;
  trains = s.trains;
  routes = map (λ x. x.route) s.fleet;
}

-- where each train is
abbrev pub located : State → ℕ → Whereabouts
located s t = located_at s.sidings (train_of s t)

-- 02, card 4: a gang has section i. What stands for sections that are not on the line is not read.
abbrev pub possessed_of : List Bool → ℕ → ℕ → Bool
possessed_of possessions posts i = ltb (i + 1) posts && get_or possessions i false

abbrev pub possessed : State → ℕ → Bool
possessed s i = possessed_of s.possessions s.posts i

-- the holders of section i: the trains', and "a gang is a holder"
abbrev pub holders_of : State → ℕ → ℕ
holders_of s i = section_holders s.trains (located s) i + of_bool (possessed s i)

-- "no train and no gang holds the section"
abbrev pub section_free : State → ℕ → Bool
section_free s i = eqb (holders_of s i) 0

-- train t holds post p, on its track k; some train does
abbrev pub holds_track : State → ℕ → ℕ → ℕ → Bool
holds_track s p k t = has_track (located s t) p (track_at (train_of s t) p) k

abbrev pub track_held : State → ℕ → ℕ → Bool
track_held s p k = any_below s.trains (holds_track s p k)

-- 02, card 2: "The test for a free track now returns which one": that for train t at post p, or 0
abbrev pub free_track : State → ℕ → ℕ → ℕ
free_track s t p = track_for (train_of s t).route (track_held s p) (get_or s.tracks p 0)

-- "the placing in which every Running train .. has reached its next post"
abbrev pub reached : State → Configuration
reached s t = reached_by (train_of s t)

-- the move that train t has before it
abbrev pub next_move : State → ℕ → Move
next_move s t = move_of t (train_of s t).at.0 (next_of (train_of s t))

-- ---- the state, changed

abbrev pub with_status : Train → Status → Train
with_status x w = record { route = x.route; at = x.at; track = x.track; status = w; last = x.last }

-- "the train becomes Free at the post it ran to". 02, card 2: "A train keeps its track while it holds the post; one put
-- away in a siding has none." 02, card 6: the move is its last finished one.
abbrev pub arrived_next : ℕ → Train → Train
arrived_next sidings x = record {
  route = x.route;
  at = record { 0 = next_of x };
  track = record { 0 = unless_away sidings x.route.end.0 (next_of x) (track_ahead x.status) };
  status = Free;
  last = Some (x.at, record { 0 = next_of x });
}

-- the state with these records of its trains, these possessions, so many local runs given and so many records logged
abbrev pub state_with : State → List Train → List Bool → ℕ → ℕ → State
state_with s fleet possessions given logged = record {
  posts = s.posts;
  tracks = s.tracks;
  sidings = s.sidings;
  trains = s.trains;
  fleet = fleet;
  possessions = possessions;
  given = given;
  logged = logged;
}

-- x as train t's record
abbrev pub with_train : State → ℕ → Train → State
with_train s t x = state_with s (set s.fleet t x) s.possessions s.given s.logged

-- section i in a gang's hands or not, and so many local runs given
abbrev pub with_possession : State → ℕ → Bool → ℕ → State
with_possession s i held given = state_with s s.fleet (set s.possessions i held) given s.logged

-- so many records counted in the journal, and one more
abbrev pub counting : State → ℕ → State
counting s n = state_with s s.fleet s.possessions s.given n

abbrev pub one_logged : State → State
one_logged s = counting s (s.logged + 1)
