-- 01, "The line and its book": what a line has, and the ranges that its numbers keep to.
use Rattle.std.specs.Prelude.{Bool, ◌&&◌, ℕ, ◌^◌, leb, ltb, get_or}
use Rattle.common.specs.Below.{all_below}
use Rattle.line.specs.Sorts.{Route, Line}

abbrev pub no_route : Route
no_route = record { start = record { 0 = 0 }; end = record { 0 = 0 } }

-- the route of train t, and the number of tracks at post p
abbrev pub route_of : Line → ℕ → Route
route_of l t = get_or l.routes t no_route

abbrev pub tracks_at : Line → ℕ → ℕ
tracks_at l p = get_or l.tracks p 0

-- n lies between a and b, both counted
abbrev pub in_range : ℕ → ℕ → ℕ → Bool
in_range a b n = leb a n && leb n b

-- "A line has P posts, 2 to 8"
abbrev pub posts_in_range : Line → Bool
posts_in_range l = in_range 2 8 l.posts

-- "Each post has 1 to 4 tracks."
abbrev pub tracks_in_range : Line → Bool
tracks_in_range l = all_below l.posts (λ p. in_range 1 4 (tracks_at l p))

-- 02, card 1: "the bit of value 2^i says that post i has a siding"; a set of posts of a line of n has no other bits
abbrev pub names_posts : ℕ → ℕ → Bool
names_posts n set = ltb set (2 ^ n)

abbrev pub sidings_on_line : Line → Bool
sidings_on_line l = names_posts l.posts l.sidings

-- "There are T trains, 1 to 6"
abbrev pub trains_in_range : Line → Bool
trains_in_range l = in_range 1 6 l.trains

-- "each with a start and an end post"
abbrev pub routes_on_line : Line → Bool
routes_on_line l =
    all_below l.trains (λ t. ltb (route_of l t).start.0 l.posts && ltb (route_of l t).end.0 l.posts)

-- all of that; places for posts from P on and trains from T on are not read
unfoldable pub well_formed : Line → Bool
well_formed l = posts_in_range l
    && (tracks_in_range l && (sidings_on_line l && (trains_in_range l && routes_on_line l)))
