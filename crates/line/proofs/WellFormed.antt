-- A line by its parts, and a well_formed_lem one as facts about its numbers.
use mathlib.Core.Path.{◌≡◌}
use mathlib.Core.Bool.{true, false, and-false}
use mathlib.Core.List.{List}
use Prim.Native.Nat.{ℕ, ◌^◌, ◌≤◌, ◌<◌}
use native.Mathlib.Omega.{arith}
use lib.Dec.{leb, ltb}
use borrow.Author.Tests.{ltb-true, leb-true, lt-ltb, le-leb, lt-leb}
use Rattle.common.proofs.Tests.{and_left, and_right, and_both}
use Rattle.common.proofs.Below.{all_below_lem, below_all}
use Rattle.line.specs.Sorts.{Route, Line}
use Rattle.line.specs.Line.{route_of, tracks_at, in_range, well_formed, posts_in_range, tracks_in_range}
use Rattle.line.specs.Line.{trains_in_range}
use Rattle.line.specs.Line.{sidings_on_line, routes_on_line}
use Rattle.line.specs.Route.{route_distance}

-- a line is what its parts are
line : ℕ → List ℕ → ℕ → ℕ → List Route → Line
line n k s t r = record { posts = n; tracks = k; sidings = s; trains = t; routes = r }

pub line_is : (l m : Line) → l.posts ≡ m.posts → l.tracks ≡ m.tracks → l.sidings ≡ m.sidings
    → l.trains ≡ m.trains → l.routes ≡ m.routes → l ≡ m
unfolding line
line_is l m a b c d e =
    let same : line l.posts l.tracks l.sidings l.trains l.routes
    ≡ line m.posts m.tracks m.sidings m.trains m.routes = cc in
    same

pub record WellFormed (l : Line) : Type 0 where
  pub some_posts : 2 ≤ l.posts
  pub few_posts : l.posts ≤ 8
  pub some_tracks : (p : ℕ) → p < l.posts → 1 ≤ tracks_at l p
  pub few_tracks : (p : ℕ) → p < l.posts → tracks_at l p ≤ 4
  pub on_line : l.sidings < 2 ^ l.posts
  pub some_trains : 1 ≤ l.trains
  pub few_trains : l.trains ≤ 6
  pub starts : (t : ℕ) → t < l.trains → (route_of l t).start.0 < l.posts
  pub ends : (t : ℕ) → t < l.trains → (route_of l t).end.0 < l.posts

pub low : (a b n : ℕ) → in_range a b n ≡ true → a ≤ n
low a b n h = leb-true a n (and_left (leb a n) (leb n b) h)

pub high : (a b n : ℕ) → in_range a b n ≡ true → n ≤ b
high a b n h = leb-true n b (and_right (leb a n) (leb n b) h)

pub ranged : (a b n : ℕ) → a ≤ n → n ≤ b → in_range a b n ≡ true
ranged a b n h k = and_both (leb a n) (leb n b) (le-leb a n h) (le-leb n b k)

pub below_range : (a b n : ℕ) → n < a → in_range a b n ≡ false
below_range a b n h = rw (lt-leb a n h)

pub above_range : (a b n : ℕ) → b < n → in_range a b n ≡ false
above_range a b n h = rw (lt-leb n b h) (and-false (leb a n))

module _ (l : Line) where
  -- the parts that `well_formed` is made of
  pub well_formed_parts : posts_in_range l ≡ true → tracks_in_range l ≡ true → sidings_on_line l ≡ true
      → trains_in_range l ≡ true → routes_on_line l ≡ true → well_formed l ≡ true
  unfolding well_formed
  well_formed_parts p k s t r = rw (p, k, s, t, r)

  pub formed_parts : well_formed l ≡ true
      → (posts_in_range l ≡ true) × (tracks_in_range l ≡ true) × (sidings_on_line l ≡ true) × (trains_in_range l ≡ true)
      × (routes_on_line l ≡ true)
  unfolding well_formed
  formed_parts h =
      let rest = and_right (posts_in_range l) _ h in
      let more = and_right (tracks_in_range l) _ rest in
      let last = and_right (sidings_on_line l) _ more in (
        and_left (posts_in_range l) _ h,
        and_left (tracks_in_range l) _ rest,
        and_left (sidings_on_line l) _ more,
        and_left (trains_in_range l) _ last,
        and_right (trains_in_range l) _ last,
      )

  pub well_formed_lem : well_formed l ≡ true → WellFormed l
  well_formed_lem h =
      let parts = formed_parts h in
      let posts = parts.0 in
      let tracks = all_below_lem l.posts _ parts.1 in
      let trains = parts.3 in
      let routes = all_below_lem l.trains _ parts.4 in
      record {
        some_posts = low 2 8 l.posts posts;
        few_posts = high 2 8 l.posts posts;
        some_tracks = λ p k. low 1 4 (tracks_at l p) (tracks p k);
        few_tracks = λ p k. high 1 4 (tracks_at l p) (tracks p k);
        on_line = ltb-true _ _ parts.2;
        some_trains = low 1 6 l.trains trains;
        few_trains = high 1 6 l.trains trains;
        starts = λ t k. ltb-true _ _ (and_left (ltb (route_of l t).start.0 l.posts) _ (routes t k));
        ends = λ t k. ltb-true _ _ (and_right (ltb (route_of l t).start.0 l.posts) _ (routes t k));
      }

  pub is_well_formed : WellFormed l → well_formed l ≡ true
  is_well_formed w = well_formed_parts
      (ranged 2 8 l.posts w.some_posts w.few_posts)
      (below_all l.posts _ (λ p k. ranged 1 4 (tracks_at l p) (w.some_tracks p k) (w.few_tracks p k)))
      (lt-ltb _ _ w.on_line)
      (ranged 1 6 l.trains w.some_trains w.few_trains)
      (below_all l.trains _ (λ t k. and_both _ _ (lt-ltb _ _ (w.starts t k)) (lt-ltb _ _ (w.ends t k))))

  -- no route is longer than seven posts
  pub short_route : WellFormed l → (t : ℕ) → t < l.trains → route_distance (route_of l t) ≤ 7
  short_route w t k = omega (arith, w.starts t k, w.ends t k, w.few_posts)
