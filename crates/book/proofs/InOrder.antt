-- The stages of the reading, one after the other, are the checks of a book in order: a stage that stops gives the
-- book's refusal, and one that passes leaves the checks after its own. The trains come after all that is said of the
-- posts.
use mathlib.Core.Path.{◌≡◌, refl, sym, ap, ◌∙◌}
use mathlib.Core.List.{List, [], ◌++◌}
use Prim.Native.Nat.{ℕ, zero, suc, ◌≤◌, ◌<◌}
use native.Mathlib.Omega.{arith}
use lib.ListN.{length, replicate}
use borrow.Author.Tests.{ltb-true, eqb-true}
use Rattle.common.specs.Check.{Check, refusal, unless_refused}
use Rattle.common.specs.Tabulate.{padded}
use Rattle.common.proofs.Check.{passed_by, second_part, first_part, accepts, refuses}
use Rattle.line.specs.Refusal as number
use Rattle.line.specs.declared.line.Line.{Line}
use Rattle.line.specs.Line.{no_route}
use Rattle.line.specs.Book.{positioned, count_at, added, trains_at, total, byte_at, posts_of, edition_of, sidings_of}
use Rattle.line.specs.Book.{position_in, positioned_in, positions_of, trains_in, trains_of, route_in, line_in}
use Rattle.line.specs.Book.{posts_checks}
use Rattle.line.specs.Book.{tracks_checks, sidings_checks}
use Rattle.line.specs.Book.{positions_checks, trains_checks, routes_checks, book_checks_from, accepted_book, refused_by}
use Rattle.line.specs.Book.{read_from}
use Rattle.line.proofs.WellFormed.{high, line_is}
use Rattle.stages.specs.declared.stage.Stage.{Stage}
use Rattle.stages.specs.declared.stage.Stage.TheVariants.{Passed, Stopped}
use Rattle.stages.specs.Stages.{stage_of, number_of, posts_stage, tracks_stage, sidings_stage, positions_stage}
use Rattle.stages.specs.Stages.{trains_stage}
use Rattle.stages.specs.Stages.{routes_stage, PostsRead, after_posts, read_trains}

-- ---- a stage, by its answer

-- what an answer says of the number n of the checks and of the value v
Says : Stage → ℕ → ℕ → Type 0
Says (Passed m) n v = (n ≡ 0) × (m ≡ v)
Says (Stopped m) n v = (n ≡ m) × (0 < m)

said : (n v : ℕ) → Says (unless_refused n (Passed v) Stopped) n v
unfolding unless_refused Says
said zero v = (refl, refl)
said (suc n) v = (refl, omega arith)

module _ {s : Stage} (cs : List Check) (v : ℕ) (e : s ≡ stage_of cs v) where
  passed_of : {m : ℕ} → s ≡ Passed m → (refusal cs ≡ 0) × (m ≡ v)
  unfolding Says
  passed_of p = rw (← e, p) at (said (refusal cs) v)

  stopped_of : {m : ℕ} → s ≡ Stopped m → (refusal cs ≡ m) × (0 < m)
  unfolding Says
  stopped_of p = rw (← e, p) at (said (refusal cs) v)

-- the checks cs are left of all: those before them pass
abbrev Left : List Check → List Check → Type 0
Left all cs = refusal all ≡ refusal cs

-- a stage whose checks are the next of the book b
stop_at : (b : List ℕ) (all : List Check) {s : Stage} {m : ℕ} (cs ds : List Check) (v : ℕ) → Left all (cs ++ ds)
    → s ≡ stage_of cs v → s ≡ Stopped m
    → refused_by (number_of s) ≡ unless_refused (refusal all) (accepted_book (line_in b) (positions_of b)) refused_by
stop_at b all {m = m} cs ds v left e p =
    let k = stopped_of cs v e p in
    let some : 0 < refusal cs = rw k.0 k.1 in
    let n : refusal all ≡ m = left ∙ first_part cs ds some ∙ k.0 in
    rw (p, n) (sym (refuses (accepted_book (line_in b) (positions_of b)) refused_by k.1))

-- ---- the posts

abbrev after_sidings : List ℕ → List Check
after_sidings b = positions_checks (positioned_in b) (positions_of b) ++ after_posts b

abbrev after_tracks : List ℕ → List Check
after_tracks b = sidings_checks (line_in b) ++ after_sidings b

abbrev after_header : List ℕ → List Check
after_header b = tracks_checks (line_in b) ++ after_tracks b

-- a line that has n posts with the track counts ts, and nothing else yet
abbrev pub begun : ℕ → List ℕ → Line
begun n ts = record { posts = n; tracks = ts; sidings = 0; trains = 0; routes = replicate 6 no_route }

module _ (least : ℕ) (b : List ℕ) where
  abbrev LeftOfBook : List Check → Type 0
  LeftOfBook cs = Left (book_checks_from least b) cs

  -- n posts were read
  pub record HeaderRead (n : ℕ) : Type 0 where
    pub is : n ≡ posts_of b
    pub few : n ≤ 8
    pub room : trains_at n (added (edition_of b) n) < length b
    left : LeftOfBook (after_header b)

  -- then the track counts ts
  pub record TracksRead (n : ℕ) (ts : List ℕ) : Type 0 where
    pub header : HeaderRead n
    counts : ts ≡ padded 8 n (λ p. byte_at b (count_at p)) 0
    left : LeftOfBook (after_tracks b)

  -- then the sidings s
  pub record SidingsRead (n : ℕ) (ts : List ℕ) (s : ℕ) : Type 0 where
    pub tracks : TracksRead n ts
    is : s ≡ sidings_of b
    left : LeftOfBook (after_sidings b)

module _ (least : ℕ) (b : List ℕ) where
  pub header_refused : {s : Stage} {m : ℕ} → s ≡ posts_stage least b → s ≡ Stopped m
      → refused_by (number_of s) ≡ read_from least b
  unfolding read_from
  header_refused e p = stop_at b (book_checks_from least b) (posts_checks least b) (after_header b) _ refl e p

  pub header_read : {s : Stage} {n : ℕ} → s ≡ posts_stage least b → s ≡ Passed n → HeaderRead least b n
  header_read {n = n} e p =
      let k = passed_of (posts_checks least b) _ e p in
      let passed = passed_by (posts_checks least b) refl k.0 in
      let few = high 2 8 (posts_of b) (passed number.posts) in
      let room = ltb-true (trains_in b) (length b) (passed number.torn_book).1 in
      let is = k.1 in
      record {
        is = is;
        few = omega arith;
        room = rw is room;
        left = second_part (posts_checks least b) (after_header b) refl k.0;
      }

module _ {least : ℕ} {b : List ℕ} where
  module _ {n : ℕ} {ts : List ℕ} (header : HeaderRead least b n)
      (counts : ts ≡ padded 8 n (λ p. byte_at b (count_at p)) 0) where
    tracks_same : tracks_stage (begun n ts) ≡ tracks_stage (line_in b)
    tracks_same = rw (counts, header.is)

    pub tracks_refused : {s : Stage} {m : ℕ} → s ≡ tracks_stage (begun n ts) → s ≡ Stopped m
        → refused_by (number_of s) ≡ read_from least b
    unfolding read_from
    tracks_refused e p =
        stop_at b (book_checks_from least b) (tracks_checks (line_in b)) (after_tracks b) _ header.left
        (e ∙ tracks_same) p

    pub tracks_read : {s : Stage} {m : ℕ} → s ≡ tracks_stage (begun n ts) → s ≡ Passed m → TracksRead least b n ts
    tracks_read e p =
        let k = passed_of (tracks_checks (line_in b)) _ (e ∙ tracks_same) p in
        record {
          header = header;
          counts = counts;
          left = header.left ∙ second_part (tracks_checks (line_in b)) (after_tracks b) refl k.0;
        }

  module _ {n : ℕ} {ts : List ℕ} (tracks : TracksRead least b n ts) where
    pub sidings_refused : {s : Stage} {m : ℕ} → s ≡ sidings_stage b → s ≡ Stopped m
        → refused_by (number_of s) ≡ read_from least b
    unfolding read_from
    sidings_refused e p =
        stop_at b (book_checks_from least b) (sidings_checks (line_in b)) (after_sidings b) _ tracks.left e p

    pub sidings_read : {s : Stage} {m : ℕ} → s ≡ sidings_stage b → s ≡ Passed m → SidingsRead least b n ts m
    sidings_read e p =
        let k = passed_of (sidings_checks (line_in b)) _ e p in
        record {
          tracks = tracks;
          is = k.1;
          left = tracks.left ∙ second_part (sidings_checks (line_in b)) (after_sidings b) refl k.0;
        }

  -- k positions that were read
  module _ {n : ℕ} {ts : List ℕ} {m : ℕ} (sidings : SidingsRead least b n ts m) {k : ℕ} {ps : List ℕ}
      (amount : k ≡ positioned (edition_of b) n) (metres : ps ≡ padded 8 k (position_in b n) 0) where
    positions_are : ps ≡ positions_of b
    positions_are = rw (metres, amount, sidings.tracks.header.is)

    positions_same : positions_stage k ps ≡ positions_stage (positioned_in b) (positions_of b)
    positions_same = rw (positions_are, amount, sidings.tracks.header.is)

    pub positions_refused : {s : Stage} {m : ℕ} → s ≡ positions_stage k ps → s ≡ Stopped m
        → refused_by (number_of s) ≡ read_from least b
    unfolding read_from
    positions_refused e p =
        stop_at b (book_checks_from least b) (positions_checks (positioned_in b) (positions_of b)) (after_posts b) _
        sidings.left (e ∙ positions_same) p

    -- what is left is the trains'
    pub trains_left : {s : Stage} {m : ℕ} → s ≡ positions_stage k ps → s ≡ Passed m
        → read_trains b ≡ read_from least b
    unfolding read_from read_trains
    trains_left e p =
        let k = passed_of (positions_checks (positioned_in b) (positions_of b)) _ (e ∙ positions_same) p in
        let left = sidings.left ∙ second_part (positions_checks (positioned_in b) (positions_of b)) (after_posts b)
        refl k.0 in
        rw left

    pub posts_read : (l : Line) → l.posts ≡ n → l.tracks ≡ ts → l.sidings ≡ m → PostsRead b l ps
    posts_read l same counts set =
        let header = sidings.tracks.header in
        record {
          posts = rw (same, header.is);
          tracks = rw (counts, sidings.tracks.counts, header.is);
          sidings = rw (set, sidings.is);
          positions = positions_are;
          room = rw header.is at header.room;
        }

-- ---- the trains

-- t trains were read, their number at place a
pub record TrainsRead (b : List ℕ) (a t : ℕ) : Type 0 where
  pub place : a ≡ trains_in b
  pub is : t ≡ trains_of b
  pub few : t ≤ 6
  pub whole : length b ≡ total a t
  pub left : Left (after_posts b) (routes_checks (line_in b))

module _ (b : List ℕ) where
  pub trains_refused : {s : Stage} {m : ℕ} → s ≡ trains_stage b → s ≡ Stopped m
      → refused_by (number_of s) ≡ read_trains b
  unfolding read_trains
  trains_refused e p = stop_at b (after_posts b) (trains_checks b) (routes_checks (line_in b)) _ refl e p

  -- the number stands where the posts of the line l put it
  pub trains_read : {l : Line} {ps : List ℕ} → PostsRead b l ps → {a : ℕ}
      → a ≡ trains_at l.posts (added (edition_of b) l.posts)
      → {s : Stage} {t : ℕ} → s ≡ trains_stage b → s ≡ Passed t → TrainsRead b a t
  trains_read posts at {t = t} e p =
      let k = passed_of (trains_checks b) _ e p in
      let passed = passed_by (trains_checks b) refl k.0 in
      let few = high 1 6 (trains_of b) (passed number.trains) in
      let whole = eqb-true (length b) (total (trains_in b) (trains_of b)) (passed number.torn_book) in
      let is = k.1 in
      let place = rw posts.posts at at in
      record {
        place = place;
        is = is;
        few = omega arith;
        whole = omega arith;
        left = second_part (trains_checks b) (routes_checks (line_in b)) refl k.0;
      }

  -- a line that has all that the book says
  module _ {l : Line} {ps : List ℕ} (posts : PostsRead b l ps) {a t : ℕ} (trains : TrainsRead b a t) (m : Line)
      (same : m.posts ≡ l.posts) (counts : m.tracks ≡ l.tracks) (set : m.sidings ≡ l.sidings)
      (amount : m.trains ≡ t) (ends : m.routes ≡ padded 6 t (route_in b a) no_route) where
    line_same : m ≡ line_in b
    line_same = line_is m (line_in b)
        (same ∙ posts.posts)
        (counts ∙ posts.tracks)
        (set ∙ posts.sidings)
        (amount ∙ trains.is)
        (rw (ends, trains.is, trains.place))

    pub routes_refused : {s : Stage} {n : ℕ} → s ≡ routes_stage m → s ≡ Stopped n
        → refused_by (number_of s) ≡ read_trains b
    unfolding read_trains
    routes_refused e p =
        stop_at b (after_posts b) (routes_checks (line_in b)) [] _ trains.left (e ∙ ap routes_stage line_same) p

    pub routes_read : {s : Stage} {n : ℕ} → s ≡ routes_stage m → s ≡ Passed n → accepted_book m ps ≡ read_trains b
    unfolding read_trains
    routes_read e p =
        let k = passed_of (routes_checks (line_in b)) _ (e ∙ ap routes_stage line_same) p in
        rw (line_same, posts.positions)
        (sym (accepts (accepted_book (line_in b) (positions_of b)) refused_by (trains.left ∙ k.0)))
