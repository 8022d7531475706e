-- The claims about the line book. What is read passes every check, so its bytes are spelled out part by part (`only`);
-- the bytes of a well_formed_lem line stand where the reading looks for them, so every check passes (`back`).
use mathlib.Core.Path.{◌≡◌, refl, sym, ap, ◌∙◌}
use mathlib.Core.Logic.{◌≢◌}
use mathlib.Core.Bool.{true}
use mathlib.Core.List.{List, ◌∷◌, ◌++◌}
use Prim.Native.Nat.{ℕ, suc, ◌+◌, ◌*◌, ◌/◌, ◌%◌, ◌≤◌, ◌<◌}
use native.Mathlib.Omega.{arith}
use lib.Dec.{leb}
use lib.ListN.{length, get_or, drop, length-append, length-drop, get_or-append}
use lib.Seq.{drop-cons, get_or-drop, get_or-append-add}
use borrow.Author.Tests.{leb-true, eqb-true, le-leb, lt-ltb, eq-eqb, ne_eqb}
use Rattle.common.specs.Check.{refusal}
use Rattle.common.specs.Tabulate.{tabulate}
use Rattle.common.proofs.Tests.{and_left, and_right, and_both, by_equality}
use Rattle.common.proofs.Check.{none, pass, refusal_is, tests_of, Pass, passed_by, accepts}
use Rattle.common.proofs.Tabulate.{length_tabulate, at_tabulate, tabulate_cong, length_padded, at_padded, past_padded}
use Rattle.common.proofs.Tabulate.{padded_is}
use Rattle.line.specs.Refusal as number
use Rattle.line.specs.Sorts.{Line}
use Rattle.line.specs.Line.{no_route, route_of, tracks_at, in_range, well_formed}
use Rattle.line.specs.Positions.{metres_at, positions_in_order}
use Rattle.line.specs.Book.{first_edition, last_edition, positioned, count_at, added, sidings_at, position_at}
use Rattle.line.specs.Book.{trains_at, start_at, end_at, total, byte_at, named_length, posts_of, edition_of, sidings_of}
use Rattle.line.specs.Book.{position_in, positioned_in, positions_of, trains_in, trains_of, route_in, line_in}
use Rattle.line.specs.Book.{book_checks_from, accepted_book, refused_by, read_from, route_bytes, position_bytes}
use Rattle.line.specs.Book.{added_bytes, body_of, book_bytes}
use Rattle.line.specs.Claims.{Padded, Says, ReadAs, LineBook}
use Rattle.line.proofs.WellFormed.{WellFormed, line_is, low, high, ranged, well_formed_lem, well_formed_parts}
use Rattle.line.proofs.WellFormed.{formed_parts}
use Rattle.line.proofs.InOrder.{bounded}
use Rattle.line.proofs.ReadingLaws.{read_line, not_met}
use Rattle.line.proofs.Bytes.{places, routes_end, positions_part, positioned_few, positioned_some, added_first}
use Rattle.line.proofs.Bytes.{added_later, added_few, position_is, no_bytes, later_bytes, length_added}
use Rattle.line.proofs.Bytes.{length_routes, start_byte, end_byte}

-- ---- a book that is read, part by part

module _ (least : ℕ) (b : List ℕ) (unrefused : refusal (book_checks_from least b) ≡ 0) where
  passed : (n : ℕ) → Pass (tests_of n (book_checks_from least b))
  passed = passed_by (book_checks_from least b) refl unrefused

  pub book_formed : well_formed (line_in b) ≡ true
  book_formed = well_formed_parts (line_in b)
      (passed number.posts) (passed number.tracks) (passed number.sidings) (passed number.trains)
      (passed number.off_the_line)

  facts : WellFormed (line_in b)
  facts = well_formed_lem (line_in b) book_formed

  four : 4 ≤ length b
  four = leb-true 4 (length b) (and_left (leb 4 (length b)) _ (passed number.torn_book).0)

  right : named_length b ≡ length b
  right = eqb-true (named_length b) (length b) (and_right (leb 4 (length b)) _ (passed number.torn_book).0)

  -- the edition is from `least` on
  from_least : least ≤ edition_of b
  from_least = low least last_edition (edition_of b) (passed number.other_edition)

  says : first_edition ≤ least → Says (edition_of b) (line_in b) (positions_of b)
  says h = record {
    known = ranged first_edition last_edition (edition_of b) (omega (arith, from_least))
        (high least last_edition (edition_of b) (passed number.other_edition));
    no_sidings = λ e. rw (eq-eqb (edition_of b) first_edition e);
    places = length_padded 8 (positioned_in b) _ _;
    in_order = passed number.positions;
    no_positions = past_padded 8 (positioned_in b) _ 0;
  }

  whole : length b ≡ total (trains_in b) (trains_of b)
  whole = eqb-true (length b) (total (trains_in b) (trains_of b)) (passed number.torn_book).1.1

  -- the places after the posts and the trains
  rest_0 : Padded (line_in b)
  rest_0 = record {
    eight = length_padded 8 (posts_of b) _ 0;
    six = length_padded 6 (trains_of b) _ no_route;
    no_tracks = past_padded 8 (posts_of b) _ 0;
    no_routes = past_padded 6 (trains_of b) _ no_route;
  }

  counts_same : tabulate (posts_of b) (tracks_at (line_in b)) ≡ tabulate (posts_of b) (λ p. byte_at b (count_at p))
  counts_same = tabulate_cong (posts_of b) _ _
      (λ p h. at_padded 8 (posts_of b) _ 0 p (omega (arith, facts.few_posts)) h)

  routes_same : tabulate (trains_of b) (route_of (line_in b)) ≡ tabulate (trains_of b) (route_in b (trains_in b))
  routes_same =
      tabulate_cong (trains_of b) _ _
      (λ t h. at_padded 6 (trains_of b) _ no_route t (omega (arith, facts.few_trains)) h)

  -- the number of trains and their routes are the end of the book
  trains_end : trains_of b ∷ route_bytes (tabulate (trains_of b) (route_of (line_in b))) ≡ drop (trains_in b) b
  trains_end =
      let l : trains_in b < length b = omega (arith, whole) in
      let next : start_at (trains_in b) 0 ≡ suc (trains_in b) = omega arith in
      let ends = routes_end b (trains_in b) 0 (trains_of b) (omega (arith, whole)) in
      rw (routes_same, ends, next) (sym (drop-cons b (trains_in b) 0 l))

  positions_same : tabulate (positioned_in b) (metres_at (positions_of b))
      ≡ tabulate (positioned_in b) (position_in b (posts_of b))
  positions_same = tabulate_cong (positioned_in b) _ _ (λ p h.
      let few : p < 8 = omega (arith, facts.few_posts, positioned_few (edition_of b) (posts_of b)) in
      at_padded 8 (positioned_in b) _ 0 p few h)

  -- in edition 3 they are bytes
  module _ (bytes : edition_of b ≡ last_edition → (i : ℕ) → byte_at b i < 256) where
    abbrev at : ℕ
    at = sidings_at (posts_of b)

    -- the positions, before the number of trains
    positions_end : trains_in b ≡ position_at (posts_of b) (0 + positioned_in b)
        → position_bytes (tabulate (positioned_in b) (metres_at (positions_of b))) ++ drop (trains_in b) b
        ≡ drop (suc at) b
    positions_end place =
        let first : position_at (posts_of b) 0 ≡ suc at = omega arith in
        let some = positioned_some (edition_of b) (posts_of b) in
        rw (positions_same, place, ← first)
        (positions_part b (posts_of b) 0 (positioned_in b) (omega (arith, whole)) (λ h. bytes (some h)))

    -- with the bytes before them that the edition adds
    added_end : added_bytes (edition_of b) (line_in b) (positions_of b) ++ drop (trains_in b) b ≡ drop at b
    added_end =
        let v = edition_of b in
        by_equality v first_edition
        (λ e.
        let same : trains_in b ≡ at = rw (added_first v (posts_of b) e) (omega arith) in
        rw (no_bytes v (line_in b) (positions_of b) e, same))
        (λ e.
        let place : trains_in b ≡ position_at (posts_of b) (0 + positioned_in b)
        = rw (added_later v (posts_of b) e) (omega arith) in
        let l : at < length b = omega (arith, whole) in
        let s : (line_in b).sidings ≡ byte_at b at = rw (ne_eqb v first_edition e) in
        let ends = positions_end place in
        rw (later_bytes v (line_in b) (positions_of b) e, s, ends) (sym (drop-cons b at 0 l)))

    -- with the track counts before them
    counts_end : tabulate (posts_of b) (tracks_at (line_in b)) ++ drop at b ≡ drop 4 b
    counts_end = rw counts_same (places b 4 0 (posts_of b) (omega (arith, whole)))

    -- with the version and the number of posts before them
    body_end : body_of (edition_of b) (line_in b) (positions_of b) ≡ drop 2 b
    unfolding body_of
    body_end =
        let long = four in
        let d2 = drop-cons b 2 0 (omega arith) in
        let d3 = drop-cons b 3 0 (omega arith) in
        cc (trains_end, added_end, counts_end)

    -- with the length before them
    spelled : book_bytes (edition_of b) (line_in b) (positions_of b) ≡ b
    unfolding book_bytes
    spelled =
        let n = length (drop 2 b) in
        let size = length-drop 2 b in
        let few = added_few (edition_of b) (posts_of b) in
        let high : n / 256 ≡ byte_at b 0 = omega (arith, right, whole, facts.few_posts, facts.few_trains) in
        let low : n % 256 ≡ byte_at b 1 = omega (arith, right, whole, facts.few_posts, facts.few_trains) in
        let long = four in
        let d0 = drop-cons b 0 0 (omega arith) in
        let d1 = drop-cons b 1 0 (omega arith) in
        rw body_end (cc (high, low))

-- ---- a book whose parts are right is read

module _ (least : ℕ) (b : List ℕ) (right : named_length b ≡ length b)
    (edition : in_range least last_edition (edition_of b) ≡ true) (formed : well_formed (line_in b) ≡ true)
    (in_order : positions_in_order (positioned_in b) (positions_of b) ≡ true)
    (whole : length b ≡ total (trains_in b) (trains_of b)) where
  all_pass : refusal (book_checks_from least b) ≡ 0
  all_pass =
      let parts = formed_parts (line_in b) formed in
      let some = (well_formed_lem (line_in b) formed).some_posts in
      let four : 4 ≤ length b = omega arith in
      let room : trains_in b < length b = omega arith in
      let lengths = and_both _ _ (le-leb 4 (length b) four) (eq-eqb (named_length b) (length b) right) in
      refusal_is (pass lengths
      (pass edition
      (pass parts.0
      (pass (lt-ltb (trains_in b) (length b) room)
      (pass parts.1
      (pass parts.2
      (pass in_order
      (pass parts.3
      (pass (eq-eqb (length b) (total (trains_in b) (trains_of b)) whole)
      (pass parts.4 none))))))))))

-- ---- the bytes of a line and its positions in edition v

module _ (v : ℕ) (l : Line) (ps : List ℕ) where
  abbrev counts : List ℕ
  counts = tabulate l.posts (tracks_at l)

  -- the number of trains and their routes
  abbrev ending : List ℕ
  ending = l.trains ∷ route_bytes (tabulate l.trains (route_of l))

  count_byte : (p : ℕ) → p < l.posts → byte_at (book_bytes v l ps) (count_at p) ≡ tracks_at l p
  unfolding book_bytes body_of
  count_byte p h =
      sym (get_or-drop 4 (book_bytes v l ps) p 0)
      ∙ get_or-append counts _ 0 p (rw length_tabulate h)
      ∙ at_tabulate l.posts (tracks_at l) p 0 h

  -- a place after the track counts
  after_counts : (k : ℕ) → byte_at (book_bytes v l ps) (4 + l.posts + k) ≡ byte_at (added_bytes v l ps ++ ending) k
  unfolding book_bytes body_of
  after_counts k =
      let e : 4 + l.posts + k ≡ 4 + (length counts + k) = rw length_tabulate (omega arith) in
      rw e
      (sym (get_or-drop 4 (book_bytes v l ps) (length counts + k) 0)
      ∙ get_or-append-add counts (added_bytes v l ps ++ ending) k 0)

  siding_byte : v ≢ first_edition → byte_at (book_bytes v l ps) (sidings_at l.posts) ≡ l.sidings
  siding_byte e =
      let at : sidings_at l.posts ≡ 4 + l.posts + 0 = omega arith in
      rw (at, after_counts 0, later_bytes v l ps e)

  -- the positions that the edition has
  abbrev given : List ℕ
  given = tabulate (positioned v l.posts) (metres_at ps)

  -- a place after the siding byte
  after_siding : v ≢ first_edition → (p j : ℕ)
      → byte_at (book_bytes v l ps) (position_at l.posts p + j) ≡ byte_at (position_bytes given ++ ending) (4 * p + j)
  after_siding e p j =
      let at : position_at l.posts p + j ≡ 4 + l.posts + suc (4 * p + j) = omega arith in
      rw (at, after_counts (suc (4 * p + j)), later_bytes v l ps e)

  -- a position, which is small
  position_back : positions_in_order (positioned v l.posts) ps ≡ true → (p : ℕ) → p < positioned v l.posts
      → position_in (book_bytes v l ps) l.posts p ≡ metres_at ps p
  position_back ordered p h =
      let last = positioned_some v l.posts (omega arith) in
      let after = after_siding (λ e. let z : last_edition ≡ first_edition = sym last ∙ e in omega arith) p in
      let same : metres_at given p ≡ metres_at ps p = at_tabulate (positioned v l.posts) (metres_at ps) p 0 h in
      let small = bounded (positioned v l.posts) ps ordered p h in
      let zeroth : position_at l.posts p ≡ position_at l.posts p + 0 = omega arith in
      let first = ap (byte_at (book_bytes v l ps)) zeroth ∙ after 0 in
      let is = position_is given ending p (rw length_tabulate h) (rw same (omega arith)) in
      rw (first, after 1, after 2, after 3) (is ∙ same)

  -- a place after the added bytes
  after_added : (k : ℕ) → byte_at (book_bytes v l ps) (trains_at l.posts (added v l.posts) + k) ≡ byte_at ending k
  after_added k =
      let e : trains_at l.posts (added v l.posts) + k ≡ 4 + l.posts + (length (added_bytes v l ps) + k)
      = rw length_added (omega arith) in
      rw (e, after_counts (length (added_bytes v l ps) + k)) (get_or-append-add (added_bytes v l ps) ending k 0)

  trains_byte_lem : byte_at (book_bytes v l ps) (trains_at l.posts (added v l.posts)) ≡ l.trains
  trains_byte_lem =
      let e : trains_at l.posts (added v l.posts) ≡ trains_at l.posts (added v l.posts) + 0 = omega arith in
      rw (e, after_added 0)

  -- a place in the run of routes
  route_byte : (k : ℕ)
      → byte_at (book_bytes v l ps) (trains_at l.posts (added v l.posts) + 1 + k)
      ≡ byte_at (route_bytes (tabulate l.trains (route_of l))) k
  route_byte k =
      let a = trains_at l.posts (added v l.posts) in
      let e : a + 1 + k ≡ a + suc k = omega arith in
      rw (e, after_added (suc k))

  route_is : (t : ℕ) → t < l.trains
      → route_in (book_bytes v l ps) (trains_at l.posts (added v l.posts)) t ≡ route_of l t
  route_is t h =
      let a = trains_at l.posts (added v l.posts) in
      let rs = tabulate l.trains (route_of l) in
      let e : end_at a t ≡ a + 1 + suc (2 * t) = omega arith in
      let r : get_or rs t no_route ≡ route_of l t = at_tabulate l.trains (route_of l) t no_route h in
      rw (e, route_byte (2 * t), route_byte (suc (2 * t)), start_byte rs t, end_byte rs t, r)

  length_bytes : length (book_bytes v l ps) ≡ total (trains_at l.posts (added v l.posts)) l.trains
  unfolding book_bytes body_of
  length_bytes = simp (length-append, length_tabulate, length_added, length_routes) (omega arith)

  length_field : named_length (book_bytes v l ps) ≡ length (book_bytes v l ps)
  unfolding book_bytes
  length_field = omega arith

  module _ (says : Says v l ps) (well : well_formed l ≡ true) (pad : Padded l) where
    sidings_back : l.sidings ≡ sidings_of (book_bytes v l ps)
    unfolding book_bytes body_of
    sidings_back = by_equality v first_edition
        (λ e. says.no_sidings e ∙ rw (eq-eqb v first_edition e))
        (λ e. sym (siding_byte e) ∙ rw (ne_eqb v first_edition e))

    line_back : line_in (book_bytes v l ps) ≡ l
    unfolding book_bytes body_of
    line_back = sym (line_is l (line_in (book_bytes v l ps)) refl
        (padded_is 8 l.posts _ 0 l.tracks pad.eight (λ p k h. sym (count_byte p h)) pad.no_tracks)
        sidings_back
        (sym trains_byte_lem)
        (rw trains_byte_lem
        (padded_is 6 l.trains _ no_route l.routes pad.six (λ t k h. sym (route_is t h)) pad.no_routes)))

    positions_back : positions_of (book_bytes v l ps) ≡ ps
    unfolding book_bytes body_of
    positions_back = sym (padded_is 8 (positioned v l.posts) _ 0 ps says.places
        (λ p k h. sym (position_back says.in_order p h)) says.no_positions)

    passes_back : (least : ℕ) → least ≤ v → refusal (book_checks_from least (book_bytes v l ps)) ≡ 0
    unfolding book_bytes body_of
    passes_back least h =
        let whole = length_bytes
        ∙ ap (λ (m : Line). total (trains_at m.posts (added v m.posts)) m.trains) (sym line_back) in
        let known = ranged least last_edition v h (high first_edition last_edition v says.known) in
        let b = book_bytes v l ps in
        let ordered : positions_in_order (positioned_in b) (positions_of b) ≡ true = rw positions_back says.in_order in
        all_pass least b length_field known (rw line_back well) ordered whole

    read_back : (least : ℕ) → least ≤ v → read_from least (book_bytes v l ps) ≡ accepted_book l ps
    unfolding read_from
    read_back least h =
        let b = book_bytes v l ps in
        accepts (accepted_book (line_in b) (positions_of b)) refused_by (passes_back least h)
        ∙ rw (line_back, positions_back)

-- ---- the claims

read_as : (least : ℕ) → first_edition ≤ least → (b : List ℕ) (l : Line) (ps : List ℕ)
    → read_from least b ≡ accepted_book l ps → (least ≤ edition_of b) × ReadAs b l ps
read_as least h b l ps e =
    let r = read_line least b l ps e in
    let f = facts least b r.0 in
    let few = added_few (edition_of b) (posts_of b) in (
      from_least least b r.0,
      rw (r.1, r.2) record {
        formed = book_formed least b r.0;
        padded = rest_0 least b r.0;
        edition = says least b r.0 h;
        bytes = spelled least b r.0;
        short = omega (arith, whole least b r.0, f.few_posts, f.few_trains);
      },
    )

pub line_book : LineBook
line_book = record {
  only = read_as;
  back = λ least v h l ps says well pad. read_back v l ps says well pad least h;
  not_2 = λ least b. not_met least b _ refl refl;
  not_19 = λ least b. not_met least b _ refl refl;
  not_20 = λ least b. not_met least b _ refl refl;
}
