-- Rows of bytes in a book: the values at a row of places make that part of it, an edition's bytes are as many as it
-- adds, and a position's four bytes and a route's two stand at their places.
use mathlib.Core.Path.{◌≡◌, refl, sym, ap, ◌∙◌}
use mathlib.Core.Logic.{◌≢◌}
use mathlib.Core.List.{List, [], ◌∷◌, ◌++◌}
use Prim.Native.Nat.{ℕ, zero, suc, ◌+◌, ◌*◌, ◌≤◌, ◌<◌}
use native.Mathlib.Nat.{not-suc-le-zero}
use native.Mathlib.Omega.{arith}
use lib.ListN.{length, get_or, drop, drop_of_length-le, get_or-append}
use lib.Seq.{drop-cons, get_or-append-add}
use borrow.Author.Tests.{eq-eqb, ne_eqb}
use Rattle.common.specs.Tabulate.{values_from, tabulate}
use Rattle.common.specs.Word.{long_word, long_word_bytes}
use Rattle.common.proofs.Tests.{by_equality}
use Rattle.common.proofs.Tabulate.{length_tabulate}
use Rattle.common.proofs.Word.{long_word_back, bytes_back}
use Rattle.line.specs.Sorts.{Route, Line}
use Rattle.line.specs.Line.{no_route}
use Rattle.line.specs.Positions.{metres_at}
use Rattle.line.specs.Book.{first_edition, last_edition, positioned, added, position_at, trains_at, start_at, byte_at}
use Rattle.line.specs.Book.{position_in, route_in, route_bytes, position_bytes, added_bytes}

module _ (b : List ℕ) where
  -- n places from k on, and what stands after them
  pub places : (k j n : ℕ) → k + j + n ≤ length b
      → values_from j n (λ i. byte_at b (k + i)) ++ drop (k + j + n) b ≡ drop (k + j) b
  unfolding values_from
  places k j zero h = let e : k + j + 0 ≡ k + j = omega arith in rw e
  places k j (suc n) h =
      let e : k + j + suc n ≡ k + suc j + n = omega arith in
      let s : k + suc j ≡ suc (k + j) = omega arith in
      let l : k + j < length b = omega arith in
      let r = places k (suc j) n (omega arith) in
      rw (e, r, s) (sym (drop-cons b (k + j) 0 l))

  -- n routes at the end of a book, from train j on
  pub routes_end : (a j n : ℕ) → length b ≡ start_at a j + 2 * n
      → route_bytes (values_from j n (route_in b a)) ≡ drop (start_at a j) b
  unfolding values_from route_bytes
  routes_end a j zero h = sym (drop_of_length-le b {i = start_at a j} (omega arith))
  routes_end a j (suc n) h =
      let l : start_at a j < length b = omega arith in
      let m : start_at a j + 1 < length b = omega arith in
      let e : suc (start_at a j) ≡ start_at a j + 1 = omega arith in
      let s : suc (start_at a j + 1) ≡ start_at a (suc j) = omega arith in
      let r = routes_end a (suc j) n (omega arith) in
      rw (r, ← s, ← drop-cons b (start_at a j + 1) 0 m, ← e, ← drop-cons b (start_at a j) 0 l)

  -- n positions, from post j on, of a line of m posts, and what stands after them
  pub positions_part : (m j n : ℕ) → position_at m (j + n) ≤ length b → (0 < n → (i : ℕ) → byte_at b i < 256)
      → position_bytes (values_from j n (position_in b m)) ++ drop (position_at m (j + n)) b ≡ drop (position_at m j) b
  unfolding values_from position_bytes
  positions_part m j zero h bytes = let e : position_at m (j + 0) ≡ position_at m j = omega arith in rw e
  positions_part m j (suc n) h bytes =
      let i = position_at m j in
      let e : position_at m (j + suc n) ≡ position_at m (suc j + n) = omega arith in
      let r = positions_part m (suc j) n (omega arith) (λ k. bytes (omega arith)) in
      let byte = bytes (omega arith) in
      let four = bytes_back (byte_at b i) (byte_at b (i + 1)) (byte_at b (i + 2)) (byte_at b (i + 3))
      (byte i) (byte (i + 1)) (byte (i + 2)) (byte (i + 3)) in
      let d0 = drop-cons b i 0 (omega arith) in
      let d1 = drop-cons b (i + 1) 0 (omega arith) in
      let d2 = drop-cons b (i + 2) 0 (omega arith) in
      let d3 = drop-cons b (i + 3) 0 (omega arith) in
      let s0 : suc i ≡ i + 1 = omega arith in
      let s1 : suc (i + 1) ≡ i + 2 = omega arith in
      let s2 : suc (i + 2) ≡ i + 3 = omega arith in
      let s3 : suc (i + 3) ≡ position_at m (suc j) = omega arith in
      rw (e, r)
      (ap (λ (z : List ℕ). z ++ drop (position_at m (suc j)) b) four ∙ cc (d0, d1, d2, d3, s0, s1, s2, s3))

-- ---- what an edition adds

module _ (v n : ℕ) where
  pub positioned_last : v ≡ last_edition → positioned v n ≡ n
  unfolding positioned
  positioned_last e = rw (eq-eqb v last_edition e)

  pub positioned_none : v ≢ last_edition → positioned v n ≡ 0
  unfolding positioned
  positioned_none e = rw (ne_eqb v last_edition e)

  pub positioned_few : positioned v n ≤ n
  positioned_few = by_equality v last_edition
      (λ e. rw (positioned_last e) (omega arith))
      (λ e. rw (positioned_none e) (omega arith))

  -- only the last edition has some
  pub positioned_some : 0 < positioned v n → v ≡ last_edition
  positioned_some h = by_equality v last_edition
      (λ e. e)
      (λ e. absurd (not-suc-le-zero (rw (positioned_none e) at h)))

  pub added_first : v ≡ first_edition → added v n ≡ 0
  unfolding added
  added_first e = rw (eq-eqb v first_edition e)

  pub added_later : v ≢ first_edition → added v n ≡ 1 + 4 * positioned v n
  unfolding added
  added_later e = rw (ne_eqb v first_edition e)

  pub added_few : added v n ≤ 1 + 4 * n
  added_few = by_equality v first_edition
      (λ e. rw (added_first e) (omega arith))
      (λ e. rw (added_later e) (omega (arith, positioned_few)))

  -- the positions end before the number of trains
  pub positions_room : position_at n (positioned v n) ≤ suc (trains_at n (added v n))
  positions_room = by_equality v first_edition
      (λ e.
      let none = positioned_none (λ z. let y : first_edition ≡ last_edition = sym e ∙ z in omega arith) in
      rw (none, added_first e) (omega arith))
      (λ e. rw (added_later e) (omega arith))

-- ---- the positions

length_positions : (xs : List ℕ) → length (position_bytes xs) ≡ 4 * length xs
unfolding position_bytes
length_positions [] = refl
length_positions (x ∷ xs) = let e = length_positions xs in omega arith

-- byte j of position p
position_byte : (xs : List ℕ) (p j : ℕ) → p < length xs → j < 4
    → byte_at (position_bytes xs) (4 * p + j) ≡ byte_at (long_word_bytes (metres_at xs p)) j
unfolding position_bytes
position_byte [] p j h l = absurd (not-suc-le-zero h)
position_byte (x ∷ xs) zero j h l =
    let e : 4 * 0 + j ≡ j = omega arith in
    rw e (get_or-append (long_word_bytes x) (position_bytes xs) 0 j l)
position_byte (x ∷ xs) (suc p) j h l =
    let e : 4 * suc p + j ≡ 4 + (4 * p + j) = omega arith in
    rw e (get_or-append-add (long_word_bytes x) (position_bytes xs) (4 * p + j) 0
    ∙ position_byte xs p j (omega arith) l)

-- the number of its four bytes, whatever stands after the positions
pub position_is : (xs rest : List ℕ) (p : ℕ) → p < length xs → metres_at xs p < 4294967296
    → let b = position_bytes xs ++ rest in
    long_word (byte_at b (4 * p + 0)) (byte_at b (4 * p + 1)) (byte_at b (4 * p + 2)) (byte_at b (4 * p + 3))
    ≡ metres_at xs p
position_is xs rest p h small =
    rw (there 0 (omega arith), there 1 (omega arith), there 2 (omega arith), there 3 (omega arith))
    (long_word_back (metres_at xs p) small)
  where
    there : (j : ℕ) → j < 4
        → byte_at (position_bytes xs ++ rest) (4 * p + j) ≡ byte_at (long_word_bytes (metres_at xs p)) j
    there j l =
        let within : 4 * p + j < length (position_bytes xs) = rw length_positions (omega arith) in
        get_or-append (position_bytes xs) rest 0 (4 * p + j) within ∙ position_byte xs p j h l

-- ---- the bytes that an edition adds

module _ (v : ℕ) (l : Line) (ps : List ℕ) where
  pub no_bytes : v ≡ first_edition → added_bytes v l ps ≡ []
  unfolding added_bytes
  no_bytes e = rw (eq-eqb v first_edition e)

  pub later_bytes : v ≢ first_edition
      → added_bytes v l ps ≡ l.sidings ∷ position_bytes (tabulate (positioned v l.posts) (metres_at ps))
  unfolding added_bytes
  later_bytes e = rw (ne_eqb v first_edition e)

  pub length_added : length (added_bytes v l ps) ≡ added v l.posts
  length_added = by_equality v first_edition
      (λ e. rw (no_bytes e, added_first v l.posts e))
      (λ e. rw (later_bytes e, added_later v l.posts e, length_positions, length_tabulate) (omega arith))

-- ---- the routes

pub length_routes : (rs : List Route) → length (route_bytes rs) ≡ 2 * length rs
unfolding route_bytes
length_routes [] = refl
length_routes (r ∷ rs) = let e = length_routes rs in omega arith

pub start_byte : (rs : List Route) (t : ℕ) → byte_at (route_bytes rs) (2 * t) ≡ (get_or rs t no_route).start.0
unfolding route_bytes
start_byte [] t = refl
start_byte (r ∷ rs) zero = refl
start_byte (r ∷ rs) (suc t) = let e : 2 * suc t ≡ suc (suc (2 * t)) = omega arith in rw e (start_byte rs t)

pub end_byte : (rs : List Route) (t : ℕ) → byte_at (route_bytes rs) (suc (2 * t)) ≡ (get_or rs t no_route).end.0
unfolding route_bytes
end_byte [] t = refl
end_byte (r ∷ rs) zero = refl
end_byte (r ∷ rs) (suc t) = let e : 2 * suc t ≡ suc (suc (2 * t)) = omega arith in rw e (end_byte rs t)
