-- A lent buffer that is filled from its beginning on, part by part.
use mathlib.Core.Path.{◌≡◌, refl, sym, subst, ◌∙◌}
use mathlib.Core.List.{List, ◌++◌}
use Prim.Native.Nat.{ℕ, ◌+◌, ◌-◌, ◌≤◌, ◌<◌}
use native.Mathlib.Nat.{not-suc-le-zero}
use native.Mathlib.Omega.{arith}
use lib.ListN.{length, get_or, set, take, drop, length-append, length-set, get_or-append}
use lib.Seq.{length-take-le, get_or-append-add, get_or-drop, get_or-set_same, get_or-set_other, ext_get_or}
use Rattle.common.specs.Part.{replaced, replaced_if_room}
use Rattle.common.proofs.Part.{length_replaced, replaced_if, replaced_before}
use Rattle.common.proofs.Tests.{by_order, by_equality}
use Rattle.encoding.specs.Parts.{head_bytes, posts_byte, tracks_byte, sidings_byte, trains_byte, head_length}
use Rattle.encoding.proofs.Parts.{At, same_place}
use Rattle.encoding.proofs.Fields.{head_length_lem, posts_at_lem, tracks_at_lem, sidings_at_lem, trains_at_lem}

-- ---- a list with a part replaced, byte by byte

module _ (s : List ℕ) (n : ℕ) (p : List ℕ) (room : n + length p ≤ length s) where
  front : length (take n s ++ p) ≡ n + length p
  front = rw (length-append, length-take-le n s (omega arith))

  pub replaced_at : At (replaced s n p) n p
  unfolding replaced
  replaced_at = record {
    byte = λ j h. sym
        (get_or-append (take n s ++ p) (drop (n + length p) s) 0 (n + j) (omega (arith, front))
        ∙ same_place (take n s ++ p) (omega (arith, length-take-le n s (omega arith)))
        ∙ get_or-append-add (take n s) p j 0);
  }

  pub replaced_after : (k : ℕ) → n + length p ≤ k → get_or (replaced s n p) k 0 ≡ get_or s k 0
  unfolding replaced
  replaced_after k h =
      let i = k - (n + length p) in
      let place : k ≡ length (take n s ++ p) + i = omega (arith, front) in
      same_place (take n s ++ p ++ drop (n + length p) s) place
      ∙ get_or-append-add (take n s ++ p) (drop (n + length p) s) i 0
      ∙ get_or-drop (n + length p) s i 0
      ∙ same_place s (omega arith)

-- ---- the buffer

-- the first n bytes of b are in their places in `to`, and the others there are still those of s
pub record Filled (s b to : List ℕ) (n : ℕ) : Type 0 where
  pub size : length to ≡ length b
  pub first : (k : ℕ) → k < n → get_or to k 0 ≡ get_or b k 0
  pub rest : (k : ℕ) → n ≤ k → get_or to k 0 ≡ get_or s k 0

pub none_filled : {s b : List ℕ} → length s ≡ length b → Filled s b s 0
none_filled e = record { size = e; first = λ k h. absurd (not-suc-le-zero h); rest = λ k h. refl }

-- up to a part that is replaced nothing changes
pub part_begun : (s : List ℕ) (n : ℕ) (p : List ℕ) → n + length p ≤ length s → Filled s (replaced s n p) s n
part_begun s n p room = record {
  size = sym (length_replaced s n p room);
  first = λ k h. sym (replaced_before s n p k 0 h (omega arith));
  rest = λ k h. refl;
}

module _ {s b to : List ℕ} {n : ℕ} (f : Filled s b to n) where
  -- the next part is there already
  pub already : {p : List ℕ} → At s n p → At b n p → (m : ℕ) → m ≡ n + length p → Filled s b to m
  already x y m e = record {
    size = f.size;
    first = λ k h. by_order k n (f.first k)
        (λ l.
        let place : n + (k - n) ≡ k = omega arith in
        f.rest k l
        ∙ same_place s (sym place)
        ∙ sym (x.byte (k - n) (omega arith))
        ∙ y.byte (k - n) (omega arith)
        ∙ same_place b place);
    rest = λ k h. f.rest k (omega arith);
  }

  -- the next part is put, as the bytes p'
  pub part_more : {p p' after : List ℕ} → At b n p → p' ≡ p → after ≡ replaced_if_room to n p'
      → n + length p ≤ length b → (m : ℕ) → m ≡ n + length p → Filled s b after m
  part_more {p} {p'} {after} y same e fits m q =
      let room : n + length p ≤ length to = omega (arith, f.size) in
      let is : after ≡ replaced to n p = rw same at e ∙ sym (replaced_if to n p room) in
      record {
        size = rw is (length_replaced to n p room ∙ f.size);
        first = λ k h. by_order k n
            (λ l. rw is (replaced_before to n p k 0 l (omega arith) ∙ f.first k l))
            (λ l.
            let place : n + (k - n) ≡ k = omega arith in
            same_place after (sym place)
            ∙ rw is (sym ((replaced_at to n p room).byte (k - n) (omega arith)))
            ∙ y.byte (k - n) (omega arith)
            ∙ same_place b place);
        rest = λ k h. rw is (replaced_after to n p room k (omega arith) ∙ f.rest k (omega arith));
      }

  -- the next byte is put
  pub byte_more : (v : ℕ) → v ≡ get_or b n 0 → n < length b → Filled s b (set to n v) (n + 1)
  byte_more v e h = record {
    size = length-set to n v ∙ f.size;
    first = λ k l. by_equality k n
        (λ q. rw q (get_or-set_same to n v 0 (omega (arith, f.size)) ∙ e))
        (λ q. get_or-set_other to n k v 0 q ∙ f.first k (omega arith));
    rest = λ k l. get_or-set_other to n k v 0 (λ q. omega arith) ∙ f.rest k (omega arith);
  }

  -- all of it
  pub filled : length b ≤ n → to ≡ b
  filled h = ext_get_or 0 to b f.size (λ k l. f.first k (omega (arith, f.size)))

same_filled : {s b to : List ℕ} {n m : ℕ} → Filled s b to n → m ≡ n → Filled s b to m
same_filled {s} {b} {to} f e = subst (Filled s b to) (sym e) f

-- the last byte is put, at place m
pub last_byte : {s b to : List ℕ} {n : ℕ} → Filled s b to n → (m v : ℕ) → m ≡ n → v ≡ get_or b m 0
    → length b ≡ m + 1 → set to m v ≡ b
last_byte f m v e same size = filled (byte_more (same_filled f e) v same (omega arith)) (omega arith)

-- the last part is put, at place m
pub last_part : {s b to p after : List ℕ} {n : ℕ} → Filled s b to n → (m : ℕ) → m ≡ n → At b m p
    → after ≡ replaced to m p → length b ≡ m + length p → after ≡ b
last_part {to = to} {p = p} f m e y is size =
    let room : m + length p ≤ length to = omega (arith, f.size) in
    filled (part_more (same_filled f e) y refl (is ∙ replaced_if to m p room) (omega arith) (m + length p) refl)
    (omega arith)

-- ---- the head

module _ (posts : ℕ) (tracks : List ℕ) (sidings trains : ℕ) (eight : length tracks ≡ 8) where
  -- as the code writes it: a byte, the tracks at once, two bytes
  pub head_put : (s : List ℕ) {after : List ℕ} → head_length ≤ length s
      → after ≡ replaced_if_room (set s posts_byte posts) tracks_byte tracks
      → set (set after sidings_byte sidings) trains_byte trains ≡ replaced s 0 (head_bytes posts tracks sidings trains)
  head_put s {after} room e =
      let head = head_bytes posts tracks sidings trains in
      let eleven = head_length_lem posts tracks sidings trains eight in
      let b = replaced s 0 head in
      let size : length b ≡ length s = length_replaced s 0 head (omega arith) in
      let there : At b 0 head = replaced_at s 0 head (omega arith) in
      let first = (posts_at_lem posts tracks sidings trains eight there).byte 0 (omega arith) in
      let next = (sidings_at_lem posts tracks sidings trains eight there).byte 0 (omega arith) in
      let last = (trains_at_lem posts tracks sidings trains eight there).byte 0 (omega arith) in
      let one = byte_more (none_filled {s = s} {b = b} (sym size)) posts first (omega arith) in
      let nine =
      part_more one (tracks_at_lem posts tracks sidings trains eight there) refl e (omega arith) sidings_byte
      (omega arith) in
      let ten = byte_more nine sidings next (omega arith) in
      let all = byte_more ten trains last (omega arith) in
      ext_get_or 0 (set (set after sidings_byte sidings) trains_byte trains) b all.size
      (λ k h. by_order k head_length (all.first k)
      (λ l. all.rest k l ∙ sym (replaced_after s 0 head (omega arith) k (omega arith))))

  -- a buffer that begins with the head of b
  pub head_begun : (e : List ℕ) {s b : List ℕ} → length e ≡ length b → head_length ≤ length b
      → s ≡ replaced e 0 (head_bytes posts tracks sidings trains) → At b 0 (head_bytes posts tracks sidings trains)
      → Filled s b s head_length
  head_begun e {s} {b} size long is y =
      let head = head_bytes posts tracks sidings trains in
      let eleven = head_length_lem posts tracks sidings trains eight in
      let room : 0 + length head ≤ length e = omega arith in
      let same : length s ≡ length b = rw is (length_replaced e 0 head room ∙ size) in
      already (none_filled same) (rw is (replaced_at e 0 head room)) y head_length (omega arith)
