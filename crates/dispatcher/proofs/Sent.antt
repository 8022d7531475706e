-- The frames of the answers, written one after the other at the beginning of a buffer.
use mathlib.Core.Path.{◌≡◌, refl, sym, ap, ◌∙◌}
use mathlib.Core.List.{List, [], ◌∷◌, ◌++◌, append_assoc, append-nil}
use Prim.Native.Nat.{ℕ, ◌+◌, ◌*◌, ◌≤◌, ◌<◌}
use native.Mathlib.Nat.{zero-add}
use native.Mathlib.Numerals.{add-one}
use native.Mathlib.Omega.{arith}
use lib.ListN.{length, get_or, take, drop, length-append}
use lib.Seq.{take-suc, take-length, length-take-le, take-append_seam, drop-append-add, drop-drop}
use Rattle.common.specs.Part.{replaced, replaced_if_room}
use Rattle.common.proofs.Part.{length_replaced, replaced_if, replaced_none}
use Rattle.frame.specs.Frame.{bytes_of}
use Rattle.journal.specs.Journal.{blank, frame_of, most_sent}
use Rattle.dispatcher.specs.Types.{Message, Record}
use Rattle.rules.specs.Answer.{out_length, frames_of}
use Rattle.rules.proofs.Frames.{bytes_length}
use Rattle.dispatcher.specs.Step.{frames_in}

frames_size : (l : List Record) → length (frames_in l) ≡ 7 * length l
unfolding frames_in
frames_size [] = refl
frames_size (r ∷ l) = rw length-append (omega (arith, frames_size l))

frames_more : (l : List Record) (r : Record) → frames_in (l ++ r ∷ []) ≡ frames_in l ++ frame_of r
unfolding frames_in
frames_more [] r = append-nil (frame_of r)
frames_more (s ∷ l) r = rw (frames_more l r) (sym (append_assoc (frame_of s) (frames_in l) (frame_of r)))

-- ys in the place right behind xs
replaced_next : (o xs ys : List ℕ) → replaced (replaced o 0 xs) (length xs) ys ≡ replaced o 0 (xs ++ ys)
unfolding replaced
replaced_next o xs ys =
    simp (
      zero-add,
      take-append_seam xs (drop (length xs) o),
      drop-append-add xs (drop (length xs) o) (length ys),
      drop-drop,
      length-append,
    )

-- the frames of the first k answers are written in the buffer o, which is then `out`
pub record Written (o : List ℕ) (answers : List Record) (out : List ℕ) (k : ℕ) : Type 0 where
  pub room : out_length ≤ length o
  pub written : out ≡ replaced o 0 (frames_in (take k answers))

pub written_none : (o : List ℕ) (answers : List Record) → out_length ≤ length o → Written o answers o 0
unfolding frames_in
written_none o answers room = record { room = room; written = sym (replaced_none o 0) }

module _ (o : List ℕ) (answers : List Record) (out : List ℕ) (k : ℕ) (few : length answers ≤ most_sent)
    (w : Written o answers out k) where
  module _ (h : k < length answers) where
    size : length (frames_in (take k answers)) ≡ 7 * k
    size = frames_size (take k answers) ∙ ap (λ (n : ℕ). 7 * n) (length-take-le k answers (omega arith))

    written_length : length out ≡ length o
    written_length = ap length w.written ∙ length_replaced o 0 (frames_in (take k answers))
        (omega (arith, size, w.room))

    pub written_more : (f : List ℕ) → f ≡ frame_of (get_or answers k blank) → (after : List ℕ)
        → after ≡ replaced_if_room out (7 * k) f → Written o answers after (k + 1)
    written_more f is after e = record {
      room = w.room;
      written =
          e
          ∙ sym (replaced_if out (7 * k) f (omega (arith, ap length is, written_length, w.room)))
          ∙ ap (λ (n : ℕ). replaced out n f) (sym size)
          ∙ ap (λ (l : List ℕ). replaced l (length (frames_in (take k answers))) f) w.written
          ∙ replaced_next o (frames_in (take k answers)) f
          ∙ ap (replaced o 0) more;
    }
      where
        -- one frame more
        more : frames_in (take k answers) ++ f ≡ frames_in (take (k + 1) answers)
        more =
            ap (λ (g : List ℕ). frames_in (take k answers) ++ g) is
            ∙ sym (frames_more (take k answers) (get_or answers k blank))
            ∙ ap frames_in (sym (take-suc answers k blank (omega arith))
            ∙ ap (λ (n : ℕ). take n answers) (sym (add-one k)))

  pub written_all : k ≡ length answers → out ≡ replaced o 0 (frames_in answers)
  written_all e = w.written ∙ ap (λ (l : List Record). replaced o 0 (frames_in l))
      (ap (λ (n : ℕ). take n answers) e ∙ take-length answers)

-- ---- a repeat's answer

-- one frame at the beginning of the buffer
pub sent_first : (o : List ℕ) (a : Message) → out_length ≤ length o → (bytes : List ℕ) → bytes ≡ bytes_of a
    → (after : List ℕ) → after ≡ replaced_if_room o 0 bytes → after ≡ replaced o 0 (bytes_of a)
sent_first o a room bytes e after placed =
    let size = bytes_length a in
    placed ∙ rw e (sym (replaced_if o 0 (bytes_of a) (omega arith)))

-- the messages l, of which there is none or one
pub sent_none : (o : List ℕ) (l : List Message) → l ≡ []
    → (0 ≡ length l) × (o ≡ replaced o 0 (frames_of l))
unfolding frames_of
sent_none o l e = rw e (refl, sym (replaced_none o 0))

pub sent_one : (o : List ℕ) (l : List Message) (a : Message) → l ≡ a ∷ [] → (k : ℕ) (after : List ℕ)
    → (k ≡ 1) × (after ≡ replaced o 0 (bytes_of a)) → (k ≡ length l) × (after ≡ replaced o 0 (frames_of l))
unfolding frames_of
sent_one o l a e k after placed = rw (e, append-nil (bytes_of a)) placed
