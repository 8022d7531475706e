-- Which case of `read_frame` holds, by the tests that the code makes.
use mathlib.Core.Path.{◌≡◌, sym, ap, ◌∙◌}
use mathlib.Core.Logic.{◌≢◌}
use mathlib.Core.Bool.{true, false, ◌&&◌}
use mathlib.Core.List.{List}
use Prim.Native.Nat.{ℕ, ◌≤◌, ◌<◌}
use native.Mathlib.Omega.{arith}
use lib.Dec.{eqb, leb}
use lib.ListN.{length, get_or}
use borrow.Author.Tests.{eq-eqb, ne_eqb, le-leb, leb-true}
use Rattle.common.specs.Word.{word}
use Rattle.common.proofs.Tests.{not_passed, and_left, and_right}
use Rattle.common.proofs.Check.{Refuses, none, stop, pass, accepted_by, refused_by_lem}
use Rattle.line.specs.Line.{in_range}
use Rattle.line.specs.Refusal.{torn_frame, other_edition, unknown_kind}
use Rattle.frame.specs.Types.{Move, Refused}
use Rattle.frame.specs.Frame.{move_of, read_checks, message_of, read_frame}

-- the move and the message that the bytes of a whole frame name
abbrev pub named_move : List ℕ → Move
named_move s = move_of (get_or s 4 0) (get_or s 5 0) (get_or s 6 0)

module _ (s : List ℕ) where
  refused : {n : ℕ} → 0 < n → Refuses (read_checks s) n → Refused n ≡ read_frame s
  unfolding read_frame
  refused h r = refused_by_lem (message_of (get_or s 3 0) (named_move s)) Refused h r

  pub other_size : length s ≢ 7 → Refused torn_frame ≡ read_frame s
  other_size h = refused (omega arith) (stop (rw (ne_eqb _ _ h)))

  module _ (size : length s ≡ 7) where
    pub other_length : word (get_or s 0 0) (get_or s 1 0) ≢ 5 → Refused torn_frame ≡ read_frame s
    other_length h = refused (omega arith) (stop (rw (eq-eqb _ _ size, ne_eqb _ _ h)))

    module _ (five : word (get_or s 0 0) (get_or s 1 0) ≡ 5) where
      whole : eqb (length s) 7 && eqb (word (get_or s 0 0) (get_or s 1 0)) 5 ≡ true
      whole = rw (eq-eqb _ _ size, eq-eqb _ _ five)

      pub other_version : get_or s 2 0 ≢ 1 → Refused other_edition ≡ read_frame s
      other_version h = refused (omega arith) (pass whole (stop (ne_eqb _ _ h)))

      module _ (version : get_or s 2 0 ≡ 1) where
        pub other_kind : in_range 1 7 (get_or s 3 0) ≡ false → Refused unknown_kind ≡ read_frame s
        other_kind h = refused (omega arith) (pass whole (pass (eq-eqb _ _ version) (stop h)))

        pub known_kind : (k : ℕ) → get_or s 3 0 ≡ k → 1 ≤ k → k ≤ 7 → message_of k (named_move s) ≡ read_frame s
        unfolding read_frame
        known_kind k e low high =
            let kind : in_range 1 7 (get_or s 3 0) ≡ true = rw (e, le-leb _ _ low, le-leb _ _ high) in
            let r : Refuses (read_checks s) 0 = pass whole (pass (eq-eqb _ _ version) (pass kind none)) in
            ap (λ n. message_of n (named_move s)) (sym e)
            ∙ accepted_by (message_of (get_or s 3 0) (named_move s)) Refused r

-- a kind byte below 1 or above 7 is none
pub not_a_kind : (k : ℕ) → (1 ≤ k → k ≤ 7 → ⊥) → in_range 1 7 k ≡ false
not_a_kind k h =
    not_passed (in_range 1 7 k)
    (λ e. h (leb-true 1 k (and_left (leb 1 k) (leb k 7) e)) (leb-true k 7 (and_right (leb 1 k) (leb k 7) e)))
