-- What is written reads back, and only what is written is read: `specs/RoundTrip.antt`, proved.
use mathlib.Core.Path.{◌≡◌, refl, sym, ap, ◌∙◌}
use mathlib.Core.Bool.{cond}
use mathlib.Core.List.{List, [], ◌∷◌}
use Prim.Native.Nat.{ℕ, zero, suc, ◌+◌}
use native.Mathlib.Nat.{add-zero, add-suc, suc-add}
use native.Mathlib.Omega.{arith}
use lib.Dec.{eqb}
use lib.ListN.{length, get_or, drop}
use lib.Seq.{drop-cons, drop-length}
use borrow.Author.Tests.{eqb-true, eq-eqb, ne_eqb}
use Rattle.common.specs.Check.{refusal, unless_refused}
use Rattle.common.specs.Word.{word}
use Rattle.common.proofs.Tests.{by_equality, and_left, and_right}
use Rattle.common.proofs.Check.{passed_by, accepts, accepted_if}
use Rattle.line.specs.Refusal.{torn_frame, other_edition}
use Rattle.frame.specs.Types.{Move, Message, Fa, Fe, Afe, Am, La, Le, Lb, Refused}
use Rattle.frame.specs.Frame.{read_checks, message_of, read_frame, frame_bytes, bytes_of}
use Rattle.frame.specs.RoundTrip.{IsMessage, FramesReadBack}
use Rattle.frame.proofs.Cases.{named_move}

back : (m : Message) → IsMessage m → read_frame (bytes_of m) ≡ m
unfolding read_frame refusal unless_refused message_of bytes_of IsMessage
back (Fa m) h = refl
back (Fe m) h = refl
back (Afe m) h = refl
back (Am m) h = refl
back (La m) h = refl
back (Le m) h = refl
back (Lb m) h = refl
back (Refused n) h = absurd h

-- n elements from i on, one by one
abbrev spelt : List ℕ → ℕ → ℕ → List ℕ
spelt s zero i = []
spelt s (suc n) i = get_or s i 0 ∷ spelt s n (suc i)

spell : (s : List ℕ) (n i : ℕ) → i + n ≡ length s → drop i s ≡ spelt s n i
spell s zero i e = ap (λ (k : ℕ). drop k s) (sym (add-zero i) ∙ e) ∙ drop-length s
spell s (suc n) i e =
    drop-cons s i 0 (omega (arith, add-suc i n))
    ∙ ap (λ (r : List ℕ). get_or s i 0 ∷ r) (spell s n (suc i) (suc-add i n ∙ sym (add-suc i n) ∙ e))

-- the message of a kind byte has that kind byte: it is n, or the later tests decide
kind_kept : (k n : ℕ) (m : Move) (y z : Message)
    → bytes_of y ≡ frame_bytes n m → (IsMessage z → bytes_of z ≡ frame_bytes k m)
    → IsMessage (cond (eqb k n) y z) → bytes_of (cond (eqb k n) y z) ≡ frame_bytes k m
kind_kept k n m y z e f = by_equality k n
    (λ q. rw (eq-eqb k n q) (λ h. e ∙ ap (λ (x : ℕ). frame_bytes x m) (sym q)))
    (λ q. rw (ne_eqb k n q) f)

message_bytes : (k : ℕ) (m : Move) → IsMessage (message_of k m) → bytes_of (message_of k m) ≡ frame_bytes k m
unfolding message_of bytes_of IsMessage
message_bytes k m =
    kind_kept k 1 m _ _ refl (kind_kept k 2 m _ _ refl (kind_kept k 3 m _ _ refl (kind_kept k 4 m _ _ refl
    (kind_kept k 5 m _ _ refl (kind_kept k 6 m _ _ refl (kind_kept k 7 m _ _ refl absurd))))))

no_message : (n : ℕ) → IsMessage (Refused n) → ⊥
unfolding IsMessage
no_message n h = h

only : (s : List ℕ) → IsMessage (read_frame s) → bytes_of (read_frame s) ≡ s
unfolding read_frame
only s h =
    let m = message_of (get_or s 3 0) (named_move s) in
    let a = accepted_if IsMessage (refusal (read_checks s)) m Refused no_message h in
    let passed = passed_by (read_checks s) refl a.0 in
    let size : length s ≡ 7 = eqb-true _ _ (and_left (eqb (length s) 7) _ (passed torn_frame)) in
    let five : word (get_or s 0 0) (get_or s 1 0) ≡ 5
    = eqb-true _ _ (and_right (eqb (length s) 7) _ (passed torn_frame)) in
    let high : get_or s 0 0 ≡ 0 = omega arith in
    let low : get_or s 1 0 ≡ 5 = omega arith in
    let version : get_or s 2 0 ≡ 1 = eqb-true _ _ (passed other_edition) in
    ap bytes_of (accepts m Refused a.0) ∙ message_bytes (get_or s 3 0) (named_move s) a.1
    ∙ cc (spell s 7 0 (sym size))

pub round_trip : FramesReadBack
round_trip = record { back = back; only = only }
