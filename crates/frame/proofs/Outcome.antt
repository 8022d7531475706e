-- What a frame reads as tells how the checks of reading went: what reads as a message passed them, and a refusal has
-- the number of the first that failed.
use mathlib.Core.Path.{◌≡◌, refl, ◌∙◌}
use mathlib.Core.Bool.{true, cond}
use mathlib.Core.List.{List}
use Prim.Native.Nat.{ℕ, zero, suc, ◌≤◌, ◌<◌}
use native.Mathlib.Omega.{arith}
use lib.Dec.{leb, eqb}
use lib.ListN.{get_or}
use borrow.Author.Tests.{leb-true, eq-eqb, ne_eqb}
use Rattle.common.specs.Check.{refusal, unless_refused}
use Rattle.common.proofs.Tests.{by_equality, and_left, and_right}
use Rattle.common.proofs.Check.{passed_by, accepted_if}
use Rattle.line.specs.Refusal.{unknown_kind}
use Rattle.line.specs.Line.{in_range}
use Rattle.frame.specs.Types.{Move, Message, Refused}
use Rattle.frame.specs.Frame.{read_checks, message_of, read_frame}
use Rattle.frame.specs.RoundTrip.{IsMessage}
use Rattle.frame.proofs.Cases.{named_move}

pub read_passed : (s : List ℕ) → IsMessage (read_frame s) → refusal (read_checks s) ≡ 0
unfolding read_frame IsMessage
read_passed s h =
    (accepted_if IsMessage (refusal (read_checks s)) (message_of (get_or s 3 0) (named_move s)) Refused (λ k z. z) h).0

-- a kind from n on is n, or the later tests decide
from_kind : (k n : ℕ) (y z : Message) → n ≤ k → IsMessage y → (suc n ≤ k → IsMessage z) → IsMessage (cond (eqb k n) y z)
from_kind k n y z low h later = by_equality k n
    (λ e. rw (eq-eqb k n e) h)
    (λ d. rw (ne_eqb k n d) (later (omega arith)))

known_message : (k : ℕ) (m : Move) → in_range 1 7 k ≡ true → IsMessage (message_of k m)
unfolding message_of IsMessage
known_message k m h =
    let high = leb-true k 7 (and_right (leb 1 k) (leb k 7) h) in
    from_kind k 1 _ _ (leb-true 1 k (and_left (leb 1 k) (leb k 7) h)) tt (λ a. from_kind k 2 _ _ a tt
    (λ b. from_kind k 3 _ _ b tt (λ c. from_kind k 4 _ _ c tt (λ d. from_kind k 5 _ _ d tt
    (λ e. from_kind k 6 _ _ e tt (λ f. from_kind k 7 _ _ f tt (λ g. absurd (omega arith))))))))

pub read_refused : (s : List ℕ) (n : ℕ) → read_frame s ≡ Refused n → (0 < n) × (refusal (read_checks s) ≡ n)
unfolding read_frame unless_refused IsMessage
read_refused s n = at (refusal (read_checks s)) refl
  where
    at : (k : ℕ) → refusal (read_checks s) ≡ k
        → unless_refused k (message_of (get_or s 3 0) (named_move s)) Refused ≡ Refused n → (0 < n)
        × (refusal (read_checks s) ≡ n)
    at zero r e =
        absurd (rw e at (known_message (get_or s 3 0) (named_move s) (passed_by (read_checks s) refl r unknown_kind)))
    at (suc k) r e = let z : suc k ≡ n = cc in (rw (← z) (omega arith), r ∙ z)
