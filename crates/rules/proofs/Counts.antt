-- Which counts are strange, and that 13 is gone: `Counts`.
use mathlib.Core.Path.{◌≡◌, refl, ap}
use mathlib.Core.Bool.{true, false, and-false}
use Prim.Native.Nat.{◌<◌}
use native.Mathlib.Omega.{arith}
use lib.ListN.{length}
use borrow.Author.Tests.{lt-leb}
use Rattle.common.proofs.Check.{Refuses, none, pass, clear, refusal_is, accepts}
use Rattle.frame.specs.Frame.{read_frame}
use Rattle.rules.specs.Types.{State}
use Rattle.rules.specs.State.{counting}
use Rattle.rules.specs.Valid.{consistent, most_counted, valid}
use Rattle.rules.specs.Answer.{accepted, Answer, answered, refused, answer}
use Rattle.rules.specs.Refusals.{Handed}
use Rattle.rules.specs.Counts.{IsAnswered, Counts}
use Rattle.rules.proofs.Validity.{valid_facts, is_valid}
use Rattle.rules.proofs.Changes.{valid_counted}
use Rattle.rules.proofs.Acceptance.{by_content}
use Rattle.rules.proofs.Refusals.{checks, after_asking, after_arriving, refusals}
use Rattle.rules.proofs.Repeats.{not_a_number}

too_many : (s : State) → most_counted < s.logged → valid s ≡ false
unfolding valid
too_many s h = rw (lt-leb s.logged most_counted h) (and-false (consistent s))

passed_answered : (h : Handed) → Refuses (checks h) 0 → IsAnswered h
unfolding answer
passed_answered h r =
    let w = accepted h.table h.state (read_frame h.frame) in (
      length w.sent,
      ap (λ (b : Answer). b.verdict)
          (accepts (answered h.state.logged h.journal h.out w) (refused h.state h.journal h.out)
          (refusal_is r)),
    )

pub counts : Counts
counts = record {
  strange = λ h e. refusals.strange h (too_many h.state (omega (arith, e)));
  in_range_lem = λ s n e more few.
      is_valid (counting s n) (valid_counted s n (valid_facts s e) (omega (arith, more))) (omega (arith, few));
  gone = λ h. not_a_number h 13 (omega arith) (by_content h.state (λ cs. clear 13 cs ≡ true)
      (λ m. refl) (λ m. refl) (λ m. refl) (λ m. refl) (λ m. refl) refl (read_frame h.frame));
  request = λ h m v. passed_answered h (after_asking h m v);
  arrival = λ h m v e. passed_answered h (after_arriving h m v (pass e none));
}
