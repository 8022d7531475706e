-- The claim on the call for planners.
use mathlib.Core.Path.{◌≡◌, refl, ap, ◌∙◌}
use mathlib.Core.Logic.{◌≢◌}
use mathlib.Core.List.{List}
use Prim.Native.Nat.{ℕ, ◌%◌, ◌<◌}
use native.Mathlib.Omega.{arith}
use lib.ListN.{length}
use borrow.Author.Tests.{eq-eqb, ne_eqb}
use Rattle.common.proofs.Tests.{by_equality}
use Rattle.common.proofs.Check.{refusal_below}
use Rattle.timing.specs.Timing.{time_checks, running_time, time_refusal}
use Rattle.timing.proofs.Claims.{time_number, answered, accepted, in_32_bits}
use Rattle.encoding.specs.TimeBytes.{time_length, time_bytes, seconds_in, rest_in}
use Rattle.encoding.proofs.RoundTrip.{round_trip}
use Rattle.line.specs.Refusal.{strange_state}
use Rattle.calls.specs.Types.{Time, Result, Ok, Err}
use Rattle.calls.specs.Word.{word_of, refusal_in}
use Rattle.calls.specs.PlanningCalls.{TimeCall, time_call, time_after, running_time_call, TimeTold}

module _ (book : List ℕ) (p q v : ℕ) (time : List ℕ) where
  module _ (h : length time ≡ time_length) where
    with_room : running_time_call book p q v time ≡ time_after (running_time book p q v) time
    unfolding running_time_call
    with_room = rw (eq-eqb (length time) time_length h)

    number_small : time_refusal (running_time book p q v) < 256
    number_small = rw time_number (refusal_below 256 (time_checks book p q v) (omega arith) refl)

    -- the word is the number, and a refusal leaves the bytes as they are
    word_is : (a : Result Time ℕ) → (time_after a time).answer ≡ time_refusal a
    word_is (Ok t) = omega arith
    word_is (Err n) = omega arith

    left : (a : Result Time ℕ) → time_refusal a ≢ 0 → (time_after a time).time ≡ time
    left (Ok t) k = absurd (k refl)
    left (Err n) k = refl

    word : (running_time_call book p q v time).answer ≡ time_refusal (running_time book p q v)
    word = rw with_room (word_is (running_time book p q v))

    number : refusal_in (running_time_call book p q v time).answer ≡ time_refusal (running_time book p q v)
    number =
        let n = time_refusal (running_time book p q v) in
        let low : n % 256 ≡ n = omega (arith, number_small) in
        rw word low

    told : time_refusal (running_time book p q v) ≡ 0
        → let c = running_time_call book p q v time in
        (t : Time) × (running_time book p q v ≡ Ok t) × (seconds_in c.time ≡ t.seconds) × (rest_in c.time ≡ t.rest)
    told none =
        let found = accepted book p q v (answered book p q v none) in
        let t = found.0 in
        let small = in_32_bits book p q v t found.1 in
        let written : (running_time_call book p q v time).time ≡ time_bytes t
        = ap (λ (c : TimeCall). c.time) (with_room ∙ ap (λ (a : Result Time ℕ). time_after a time) found.1) in
        let back = round_trip.time_back t small.0 small.1 in
        (t, found.1, rw written back.0, rw written back.1)

  other_length : length time ≢ time_length
      → running_time_call book p q v time ≡ time_call (word_of strange_state 0) time
  unfolding running_time_call
  other_length e = rw (ne_eqb (length time) time_length e)

  refused : refusal_in (running_time_call book p q v time).answer ≢ 0 → (running_time_call book p q v time).time ≡ time
  refused h = by_equality (length time) time_length
      (λ e.
      ap (λ (c : TimeCall). c.time) (with_room e)
      ∙ left e (running_time book p q v) (λ z. h (number e ∙ z)))
      (λ e. ap (λ (c : TimeCall). c.time) (other_length e))

pub time_told : TimeTold
time_told = record { word = word; number = number; told = told; other_length = other_length; refused = refused }
