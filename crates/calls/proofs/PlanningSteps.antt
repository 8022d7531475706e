-- How the call for planners comes out, by the tests that the code makes.
use mathlib.Core.Path.{◌≡◌}
use mathlib.Core.Logic.{◌≢◌}
use mathlib.Core.List.{List}
use Prim.Native.Nat.{ℕ}
use lib.ListN.{length}
use borrow.Author.Tests.{eq-eqb, ne_eqb}
use Rattle.line.specs.Refusal.{strange_state}
use Rattle.timing.specs.Timing.{running_time}
use Rattle.encoding.specs.TimeBytes.{time_length, time_bytes}
use Rattle.calls.specs.Types.{Time, Result, Ok, Err}
use Rattle.calls.specs.Word.{word_of}
use Rattle.calls.specs.PlanningCalls.{time_call, running_time_call}

module _ (book : List ℕ) (p q v : ℕ) (time : List ℕ) where
  pub no_room : length time ≢ time_length → (w : ℕ) → w ≡ word_of strange_state 0
      → time_call w time ≡ running_time_call book p q v time
  unfolding running_time_call
  no_room h w e = rw (e, ne_eqb (length time) time_length h)

  module _ (h : length time ≡ time_length) (a : Result Time ℕ) (is : a ≡ running_time book p q v) where
    pub not_timed : (n : ℕ) → a ≡ Err n → (w : ℕ) → w ≡ word_of n 0
        → time_call w time ≡ running_time_call book p q v time
    unfolding running_time_call
    not_timed n refused w e = rw (e, eq-eqb (length time) time_length h, ← is, refused)

    pub timed : (t : Time) → a ≡ Ok t → (after : List ℕ) → after ≡ time_bytes t → (w : ℕ) → w ≡ word_of 0 0
        → time_call w after ≡ running_time_call book p q v time
    unfolding running_time_call
    timed t accepted after q w e = rw (e, q, eq-eqb (length time) time_length h, ← is, accepted)
