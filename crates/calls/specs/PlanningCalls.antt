-- The call for planners: what it answers, and the lent buffer afterwards.
use Rattle.std.specs.Prelude.{◌≡◌, ◌≢◌, cond, List, ℕ, eqb, length}
use Rattle.line.specs.Refusal.{strange_state}
use Rattle.timing.specs.Timing.{running_time, time_refusal}
use Rattle.encoding.specs.TimeBytes.{time_length, time_bytes, seconds_in, rest_in}
use Rattle.calls.specs.Types.{Time, Result, Ok, Err}
use Rattle.calls.specs.Word.{word_of, refusal_in}

pub record TimeCall : Type 0 where
  pub answer : ℕ
  pub time : List ℕ

abbrev pub time_call : ℕ → List ℕ → TimeCall
time_call answer time = record { answer = answer; time = time }

-- the time is written where the question is accepted; a refusal changes nothing
abbrev pub time_written : Result Time ℕ → List ℕ → List ℕ
time_written (Ok t) time = time_bytes t
time_written (Err n) time = time

abbrev pub time_after : Result Time ℕ → List ℕ → TimeCall
time_after a time = time_call (word_of (time_refusal a) 0) (time_written a time)

-- a `time` buffer that is not 8 bytes is 1, nothing changed. Else as 02, card 5.
unfoldable pub running_time_call : List ℕ → ℕ → ℕ → ℕ → List ℕ → TimeCall
running_time_call book from to speed time =
    cond (eqb (length time) time_length)
    (time_after (running_time book from to speed) time)
    (time_call (word_of strange_state 0) time)

-- what is claimed of it: the word is the number of the refusal and no more, and its low byte holds that; the bytes of
-- an accepted question say its seconds and its rest, and a refusal changes nothing
pub record TimeTold : Type 0 where
  pub word : (book : List ℕ) (p q v : ℕ) (time : List ℕ) → length time ≡ time_length
      → (running_time_call book p q v time).answer ≡ time_refusal (running_time book p q v)
  pub number : (book : List ℕ) (p q v : ℕ) (time : List ℕ) → length time ≡ time_length
      → refusal_in (running_time_call book p q v time).answer ≡ time_refusal (running_time book p q v)
  pub told : (book : List ℕ) (p q v : ℕ) (time : List ℕ) → length time ≡ time_length
      → time_refusal (running_time book p q v) ≡ 0
      → let c = running_time_call book p q v time in
      (t : Time) × (running_time book p q v ≡ Ok t) × (seconds_in c.time ≡ t.seconds) × (rest_in c.time ≡ t.rest)
  -- a buffer of another length is 1
  pub other_length : (book : List ℕ) (p q v : ℕ) (time : List ℕ) → length time ≢ time_length
      → running_time_call book p q v time ≡ time_call (word_of strange_state 0) time
  pub refused : (book : List ℕ) (p q v : ℕ) (time : List ℕ) → refusal_in (running_time_call book p q v time).answer ≢ 0
      → (running_time_call book p q v time).time ≡ time
