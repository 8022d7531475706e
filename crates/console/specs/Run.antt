-- A run of the box, from frame to frame.
use Rattle.std.specs.Prelude.{cond, List, ℕ, ◌+◌, ltb, replicate}
use Rattle.rules.specs.Answer.{Answer, out_length, answer}
use Rattle.console.specs.Types.{Verdict, Sent, RefusedBy, State, Log, Run}

-- the run before its first frame
abbrev pub fresh_run : State → Log → Run
fresh_run s log = record { state = s; log = log; refused = 0 }

-- the greatest number of 64 bits
abbrev pub most : ℕ
most = 18446744073709551615

-- "the count of refused frames", as far as 64 bits count
abbrev pub count_after : ℕ → Verdict → ℕ
count_after n (Sent k) = n
count_after n (RefusedBy k) = cond (ltb n most) (n + 1) n

-- the run with an answer
abbrev pub run_with : ℕ → Answer → Run
run_with n a = record { state = a.state; log = record { records = a.journal }; refused = count_after n a.verdict }

-- the run after one more frame
unfoldable pub after_frame : Run → List ℕ → List ℕ → Run
after_frame r table frame =
    run_with r.refused (answer r.state table r.log.records frame (replicate out_length 0))
