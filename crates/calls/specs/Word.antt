-- What every entry point answers.
use Rattle.std.specs.Prelude.{ℕ, ◌+◌, ◌*◌, ◌%◌}

-- the number of a refusal, or 0, in the low byte; the number of frames written in the next
abbrev pub word_of : ℕ → ℕ → ℕ
word_of refusal sent = refusal + 256 * sent

-- the low byte of an answer
abbrev pub refusal_in : ℕ → ℕ
refusal_in answer = answer % 256
