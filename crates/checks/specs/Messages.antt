-- The checks of a frame by what it reads as.
use Rattle.std.specs.Prelude.{cond, List, ◌∷◌, ℕ, ◌≤◌, ltb, Result, Ok, Err}
use Rattle.common.specs.Check.{Check, check}
use Rattle.line.specs.Refusal.{wrong_end}
use Rattle.rules.specs.State.{train_of}
use Rattle.rules.specs.Answer.{for_box, content_checks}
use Rattle.checks.specs.Types.{Message, TrainNo, Train, State, Refusal, UnknownTrain}

-- 6, and those of its content
abbrev pub message_checks : State → Message → List Check
message_checks s a = check wrong_end (for_box a) ∷ content_checks s a

-- 7: the record of train t, or the refusal where t is not below T
abbrev pub named_train : State → TrainNo → Result Train Refusal
named_train s t = cond (ltb t.0 s.trains) (Ok (train_of s t.0)) (Err UnknownTrain)

-- a refusal is told by a number from 1 on: 0 is told as `Ok`
abbrev pub NamesRefusal : Result (Unit {0}) ℕ → Type 0
NamesRefusal (Ok done) = Unit {0}
NamesRefusal (Err n) = 1 ≤ n
