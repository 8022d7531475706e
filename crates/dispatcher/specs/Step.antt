-- Words of the functions below the entry points: what they hold by value where the definitions have lists. Of these
-- only `Stepped`, the contract of the entry point `step`, is cited from above.
use Rattle.std.specs.Prelude.{◌≡◌, List, [], ◌∷◌, ◌++◌, ℕ, ◌-◌, length, take, drop}
use Rattle.common.specs.Check.{refusal, unless_refused}
use Rattle.frame.specs.Frame.{read_frame}
use Rattle.journal.specs.Journal.{frame_of, empty_batch, appended}
use Rattle.dispatcher.specs.Types.{Message, Record, Batch, State, Verdict, Sent, RefusedBy, Repeat, Not, Silent}
use Rattle.dispatcher.specs.Types.{Told, Outcome}
use Rattle.authority.specs.Progress.{batch_of}
use Rattle.rules.specs.Answer.{frame_checks, accepted, answer_of, answer}

-- ---- the answers' frames

-- the frames of some records, one after the other
unfoldable pub frames_in : List Record → List ℕ
frames_in [] = []
frames_in (r ∷ l) = frame_of r ++ frames_in l

-- of the first n items the answers: all but the first, which is the frame's own
abbrev pub answers_in : List Record → ℕ → List Record
answers_in items n = take (n - 1) (drop 1 items)

-- the messages by which a repeat is answered
abbrev pub messages_of : Repeat → List Message
messages_of Not = []
messages_of Silent = []
messages_of (Told a) = a ∷ []

-- ---- the outcome

abbrev pub outcome_of : State → Verdict → ℕ → Batch → Outcome
outcome_of s v at b = record { reply = record { state = s; verdict = v }; at = at; batch = b }

-- what a frame leaves by value: the reply, the place of the first record and the records
abbrev pub outcome_for : State → List ℕ → ℕ → List ℕ → ℕ → Outcome
outcome_for s table records frame room =
    let w = accepted table s (read_frame frame) in
    unless_refused (refusal (frame_checks s (length table) records frame room))
    (outcome_of w.state (Sent (length w.sent)) s.logged (batch_of w.logged))
    (λ n. outcome_of s (RefusedBy n) 0 empty_batch)

-- o is that, and with its records written, and the out buffer afterwards, it is the answer, with every journal of so
-- many records
pub record Stepped (s : State) (table : List ℕ) (records : ℕ) (frame out : List ℕ) (o : Outcome) (after : List ℕ)
    : Type 0 where
  pub exact : o ≡ outcome_for s table records frame (length out)
  pub answers : (journal : List Record) → length journal ≡ records
      → answer_of o.reply (appended journal o.at o.batch) after ≡ answer s table journal frame out
