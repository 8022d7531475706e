-- The order of asking over a list, told by the frames: "All this must come without ranking trains, since crews can only
-- foresee turns by order of asking."
use Rattle.std.specs.Prelude.{◌≡◌, ◌≢◌, cond, List, [], ◌∷◌, ℕ, ◌+◌, ◌<◌, length}
use Rattle.common.specs.Update.{update}
use Rattle.line.specs.Book.{line_in}
use Rattle.frame.specs.Frame.{move_of, read_frame}
use Rattle.rules.specs.Opening.{opening}
use Rattle.assurance.specs.Types.{Line, Move, Message, Fa, Fe, Afe, Am, La, Le, Lb, Refused, Record, Verdict}
use Rattle.assurance.specs.Types.{Sent, RefusedBy}
use Rattle.assurance.specs.Run.{Input, Exchange, run, answer_after}
use Rattle.assurance.specs.Observer.{Observer, at_opening, note_frame, note_answers, note, observe, next_told}
use Rattle.conduct.specs.Repeats.{repeats_told, NewFe}
use Rattle.conduct.specs.Waiting.{CouldGo}

-- by train: the number in the list of its last accepted FA that repeats none
abbrev pub Turns : Type 0
Turns = ℕ → ℕ

-- the accepted frame of number n, which repeats none
abbrev pub turn_by : ℕ → Turns → Message → Turns
turn_by n k (Fa m) = update k m.train.0 n
turn_by n k (Fe m) = k
turn_by n k (Afe m) = k
turn_by n k (Am m) = k
turn_by n k (La m) = k
turn_by n k (Le m) = k
turn_by n k (Lb m) = k
turn_by n k (Refused c) = k

-- one exchange: a refused frame changes nothing, nor does a repeat: a train that asks again keeps its turn
abbrev pub turn_in : ℕ → Observer → Turns → List ℕ → Verdict → Turns
turn_in n o k frame (RefusedBy c) = k
turn_in n o k frame (Sent c) = cond (repeats_told o (read_frame frame)) k (turn_by n k (read_frame frame))

-- the exchanges from number n on
unfoldable pub turns_from : ℕ → Observer → Turns → List Exchange → Turns
turns_from n o k [] = k
turns_from n o k (e ∷ es) = turns_from (n + 1) (note o e) (turn_in n o k e.frame e.verdict) es

-- a train that has not asked has 0, which nothing reads
abbrev pub turns : Line → List Exchange → Turns
turns l es = turns_from 0 (at_opening l) (λ t. 0) es

-- the FE for the move m goes to a train that could go then, for its next section. Every other train that could go then
-- asked after it: one that asked before it and still waits could not go.
pub record InTurn (l : Line) (k : Turns) (o : Observer) (m : Move) : Type 0 where
  pub known : m.train.0 < l.trains
  pub next : m ≡ move_of m.train.0 (o.train m.train.0).post (next_told l o m.train.0)
  pub could : CouldGo l o m.train.0
  pub first : (t : ℕ) → t < l.trains → t ≢ m.train.0 → CouldGo l o t → k m.train.0 < k t

-- after every list, each FE in the answer to a further frame that repeats none, with all that was said before it heard.
-- By a repeat nobody gets an authority that did not have it (`RepeatsTold`).
abbrev pub TurnByTurn : Type 0
TurnByTurn = (book table : List ℕ) (journal : List Record) (inputs : List Input)
    → let o = opening book table journal in
    o.number ≡ 0 → (i : Input)
    → let l = line_in book in
    let r = run o.table o.state journal inputs in
    let a = answer_after o.table r i.frame i.out in
    let seen = observe (at_opening l) r.exchanges in
    (said : List Message) (m : Move) → NewFe seen i.frame a said m
    → InTurn l (turn_in (length inputs) seen (turns l r.exchanges) i.frame a.verdict)
    (note_answers (note_frame seen (read_frame i.frame)) said) m
