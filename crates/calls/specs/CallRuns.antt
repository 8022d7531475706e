-- The claims on a list of calls: quangevit_open, then quangevit_answer for each frame, with the bytes and the table
-- that the call before left. What the outside sees are the words and the out buffers, and for the tracks alone the
-- records that a call added. After an opening that answers 0 such a list is a run of the rules, so that demand 3, and
-- all else that crates `assurance` and `conduct` show of runs, holds of it; after one that is refused every frame is
-- refused by 1.
use Rattle.std.specs.Prelude.{◌≡◌, ◌≢◌, true, cond, List, [], ◌∷◌, ℕ, ◌/◌, eqb}
use Rattle.line.specs.Refusal.{strange_state}
use Rattle.line.specs.Book.{line_in}
use Rattle.rules.specs.Opening.{opening}
use Rattle.assurance.specs.Run.{Input, Exchange, Ran, records_between, run}
use Rattle.assurance.specs.Observer.{at_opening, observe}
use Rattle.assurance.specs.Tracks.{tracks_at_opening, observe_tracks}
use Rattle.assurance.specs.WholeList.{Assured}
use Rattle.encoding.specs.StateBytes.{encodes_state, state_in}
use Rattle.encoding.specs.JournalBytes.{records_in, with_records}
use Rattle.calls.specs.Types.{Verdict, Sent, RefusedBy}
use Rattle.calls.specs.Word.{word_of, refusal_in}
use Rattle.calls.specs.BoxCalls.{open_call, AnswerCall, answer_call_of, answer_call}

-- what a word says: the low byte is the number of the refusal, or 0, and the next the number of frames written
abbrev pub verdict_in : ℕ → Verdict
verdict_in word = cond (eqb (refusal_in word) 0) (Sent (word / 256)) (RefusedBy (refusal_in word))

-- a call on the bytes of a state, as the outside sees it
abbrev pub exchange_of : List ℕ → Input → AnswerCall → Exchange
exchange_of state i c = record {
  frame = i.frame;
  verdict = verdict_in c.answer;
  out = c.out;
  records = records_between (state_in state).logged (state_in c.state).logged (records_in c.journal);
}

-- the bytes that a list of calls leaves, and what was seen
pub record Called : Type 0 where
  pub state : List ℕ
  pub journal : List ℕ
  pub exchanges : List Exchange

-- quangevit_answer for each frame; the table is only read
unfoldable pub calls : List ℕ → List ℕ → List ℕ → List Input → Called
calls table state journal [] = record { state = state; journal = journal; exchanges = [] }
calls table state journal (i ∷ is) =
    let c = answer_call state table journal i.frame i.out in
    let r = calls table c.state c.journal is in
    record { state = r.state; journal = r.journal; exchanges = exchange_of state i c ∷ r.exchanges }

-- the bytes as a state and a journal
abbrev pub decoded : Called → Ran
decoded c = record { state = state_in c.state; journal = records_in c.journal; exchanges = c.exchanges }

-- a list of calls that was a run of the rules from an accepted opening
pub record AsRun (book table journal : List ℕ) (inputs : List Input) (c : Called) : Type 0 where
  pub accepted : (opening book table (records_in journal)).number ≡ 0
  -- its bytes encode a state; with the journal's they are what the run leaves, and the run's exchanges were seen
  pub encodes : encodes_state c.state ≡ true
  pub same : let o = opening book table (records_in journal) in
      decoded c ≡ run o.table o.state (records_in journal) inputs
  -- the bytes past the journal's last whole record are those that were lent
  pub rest : c.journal ≡ with_records journal (records_in c.journal)
  -- so that demand 3 holds of it
  pub assured : let l = line_in book in
      Assured l (decoded c) (observe (at_opening l) c.exchanges)
      (observe_tracks l (at_opening l) (tracks_at_opening l) c.exchanges)

pub record CallRuns : Type 0 where
  -- quangevit_open that answers 0, then any list of calls
  pub opened : (book state table journal : List ℕ) (inputs : List Input)
      → let o = open_call book state table journal in
      o.answer ≡ 0 → AsRun book table journal inputs (calls o.table o.state journal inputs)
  -- quangevit_open that is refused: every call on what it left is refused by 1 and changes nothing
  pub shut : (book state table journal frame out : List ℕ)
      → let o = open_call book state table journal in
      o.answer ≢ 0
      → answer_call o.state o.table journal frame out ≡ answer_call_of (word_of strange_state 0) o.state journal out
