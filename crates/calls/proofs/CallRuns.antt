-- The claims of `specs/CallRuns`. A list of calls is a run of the rules: call by call, by what each leaves
-- (`HandedOn`), and since a word says which verdict it was: a refusal's number is not 0 and fits in the low byte. A
-- refused opening leaves bytes of another length than a state's, or the empty state, which is not valid.
use mathlib.Core.Path.{◌≡◌, refl, sym, ap, subst, ◌∙◌}
use mathlib.Core.Logic.{◌≢◌}
use mathlib.Core.Bool.{true, false}
use mathlib.Core.List.{List, [], ◌∷◌}
use Prim.Native.Nat.{ℕ, ◌+◌, ◌*◌, ◌/◌, ◌%◌, ◌<◌}
use native.Mathlib.Omega.{arith}
use lib.Dec.{eqb}
use lib.ListN.{length}
use borrow.Author.Tests.{eqb-true, eq-eqb, ne_eqb}
use Rattle.common.specs.Check.{refusal, unless_refused}
use Rattle.common.proofs.Tests.{by_cases, by_equality}
use Rattle.common.proofs.Check.{numbers_below, refusal_below, accepts, refuses}
use Rattle.line.specs.Refusal.{strange_state}
use Rattle.line.specs.Line.{well_formed}
use Rattle.line.specs.Book.{line_in}
use Rattle.frame.specs.Frame.{read_frame}
use Rattle.rules.specs.Answer.{frame_checks, accepted, answered, refused, answer}
use Rattle.rules.specs.Valid.{consistent, valid}
use Rattle.rules.specs.Opening.{Opening, empty_state, opening_with, opening}
use Rattle.rules.proofs.Acceptance.{by_content}
use Rattle.assurance.specs.Run.{Input, Exchange, Ran, records_between, exchange, run}
use Rattle.assurance.specs.Observer.{at_opening, observe}
use Rattle.assurance.specs.Tracks.{tracks_at_opening, observe_tracks}
use Rattle.assurance.specs.WholeList.{Assured}
use Rattle.assurance.proofs.WholeList.{whole_list}
use Rattle.encoding.specs.StateBytes.{state_length, encodes_state, state_in}
use Rattle.encoding.specs.JournalBytes.{record_count, records_in, with_records}
use Rattle.encoding.proofs.Journals.{record_count_lem, own_records, with_again}
use Rattle.calls.specs.Types.{Record, State, Verdict, Sent, RefusedBy}
use Rattle.calls.specs.Word.{word_of}
use Rattle.calls.specs.BoxCalls.{OpenCall, open_call, AnswerCall, answer_call_of, answer_left, answer_call}
use Rattle.calls.specs.HandedOn.{StateReadAs, ruled}
use Rattle.calls.specs.CallRuns.{verdict_in, exchange_of, calls, decoded, AsRun, CallRuns}
use Rattle.calls.proofs.HandedOn.{either, answer_records, handed_on}
use Rattle.calls.proofs.BoxSteps.{not_opened, not_answered}

-- ---- the verdict, read from the word

refused_word : (n : ℕ) → n ≢ 0 → n < 256 → verdict_in (word_of n 0) ≡ RefusedBy n
refused_word n h k = let low : (n + 256 * 0) % 256 ≡ n = omega arith in rw (low, ne_eqb n 0 h)

sent_word : (n : ℕ) → verdict_in (word_of 0 n) ≡ Sent n
sent_word n =
    let low : (0 + 256 * n) % 256 ≡ 0 = omega arith in
    let high : (0 + 256 * n) / 256 ≡ n = omega arith in
    rw (low, high)

verdict_read : (s : State) (table : List ℕ) (journal : List Record) (frame out : List ℕ)
    → let a = answer s table journal frame out in verdict_in (word_of a.number a.frames) ≡ a.verdict
unfolding answer
verdict_read s table journal frame out =
    let cs = frame_checks s (length table) (length journal) frame (length out) in
    let a = answered s.logged journal out (accepted table s (read_frame frame)) in
    by_equality (refusal cs) 0
    (λ e. rw (accepts a (refused s journal out) e) (sent_word _))
    (λ h.
    let small =
    by_content s (λ ds. numbers_below 256 ds ≡ true) (λ m. refl) (λ m. refl) (λ m. refl) (λ m. refl)
    (λ m. refl) refl (read_frame frame) in
    rw (refuses {n = refusal cs} a (refused s journal out) (omega arith))
    (refused_word (refusal cs) h (refusal_below 256 cs (omega arith) small)))

-- ---- call by call

module _ (state table journal frame out : List ℕ) (h : encodes_state state ≡ true) where
  call_is : answer_call state table journal frame out ≡ answer_left journal (ruled state table journal frame out)
  unfolding answer_call
  call_is = rw h

calls_encode : (table : List ℕ) (is : List Input) (state journal : List ℕ) → encodes_state state ≡ true
    → encodes_state (calls table state journal is).state ≡ true
unfolding calls
calls_encode table [] state journal h = h
calls_encode table (i ∷ is) state journal h =
    calls_encode table is _ _ (handed_on.answered state table journal i.frame i.out h).state.encodes

calls_rest : (table : List ℕ) (is : List Input) (state journal : List ℕ) → encodes_state state ≡ true
    → let c = calls table state journal is in c.journal ≡ with_records journal (records_in c.journal)
unfolding calls
calls_rest table [] state journal h = sym (own_records journal)
calls_rest table (i ∷ is) state journal h =
    let c = answer_call state table journal i.frame i.out in
    let a = ruled state table journal i.frame i.out in
    let new = records_in (calls table c.state c.journal is).journal in
    let left = handed_on.answered state table journal i.frame i.out h in
    let first : c.journal ≡ with_records journal a.journal =
    ap (λ (d : AnswerCall). d.journal) (call_is state table journal i.frame i.out h) in
    let size = answer_records (state_in state) table (records_in journal) i.frame i.out ∙ record_count_lem journal in
    calls_rest table is c.state c.journal left.state.encodes
    ∙ ap (λ (b : List ℕ). with_records b new) first
    ∙ with_again journal a.journal size new

-- an exchange by its parts, the last of them the records that a call added
abbrev exchange_with : Input → Verdict → List ℕ → List Record → Exchange
exchange_with i v out records = record { frame = i.frame; verdict = v; out = out; records = records }

abbrev added : List ℕ → AnswerCall → List Record
added state c = records_between (state_in state).logged (state_in c.state).logged (records_in c.journal)

-- one exchange more
abbrev more : Exchange → Ran → Ran
more e r = record { state = r.state; journal = r.journal; exchanges = e ∷ r.exchanges }

calls_run : (table : List ℕ) (is : List Input) (state journal : List ℕ) → encodes_state state ≡ true
    → decoded (calls table state journal is) ≡ run table (state_in state) (records_in journal) is
unfolding calls run
calls_run table [] state journal h = refl
calls_run table (i ∷ is) state journal h =
    let c = answer_call state table journal i.frame i.out in
    let a = ruled state table journal i.frame i.out in
    let left = handed_on.answered state table journal i.frame i.out h in
    let before = (state_in state).logged in
    let last : c.out ≡ a.out = ap (λ (d : AnswerCall). d.out) (call_is state table journal i.frame i.out h) in
    let seen : exchange_of state i c ≡ exchange (state_in state) i a =
    ap (λ (d : AnswerCall). exchange_with i (verdict_in d.answer) c.out (added state c))
    (call_is state table journal i.frame i.out h)
    ∙ ap (λ (v : Verdict). exchange_with i v c.out (added state c))
    (verdict_read (state_in state) table (records_in journal) i.frame i.out)
    ∙ ap (λ (z : List ℕ). exchange_with i a.verdict z (added state c)) last
    ∙ ap (λ (s : State). exchange_with i a.verdict a.out
    (records_between before s.logged (records_in c.journal))) left.state.is
    ∙ ap (λ (k : List Record). exchange_with i a.verdict a.out (records_between before a.state.logged k))
    left.journal in
    let rest : decoded (calls table c.state c.journal is) ≡ run table a.state a.journal is =
    calls_run table is c.state c.journal left.state.encodes
    ∙ ap (λ (s : State). run table s (records_in c.journal) is) left.state.is
    ∙ ap (λ (k : List Record). run table a.state k is) left.journal in
    ap (more (exchange_of state i c)) rest ∙ ap (λ (e : Exchange). more e (run table a.state a.journal is)) seen

-- ---- after an opening

open_number : (book state table journal : List ℕ) → length state ≡ state_length
    → (open_call book state table journal).answer
    ≡ word_of (opening_with book table (record_count (length journal))).number 0
unfolding open_call
open_number book state table journal h = rw (eq-eqb (length state) state_length h)

module _ (book state table journal : List ℕ) (e : (open_call book state table journal).answer ≡ 0) where
  sized : length state ≡ state_length
  unfolding open_call
  sized = by_cases (eqb (length state) state_length)
      (λ q. eqb-true (length state) state_length q)
      (λ q. absurd (let z = rw q at e in omega arith))

  opens : (opening book table (records_in journal)).number ≡ 0
  opens = rw (record_count_lem journal) (let z = sym (open_number book state table journal sized) ∙ e in omega arith)

  same_table : (open_call book state table journal).table ≡ (opening book table (records_in journal)).table
  unfolding open_call
  same_table = rw (eq-eqb (length state) state_length sized, record_count_lem journal)

  read : StateReadAs (open_call book state table journal).state (opening book table (records_in journal)).state
  read = rw (record_count_lem journal) (handed_on.opened book state table journal sized)

  same_run : (inputs : List Input)
      → let c = open_call book state table journal in
      let o = opening book table (records_in journal) in
      decoded (calls c.table c.state journal inputs) ≡ run o.table o.state (records_in journal) inputs
  same_run inputs =
      let c = open_call book state table journal in
      let o = opening book table (records_in journal) in
      calls_run c.table inputs c.state journal read.encodes
      ∙ ap (λ (s : State). run c.table s (records_in journal) inputs) read.is
      ∙ ap (λ (z : List ℕ). run z o.state (records_in journal) inputs) same_table

opened : (book state table journal : List ℕ) (inputs : List Input)
    → let o = open_call book state table journal in
    o.answer ≡ 0 → AsRun book table journal inputs (calls o.table o.state journal inputs)
opened book state table journal inputs e =
    let l = line_in book in
    let start = (read book state table journal e).encodes in
    let same = same_run book state table journal e inputs in
    record {
      accepted = opens book state table journal e;
      encodes = calls_encode _ inputs _ journal start;
      same = same;
      rest = calls_rest _ inputs _ journal start;
      assured = subst
          (λ (r : Ran).
          Assured l r (observe (at_opening l) r.exchanges)
          (observe_tracks l (at_opening l) (tracks_at_opening l) r.exchanges))
          (sym same)
          (whole_list book table (records_in journal) inputs (opens book state table journal e));
    }

-- ---- after a refused opening

refused_empty : (book table : List ℕ) (n : ℕ) → (opening_with book table n).number ≢ 0
    → (opening_with book table n).state ≡ empty_state
unfolding opening_with
refused_empty book table n =
    either (λ (o : Opening). o.number ≢ 0 → o.state ≡ empty_state) _ _ _ (λ h. absurd (h refl)) (λ k h. refl)

-- the empty state is not valid, so that every frame is refused by 1
empty_strange : (table : List ℕ) (journal : List Record) (frame out : List ℕ)
    → (answer empty_state table journal frame out).verdict ≡ RefusedBy strange_state
unfolding answer unless_refused refusal valid consistent well_formed
empty_strange table journal frame out = refl

other_length : (b : List ℕ) → length b ≢ state_length → encodes_state b ≡ false
unfolding encodes_state
other_length b h = rw (ne_eqb (length b) state_length h)

module _ (book state table journal frame out : List ℕ) where
  abbrev ShutBy : OpenCall → Type 0
  ShutBy o = answer_call o.state o.table journal frame out
      ≡ answer_call_of (word_of strange_state 0) o.state journal out

  shut_by_length : length state ≢ state_length → ShutBy (open_call book state table journal)
  shut_by_length h =
      subst ShutBy (not_opened book state table journal h _ refl)
      (sym (not_answered state table journal frame out (other_length state h) _ refl))

  shut_by_book : length state ≡ state_length → (open_call book state table journal).answer ≢ 0
      → ShutBy (open_call book state table journal)
  shut_by_book sized h =
      let o = open_call book state table journal in
      let n = record_count (length journal) in
      let left = handed_on.opened book state table journal sized in
      let empty : state_in o.state ≡ empty_state =
      left.is ∙ refused_empty book table n (λ z. h (open_number book state table journal sized ∙ rw z)) in
      handed_on.refused o.state o.table journal frame out left.encodes strange_state
      (ap (λ (s : State). (answer s o.table (records_in journal) frame out).verdict) empty
      ∙ empty_strange o.table (records_in journal) frame out)

  shut : (open_call book state table journal).answer ≢ 0 → ShutBy (open_call book state table journal)
  shut h = by_equality (length state) state_length (λ q. shut_by_book q h) shut_by_length

pub call_runs : CallRuns
call_runs = record { opened = opened; shut = shut }
