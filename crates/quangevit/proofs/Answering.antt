-- How `quangevit_answer` comes out, by what `step` hands back.
use mathlib.Core.Path.{◌≡◌, sym, ap, ◌∙◌}
use mathlib.Core.Bool.{true}
use mathlib.Core.List.{List}
use Prim.Native.Nat.{ℕ}
use lib.ListN.{length}
use Rattle.journal.specs.Journal.{appended}
use Rattle.rules.specs.State.{line_of}
use Rattle.rules.specs.Answer.{verdict_number, verdict_frames, Answer}
use Rattle.rules.proofs.Acceptance.{refusal_leaves}
use Rattle.dispatcher.specs.declared.stepping.Outcome.{Outcome}
use Rattle.dispatcher.specs.Step.{Stepped}
use Rattle.encoding.specs.StateBytes.{state_bytes, encodes_state, state_in}
use Rattle.encoding.specs.JournalBytes.{record_count, records_in, with_records}
use Rattle.encoding.proofs.Journals.{record_count_lem}
use Rattle.calls.specs.Types.{State, Verdict, RefusedBy}
use Rattle.calls.specs.Word.{word_of}
use Rattle.calls.specs.BoxCalls.{answer_call_of, answer_left, answer_call}
use Rattle.calls.specs.HandedOn.{ruled}
use Rattle.calls.proofs.HandedOn.{answer_line, handed_on}

-- the word of a verdict
abbrev pub verdict_word : Verdict → ℕ
verdict_word v = word_of (verdict_number v) (verdict_frames v)

module _ (state table journal frame out : List ℕ) where
  pub answered : encodes_state state ≡ true → (s : State) → s ≡ state_in state
      → (o : Outcome) (sent : List ℕ) → Stepped s table (record_count (length journal)) frame out o sent
      → (log : List ℕ) → log ≡ with_records journal (appended (records_in journal) o.at o.batch)
      → (after : List ℕ) → after ≡ state_bytes o.reply.state → (w : ℕ) → w ≡ verdict_word o.reply.verdict
      → answer_call_of w after log sent ≡ answer_call state table journal frame out
  unfolding answer_call
  answered h s e o sent p log q after r w t =
      let same = rw e at (p.answers (records_in journal) (record_count_lem journal)) in
      rw (t, r, q, h) (ap (answer_left journal) same)

  -- the line is that of the state before, so that its bytes are there
  pub same_line : (s : State) → s ≡ state_in state
      → (o : Outcome) (sent : List ℕ) → Stepped s table (record_count (length journal)) frame out o sent
      → line_of (state_in state) ≡ line_of o.reply.state
  same_line s e o sent p =
      let same = rw e at (p.answers (records_in journal) (record_count_lem journal)) in
      sym (ap (λ (a : Answer). line_of a.state) same
      ∙ answer_line (state_in state) table (records_in journal) frame out)

  -- a refusal leaves all as it was, so that nothing is written
  pub answer_refused : encodes_state state ≡ true → (s : State) → s ≡ state_in state
      → (o : Outcome) (sent : List ℕ) → Stepped s table (record_count (length journal)) frame out o sent
      → (n : ℕ) → o.reply.verdict ≡ RefusedBy n → (w : ℕ) → w ≡ word_of n 0
      → answer_call_of w state journal sent ≡ answer_call state table journal frame out
  answer_refused h s e o sent p n v w q =
      let same = rw e at (p.answers (records_in journal) (record_count_lem journal)) in
      let is : (ruled state table journal frame out).verdict ≡ RefusedBy n =
      sym (ap (λ (a : Answer). a.verdict) same) ∙ v in
      let quiet : sent ≡ out =
      ap (λ (a : Answer). a.out) (same ∙ refusal_leaves (state_in state) table (records_in journal) frame out n is) in
      rw (q, quiet) (sym (handed_on.refused state table journal frame out h n is))
