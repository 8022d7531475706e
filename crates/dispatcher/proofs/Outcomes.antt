-- The step on a frame: what it leaves by value is the answer, with every journal of the length that was handed in.
use mathlib.Core.Path.{◌≡◌, refl, sym, ap, ◌∙◌}
use mathlib.Core.Bool.{true, false, false≢true, true≢false}
use mathlib.Core.Option.{none, some}
use mathlib.Core.List.{List}
use Prim.Native.Nat.{ℕ, ◌-◌, ◌≤◌}
use native.Mathlib.Omega.{arith}
use lib.ListN.{length, drop, replicate, length-replicate, length-drop}
use lib.Seq.{length-take-le}
use Rattle.common.specs.Check.{refusal}
use Rattle.common.specs.Part.{replaced}
use Rattle.common.proofs.Check.{accepts, refuses}
use Rattle.frame.specs.Frame.{read_frame}
use Rattle.journal.specs.Journal.{blank, journal_length, most_sent, batch_length, empty_batch, appended}
use Rattle.journal.proofs.Appended.{appended_none}
use Rattle.dispatcher.specs.Types.{Move, Message, Record, State, Sent, RefusedBy, Progress, Repeat, Not, Silent}
use Rattle.dispatcher.specs.Types.{Told, Outcome}
use Rattle.rules.specs.Granting.{Work}
use Rattle.rules.specs.State.{train_of}
use Rattle.rules.specs.Answer.{frame_checks, again, anew, accepted, frames_of, Answer, answer_of, answered, refused}
use Rattle.rules.specs.Answer.{answer}
use Rattle.authority.specs.Progress.{add_records, batch_of, progress_of}
use Rattle.accepting.specs.Acceptable.{OnSection, Acceptable}
use Rattle.accepting.specs.Repeating.{told_by, is_repeat, NamesTrain}
use Rattle.dispatcher.specs.Step.{frames_in, answers_in, messages_of, outcome_of, Stepped}
use Rattle.rules.proofs.Trains.{free_idle}
use Rattle.rules.proofs.Validity.{Consistent, is_consistent}
use Rattle.rules.proofs.Changes.{valid_request, valid_arrival}
use Rattle.rules.proofs.Acceptance.{RoomLeft, Section, Taken, request, arrival, lending, return, Repeats}
use Rattle.rules.proofs.Acceptance.{declined_before, granted_before, arrived_before, Content, new, old, Passed}
use Rattle.rules.proofs.Acceptance.{frame_passed, repeats_again, new_or_again, accepted_again, accepted_anew}
use Rattle.rules.proofs.Acceptance.{told_again_lem, Accepted, paired, return_begins, accepted_facts}
use Rattle.dispatcher.proofs.Batched.{Batched, batched, batched_appended, batched_frames}

-- a gang's frame names a section whose place the state has
on_section : (s : State) → Consistent s → RoomLeft s → (m : Move) → Section s m → OnSection s m
on_section s d room m n = record {
  upper = n.upper;
  place = omega (arith, n.on, d.line.few_posts);
  space = room;
}

-- a message that passes the checks can be taken
pub taken_acceptable : (s : State) → Consistent s → RoomLeft s → (a : Message) → Taken s a → Acceptable s a
taken_acceptable s d room a (request m n free) = (
  n.known,
  room,
  is_consistent _
      (valid_request s d m.train.0 n.known n.short (free_idle (train_of s m.train.0).status free)),
)
taken_acceptable s d room a (arrival m n runs) = (
  n.known,
  room,
  is_consistent _ (valid_arrival s d m.train.0 n.known n.short runs),
)
taken_acceptable s d room a (lending m n free few) = (on_section s d room m n, few)
taken_acceptable s d room a (return m n held) = (
  on_section s d room m n,
  is_consistent _ (return_begins s d m.from.0
      ).valid_state,
)

-- what passes the checks names a train that has its place
pub train_placed : (s : State) → Consistent s → (a : Message) → Content s a → NamesTrain a
train_placed s d a (new t) = of t
  where
    of : {b : Message} → Taken s b → NamesTrain b
    of (request m n free) = omega (arith, n.known, d.line.few_trains)
    of (arrival m n runs) = omega (arith, n.known, d.line.few_trains)
    of (lending m n free few) = tt
    of (return m n held) = tt
train_placed s d a (old answers r) = of r
  where
    of : {b : Message} {l : List Message} → Repeats s b l → NamesTrain b
    of (declined_before m n asks) = omega (arith, n.known, d.line.few_trains)
    of (granted_before m n runs) = omega (arith, n.known, d.line.few_trains)
    of (arrived_before m known finished) = omega (arith, known, d.line.few_trains)

-- a repeat as the code holds it
pub some_told : (r : Repeat) → is_repeat (told_by r) ≡ true → told_by r ≡ some (messages_of r)
some_told Not e = absurd (false≢true e)
some_told Silent e = refl
some_told (Told a) e = refl

none_told : (r : Repeat) → is_repeat (told_by r) ≡ false → told_by r ≡ none
none_told Not e = refl
none_told Silent e = absurd (true≢false e)
none_told (Told a) e = absurd (true≢false e)

-- a message that passes and repeats none is new
new_content : {s : State} {a : Message} → Content s a → again s a ≡ none → Taken s a
new_content (new t) z = t
new_content (old answers r) z = absurd (new_or_again z (repeats_again r))

module _ (s : State) (table : List ℕ) (count : ℕ) (frame out : List ℕ) where
  -- the checks of the frame where the journal has n records
  abbrev refused_by : ℕ → ℕ
  refused_by n = refusal (frame_checks s (length table) n frame (length out))

  abbrev refusing : ℕ → Outcome
  refusing n = outcome_of s (RefusedBy n) 0 empty_batch

  -- nothing is written
  pub step_refused : (number : ℕ) → number ≡ refused_by count → 1 ≤ number → (o : Outcome)
      → o ≡ outcome_of s (RefusedBy number) 0 empty_batch → Stepped s table count frame out o out
  unfolding answer
  step_refused number given h o e = record {
    exact = e ∙ ap refusing given ∙ sym (refuses _ refusing (omega (arith, given)));
    answers = λ journal long.
        ap (λ (p : Outcome). answer_of p.reply (appended journal p.at p.batch) out) e
        ∙ ap (λ (j : List Record). refused s j out number) (appended_none journal 0 empty_batch refl)
        ∙ sym (declined journal (ap refused_by long ∙ sym given));
  }
    where
      declined : (journal : List Record) → refused_by (length journal) ≡ number
          → answer s table journal frame out ≡ refused s journal out number
      declined journal numbered =
          refuses _ (refused s journal out) (omega (arith, numbered)) ∙ ap (refused s journal out) numbered

  module _ (zero : 0 ≡ refused_by count) where
    -- a journal of that length
    taken : (journal : List Record) → length journal ≡ count → answer s table journal frame out ≡ answered s.logged
        journal out (accepted table s (read_frame frame))
    unfolding answer
    taken journal long = accepts _ (refused s journal out) (ap refused_by long ∙ sym zero)

    pub step_passed : Passed s table (replicate count blank) frame out
    step_passed = frame_passed s table (replicate count blank) frame out
        (ap refused_by (length-replicate count blank) ∙ sym zero)

    -- a repeat: its answers are written, and nothing else
    pub step_again : (answers : List Message) → again s (read_frame frame) ≡ some answers
        → (o : Outcome) → o ≡ outcome_of s (Sent (length answers)) s.logged empty_batch
        → (after : List ℕ) → after ≡ replaced out 0 (frames_of answers) → Stepped s table count frame out o after
    unfolding add_records
    step_again answers e o eo after ea =
        let told = accepted_again table s (read_frame frame) e in
        record {
          exact = eo ∙ sym (accepts _ refusing (sym zero) ∙ rw told);
          answers = λ journal long.
              ap (λ (p : Outcome). answer_of p.reply (appended journal p.at p.batch) after) eo
              ∙ ap (λ (j : List Record). answer_of (outcome_of s (Sent (length answers)) 0 empty_batch).reply j after)
              (appended_none journal s.logged empty_batch refl)
              ∙ rw (ea) (sym (taken journal long ∙ rw told (told_again_lem s journal out answers)));
        }

    -- a frame that the code finds to repeat none, by the message that it read
    module _ (a : Message) (read : a ≡ read_frame frame)
        (r : Repeat) (found : told_by r ≡ again s a) (new : is_repeat (told_by r) ≡ false) where
      fresh : again s (read_frame frame) ≡ none
      fresh = sym (found ∙ ap (again s) read) ∙ none_told r new

      abbrev work : Work
      work = anew table s (read_frame frame)

      pub step_taken : Taken s (read_frame frame)
      step_taken = new_content step_passed.message fresh

      left : Accepted s (read_frame frame) work
      left = accepted_facts table s step_passed.valid_state (read_frame frame) step_taken

      -- the batch has the frame's record and those of its answers
      kept : Batched (batch_of work.logged) work.logged
      kept = batched work.logged left.few

      module _ (p : Progress) (is : p ≡ progress_of (anew table s a)) where
        held : p ≡ progress_of work
        held = is ∙ ap (λ (m : Message). progress_of (anew table s m)) read

        size : p.batch.n ≡ length work.logged
        size = ap (λ (q : Progress). q.batch.n) held ∙ kept.count

        pub step_some : 1 ≤ p.batch.n
        step_some = omega (arith, size, paired left)

        step_few : p.batch.n ≤ batch_length
        step_few = omega (arith, size, left.few)

        seven : length p.batch.items ≡ batch_length
        seven = ap (λ (q : Progress). length q.batch.items) held ∙ kept.seven

        pub step_within : p.batch.n ≤ length p.batch.items
        step_within = omega (arith, seven, step_few)

        step_count : length (answers_in p.batch.items p.batch.n) ≡ p.batch.n - 1
        step_count = length-take-le (p.batch.n - 1) (drop 1 p.batch.items)
            (omega (arith, seven, step_few, length-drop 1 p.batch.items))

        pub step_sent : length (answers_in p.batch.items p.batch.n) ≤ most_sent
        step_sent = omega (arith, step_few, step_count)

        frames : frames_in (answers_in p.batch.items p.batch.n) ≡ frames_of work.sent
        frames =
            ap (λ (q : Progress). frames_in (answers_in q.batch.items q.batch.n)) held
            ∙ batched_frames (batch_of work.logged) work.logged kept (read_frame frame) work.sent
            left.written left.messages

        written : (journal : List Record) → length journal ≡ count
            → replaced journal s.logged work.logged ≡ appended journal s.logged p.batch
        written journal long =
            let space = step_passed.room in
            let enough : journal_length ≤ count = rw length-replicate at step_passed.long_journal in
            sym (batched_appended (batch_of work.logged) work.logged kept journal s.logged
            (omega (arith, left.few)) (omega (arith, left.few)))
            ∙ ap (λ (q : Progress). appended journal s.logged q.batch) (sym held)

        pub step_accepted : (k : ℕ) → k ≡ length (answers_in p.batch.items p.batch.n) → (after : List ℕ)
            → after ≡ replaced out 0 (frames_in (answers_in p.batch.items p.batch.n))
            → Stepped s table count frame out (outcome_of p.state (Sent k) s.logged p.batch) after
        step_accepted k ek after ea =
            let state : work.state ≡ p.state = ap (λ (q : Progress). q.state) (sym held) in
            let verdict : length work.sent ≡ k =
            omega (arith, ek, size, step_count, paired left) in
            let bytes : replaced out 0 (frames_of work.sent) ≡ after = ap (replaced out 0) (sym frames) ∙ sym ea in
            let batch : batch_of work.logged ≡ p.batch = ap (λ (q : Progress). q.batch) (sym held) in
            record {
              exact = sym (
                  accepts _ refusing (sym zero)
                  ∙ rw (accepted_anew table s (read_frame frame) fresh) refl
                  ∙ ap (λ (t : State). outcome_of t (Sent (length work.sent)) s.logged (batch_of work.logged))
                  state
                  ∙ ap (λ (n : ℕ). outcome_of p.state (Sent n) s.logged (batch_of work.logged)) verdict
                  ∙ ap (outcome_of p.state (Sent k) s.logged) batch);
              answers = λ journal long. sym (
                  taken journal long
                  ∙ ap (answered s.logged journal out) (accepted_anew table s (read_frame frame) fresh)
                  ∙ ap (λ (t : State). made t (length work.sent)
                  (replaced journal s.logged work.logged)
                  (replaced out 0 (frames_of work.sent))) state
                  ∙ ap (λ (n : ℕ). made p.state n (replaced journal s.logged work.logged)
                  (replaced out 0 (frames_of work.sent))) verdict
                  ∙ ap (λ (j : List Record). made p.state k j (replaced out 0 (frames_of work.sent)))
                  (written journal long)
                  ∙ ap (λ (b : List ℕ). made p.state k (appended journal s.logged p.batch) b) bytes);
            }
          where
            made : State → ℕ → List Record → List ℕ → Answer
            made t n j b = record { state = t; verdict = Sent n; number = 0; frames = n; journal = j; out = b }
