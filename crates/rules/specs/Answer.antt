-- The answer to a frame: the checks in order, what an accepted frame does, and what is left in state, journal and out
-- buffer.
use Rattle.std.specs.Prelude.{◌≡◌, Bool, true, false, not, cond, ◌&&◌, List, [], ◌∷◌, ◌++◌, ℕ, ◌+◌, ◌*◌, leb, ltb, eqb}
use Rattle.std.specs.Prelude.{length}
use Rattle.std.proofs.Math.Option.{Option, none, some}
use Rattle.common.specs.Check.{Check, check, refusal, unless_refused}
use Rattle.common.specs.Part.{replaced}
use Rattle.line.specs.Refusal.{strange_state, short_store, wrong_end, unknown_train, at_its_end, wrong_post}
use Rattle.line.specs.Refusal.{no_authority, section_taken, no_local_run, twenty_given}
use Rattle.frame.specs.Frame.{frame_length, move_in, read_checks, read_frame, bytes_of}
use Rattle.journal.specs.Journal.{journal_length, most_sent, batch_length, record_of}
use Rattle.completion.specs.Table.{table_length}
use Rattle.rules.specs.Types.{Move, Message, Fa, Fe, Afe, Am, La, Le, Lb, Refused, Record, Status, Free, Asked}
use Rattle.rules.specs.Types.{Running, Last, Train, State, Verdict, Sent, RefusedBy, Reply}
use Rattle.rules.specs.State.{is_asked, is_running, is_last, at_end, next_of, train_of, possessed, section_free}
use Rattle.rules.specs.State.{with_status, arrived_next, with_train, with_possession}
use Rattle.rules.specs.Valid.{most_given, valid}
use Rattle.rules.specs.Granting.{Work, begun, sends, settled}

-- "At most 6 frames go out, 42 bytes"
abbrev pub out_length : ℕ
out_length = most_sent * frame_length

-- a frame and at most six answers are logged
abbrev pub most_logged : ℕ
most_logged = batch_length

-- the dispatcher's messages; FE and AFE are 6, and 02, card 4: "LE at the dispatcher is 6."
abbrev pub for_box : Message → Bool
for_box (Fa m) = true
for_box (Fe m) = false
for_box (Afe m) = false
for_box (Am m) = true
for_box (La m) = true
for_box (Le m) = false
for_box (Lb m) = true
for_box (Refused n) = false

-- "1, 2, 3, 4, 5, 6": before what the frame says is looked into. Of the table, the journal and the out buffer only the
-- sizes are looked at.
abbrev pub outer_checks : State → ℕ → ℕ → List ℕ → ℕ → List Check
outer_checks s table records frame room =
    check strange_state (valid s)
    ∷ check short_store (leb table_length table && (leb journal_length records && leb out_length room))
    ∷ read_checks frame
    ++ (check wrong_end (for_box (read_frame frame)) ∷ [])

-- 7: "train not below T"
abbrev pub knows : State → Move → Bool
knows s m = ltb m.train.0 s.trains

-- "8 (at its end), 9" of a train
abbrev pub move_checks : Train → Move → List Check
move_checks x m =
    check at_its_end (not (at_end x))
    ∷ check wrong_post (eqb m.from.0 x.at.0 && eqb m.to.0 (next_of x))
    ∷ []

-- "then .. 12 for AM"
abbrev pub arrival_checks : Train → List Check
arrival_checks x = check no_authority (is_running x.status) ∷ []

-- 02, card 4: LA and LB "have train byte 255 and name the two neighbouring posts, lower first": "a train byte not 255
-- is 7 and posts not so named are 9"
abbrev pub gang_byte : ℕ
gang_byte = 255

abbrev pub section_checks : State → Move → List Check
section_checks s m =
    check unknown_train (eqb m.train.0 gang_byte)
    ∷ check wrong_post (eqb m.to.0 (m.from.0 + 1) && ltb m.to.0 s.posts)
    ∷ []

-- "then for LA 24, section taken, and 26, twenty already given"
abbrev pub lending_checks : State → Move → List Check
lending_checks s m =
    check section_taken (section_free s m.from.0)
    ∷ check twenty_given (ltb s.given most_given)
    ∷ []

-- "for LB 25, no local run there"
abbrev pub return_checks : State → Move → List Check
return_checks s m = check no_local_run (possessed s m.from.0) ∷ []

-- ---- repeats: 02, card 6

-- "At the dispatcher a repeated FA gets its AFE or FE again": that of a train which has asked, and of one which has its
-- authority
abbrev pub asked_again : Status → Move → Option (List Message)
asked_again Free m = none
asked_again (Asked n) m = some (Afe m ∷ [])
asked_again (Running k) m = some (Fe m ∷ [])

-- "an AM naming the train's last finished move is taken with no output"
abbrev pub arrived_again : Last → Move → Option (List Message)
arrived_again x m = cond (is_last x m.from.0 m.to.0) (some []) none

-- what a message that repeats an earlier one is answered by; none where it repeats none
abbrev pub again : State → Message → Option (List Message)
again s (Fa m) = asked_again (train_of s m.train.0).status m
again s (Am m) = arrived_again (train_of s m.train.0).last m
again s (La m) = none
again s (Lb m) = none
again s (Fe m) = none
again s (Afe m) = none
again s (Le m) = none
again s (Refused n) = none

-- the checks that only a new message must meet
abbrev pub of_new : Option (List Message) → List Check → List Check
of_new none checks = checks
of_new (some answers) checks = []

-- of what the message says; any other message was refused by 6 or by its reading. An FA that passes is new or a repeat.
-- An AM is known for a repeat before 8: "The test for a finished move comes before 8."
abbrev pub content_checks : State → Message → List Check
content_checks s (Fa m) = check unknown_train (knows s m) ∷ move_checks (train_of s m.train.0) m
content_checks s (Am m) =
    let x = train_of s m.train.0 in
    check unknown_train (knows s m) ∷ of_new (again s (Am m)) (move_checks x m ++ arrival_checks x)
content_checks s (La m) = section_checks s m ++ lending_checks s m
content_checks s (Lb m) = section_checks s m ++ return_checks s m
content_checks s (Fe m) = []
content_checks s (Afe m) = []
content_checks s (Le m) = []
content_checks s (Refused n) = []

-- "Checks in order: 1, 2, 3, 4, 5, 6, 7, 8 (at its end), 9, then .. 12 for AM, then 13."; for LA and LB as card 4 says,
-- and an AM that is a repeat ends them as card 6 says. Card 7 removes 13.
abbrev pub frame_checks : State → ℕ → ℕ → List ℕ → ℕ → List Check
frame_checks s table records frame room =
    outer_checks s table records frame room ++ content_checks s (read_frame frame)

-- ---- an accepted frame

-- the frame is logged, and x is its train's record
abbrev pub taken : State → Message → Train → Work
taken s a x = begun (with_train s (move_in a).train.0 x) (record_of a)

-- "If the asker was not granted, its AFE comes last."
abbrev pub declined : Move → Work → Work
declined m w =
    cond (is_asked (train_of w.state m.train.0).status) (sends w.state w (record_of (Afe m)) (Afe m)) w

-- 02, card 6: "neither is logged or changes the state": these answers are sent, and nothing else is done
abbrev pub repeated : State → List Message → Work
repeated s answers = record { state = s; logged = []; sent = answers }

abbrev pub untouched : State → Work
untouched s = repeated s []

-- what a message does that repeats none
unfoldable pub anew : List ℕ → State → Message → Work
-- "FA: the train becomes Asked. Then the oldest Asked train .. that can be granted"
anew table s (Fa m) =
    let asked = with_status (train_of s m.train.0) (Asked s.logged) in
    declined m (settled table (taken s (Fa m) asked))
-- "AM: the train becomes Free at the post it ran to. Then the same granting."
anew table s (Am m) = settled table (taken s (Am m) (arrived_next s.sidings (train_of s m.train.0)))
-- 02, card 4: "LA is answered by LE", and a gang is a holder "from its LE written". Nobody can be granted then who
-- could not be before.
anew table s (La m) =
    let w = begun s (record_of (La m)) in
    sends (with_possession w.state m.from.0 true (s.given + 1)) w (record_of (Le m)) (Le m)
-- "LB frees it and starts the same granting as AM."
anew table s (Lb m) = settled table (begun (with_possession s m.from.0 false s.given) (record_of (Lb m)))
anew table s (Fe m) = untouched s
anew table s (Afe m) = untouched s
anew table s (Le m) = untouched s
anew table s (Refused n) = untouched s

-- a repeat is answered again, and nobody is granted after it
abbrev pub unless_again : Option (List Message) → State → Work → Work
unless_again none s w = w
unless_again (some answers) s w = repeated s answers

unfoldable pub accepted : List ℕ → State → Message → Work
accepted table s a = unless_again (again s a) s (anew table s a)

-- whether a message that repeats none runs the granting
abbrev pub runs_granting : Message → Bool
runs_granting (Fa m) = true
runs_granting (Am m) = true
runs_granting (Lb m) = true
runs_granting (La m) = false
runs_granting (Fe m) = false
runs_granting (Afe m) = false
runs_granting (Le m) = false
runs_granting (Refused n) = false

-- ---- the answer

-- the frames of some messages, one after the other
unfoldable pub frames_of : List Message → List ℕ
frames_of [] = []
frames_of (a ∷ l) = bytes_of a ++ frames_of l

-- "Where an answer is an enum, a definition gives this paper's number and values for each of the enum's cases. The
-- promises use that definition." Of a verdict: the number of the refusal, 0 where there is none, and how many frames
-- were written.
abbrev pub verdict_number : Verdict → ℕ
verdict_number (RefusedBy n) = n
verdict_number (Sent n) = 0

abbrev pub verdict_frames : Verdict → ℕ
verdict_frames (RefusedBy n) = 0
verdict_frames (Sent n) = n

pub record Answer : Type 0 where
  pub state : State
  pub verdict : Verdict
  pub number : ℕ
  pub frames : ℕ
  pub journal : List Record
  pub out : List ℕ

-- what the code hands back, with the journal and the out buffer afterwards
abbrev pub answer_of : Reply → List Record → List ℕ → Answer
answer_of r journal out = record {
  state = r.state;
  verdict = r.verdict;
  number = verdict_number r.verdict;
  frames = verdict_frames r.verdict;
  journal = journal;
  out = out;
}

-- the records from the count on, and the frames at the buffer's beginning; all else is untouched
abbrev pub answered : ℕ → List Record → List ℕ → Work → Answer
answered count journal out w = record {
  state = w.state;
  verdict = Sent (length w.sent);
  number = 0;
  frames = length w.sent;
  journal = replaced journal count w.logged;
  out = replaced out 0 (frames_of w.sent);
}

-- "A refusal returns its number and the state unchanged, and changes no buffer."
abbrev pub refused : State → List Record → List ℕ → ℕ → Answer
refused s journal out n = record {
  state = s;
  verdict = RefusedBy n;
  number = n;
  frames = 0;
  journal = journal;
  out = out;
}

unfoldable pub answer : State → List ℕ → List Record → List ℕ → List ℕ → Answer
answer s table journal frame out =
    unless_refused (refusal (frame_checks s (length table) (length journal) frame (length out)))
    (answered s.logged journal out (accepted table s (read_frame frame)))
    (refused s journal out)

-- the claim on a verdict's numbers: what an answer says is the number and the frames of its verdict
abbrev pub NumbersTold : Type 0
NumbersTold = (s : State) (table : List ℕ) (journal : List Record) (frame out : List ℕ)
    → let a = answer s table journal frame out in
    (a.number ≡ verdict_number a.verdict) × (a.frames ≡ verdict_frames a.verdict)
