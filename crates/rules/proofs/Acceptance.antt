-- What the checks say of an accepted frame: it is new, or it repeats an earlier one. What a new one leaves: a
-- consistent state of the same line, with at most seven records logged and counted; and nobody who can be granted.
use mathlib.Core.Path.{◌≡◌, refl, sym, ap, subst, ◌∙◌}
use mathlib.Core.Logic.{◌≢◌, ⊎_elim}
use mathlib.Core.Bool.{Bool, true, false, not, cond, ◌&&◌, false≢true}
use mathlib.Core.Option.{Option, none, some}
use mathlib.Core.List.Memᴰ
use mathlib.Core.List.{List, [], ◌∷◌, ◌++◌, map, map-append, Memᴰ}
use Prim.Native.Nat.{ℕ, ◌+◌, ◌≤◌, ◌<◌}
use native.Mathlib.Omega.{arith}
use lib.Dec.{leb, ltb, eqb}
use lib.ListN.{length, length-append, length-set, length-map}
use borrow.Author.Tests.{ltb-true, leb-true, eqb-true, eqb-false, not-true}
use Rattle.common.specs.Check.{Check, check, refusal}
use Rattle.common.proofs.Part.{replaced_none}
use Rattle.common.proofs.Tests.{by_cases, by_equality, not_passed, and_left, and_right, and_both}
use Rattle.common.proofs.Below.{count_le, count_some}
use Rattle.common.proofs.Check.{passed_by, clear, not_given, second_part, first_part, both_pass, accepts, refuses}
use Rattle.line.specs.Refusal.{strange_state, short_store, wrong_end, unknown_train, at_its_end, wrong_post}
use Rattle.line.specs.Refusal.{no_authority, section_taken, no_local_run, twenty_given}
use Rattle.line.proofs.Travel.{next_other}
use Rattle.frame.specs.Frame.{FE, read_frame}
use Rattle.frame.specs.RoundTrip.{IsMessage}
use Rattle.journal.specs.Journal.{journal_length, record_of, without_track, Tracked}
use Rattle.journal.proofs.Records.{recorded_untracked, no_track}
use Rattle.completion.specs.Table.{table_length}
use Rattle.rules.specs.Types.{Line, Move, Message, Fa, Fe, Afe, Am, La, Le, Lb, Refused, Record, Status, Free}
use Rattle.rules.specs.Types.{Asked, Running, Train, State, RefusedBy}
use Rattle.rules.specs.State.{is_free, is_asked, is_running, is_last, at_end, next_of, train_of, line_of, possessed}
use Rattle.rules.specs.State.{holders_of}
use Rattle.rules.specs.State.{with_status, arrived_next, with_train, with_possession, one_logged}
use Rattle.rules.specs.Valid.{most_given, valid}
use Rattle.rules.specs.Granting.{grantable, Work, begun, sends, settled}
use Rattle.rules.specs.Answer.{out_length, most_logged, for_box, outer_checks, knows, move_checks, gang_byte}
use Rattle.rules.specs.Answer.{arrival_checks, asked_again, again, of_new, content_checks, frame_checks}
use Rattle.rules.specs.Answer.{taken, declined, repeated, anew, accepted, runs_granting}
use Rattle.rules.specs.Answer.{verdict_number, verdict_frames, Answer, answered, refused, answer, NumbersTold}
use Rattle.rules.specs.Repeats.{told_again}
use Rattle.rules.proofs.Trains.{free_idle, changed_line}
use Rattle.rules.proofs.Validity.{Consistent, finished_move, valid_facts, few_logged}
use Rattle.rules.proofs.Changes.{valid_logged, valid_request, valid_arrival}
use Rattle.rules.proofs.Oldest.{Nobody}
use Rattle.rules.proofs.Possessions.{valid_possession, lent_nobody}
use Rattle.rules.proofs.Grants.{asked_count, settled_end}
use Rattle.rules.proofs.Settling.{Settles, settled_settles, settled_valid}

-- ---- the checks

-- the journal has room for a frame and its answers: as it has in every valid state
abbrev pub RoomLeft : State → Type 0
RoomLeft s = s.logged + most_logged ≤ journal_length

pub room_left : (s : State) → valid s ≡ true → RoomLeft s
room_left s e = omega (arith, few_logged s e)

-- the move is the next one of a train that is short of its end
pub record NextMove (s : State) (m : Move) : Type 0 where
  pub known : m.train.0 < s.trains
  pub short : (train_of s m.train.0).at.0 ≢ (train_of s m.train.0).route.end.0
  pub from : m.from.0 ≡ (train_of s m.train.0).at.0
  pub to : m.to.0 ≡ next_of (train_of s m.train.0)

-- it names a section, by its two posts with the lower one first
pub record Section (s : State) (m : Move) : Type 0 where
  pub gang : m.train.0 ≡ gang_byte
  pub upper : m.to.0 ≡ m.from.0 + 1
  pub on : m.from.0 + 1 < s.posts

-- a message that repeats none and passes all checks of its content
pub data Taken (s : State) : Message → Type 0 where
  request : (m : Move) → NextMove s m → is_free (train_of s m.train.0).status ≡ true → Taken s (Fa m)
  arrival : (m : Move) → NextMove s m → is_running (train_of s m.train.0).status ≡ true → Taken s (Am m)
  -- 02, card 4: a section that nobody holds, and one that a gang has
  lending : (m : Move) → Section s m → holders_of s m.from.0 ≡ 0 → s.given < most_given → Taken s (La m)
  return : (m : Move) → Section s m → possessed s m.from.0 ≡ true → Taken s (Lb m)

-- a message that repeats an earlier one, and its answers
pub data Repeats (s : State) : Message → List Message → Type 0 where
  declined_before : (m : Move) → NextMove s m → is_asked (train_of s m.train.0).status ≡ true
      → Repeats s (Fa m) (Afe m ∷ [])
  granted_before : (m : Move) → NextMove s m → is_running (train_of s m.train.0).status ≡ true
      → Repeats s (Fa m) (Fe m ∷ [])
  arrived_before : (m : Move) → m.train.0 < s.trains
      → is_last (train_of s m.train.0).last m.from.0 m.to.0 ≡ true → Repeats s (Am m) []

-- what passes the checks of its content: a new message or a repeat
pub data Content (s : State) (a : Message) : Type 0 where
  new : Taken s a → Content s a
  old : (answers : List Message) → Repeats s a answers → Content s a

pub record Passed (s : State) (table : List ℕ) (journal : List Record) (frame out : List ℕ) : Type 0 where
  pub valid_state : Consistent s
  pub room : RoomLeft s
  pub long_table : table_length ≤ length table
  pub long_journal : journal_length ≤ length journal
  pub long_out : out_length ≤ length out
  pub message : Content s (read_frame frame)

module _ (s : State) where
  -- 7, 8 and 9 have passed
  next_move_lem : (m : Move) → let x = train_of s m.train.0 in
      knows s m ≡ true → not (at_end x) ≡ true → eqb m.from.0 x.at.0 && eqb m.to.0 (next_of x) ≡ true
      → NextMove s m
  next_move_lem m known onward posts = record {
    known = ltb-true _ _ known;
    short = eqb-false _ _ (not-true _ onward);
    from = eqb-true _ _ (and_left (eqb m.from.0 _) _ posts);
    to = eqb-true _ _ (and_right (eqb m.from.0 (train_of s m.train.0).at.0) _ posts);
  }

  -- the posts that 9 asks of a gang are neighbours on the line, the lower one first
  pub neighbours : (m : Move) → eqb m.to.0 (m.from.0 + 1) && ltb m.to.0 s.posts ≡ true
      → (m.to.0 ≡ m.from.0 + 1) × (m.from.0 + 1 < s.posts)
  neighbours m posts =
      let upper : m.to.0 ≡ m.from.0 + 1 = eqb-true _ _ (and_left (eqb m.to.0 _) _ posts) in
      let below : m.to.0 < s.posts = ltb-true _ _ (and_right (eqb m.to.0 (m.from.0 + 1)) _ posts) in
      (upper, rw upper at below)

  -- the same of 7 and 9 for a gang
  of_section : (m : Move) → eqb m.train.0 gang_byte ≡ true
      → eqb m.to.0 (m.from.0 + 1) && ltb m.to.0 s.posts ≡ true → Section s m
  of_section m gang posts = record {
    gang = eqb-true _ _ gang;
    upper = (neighbours m posts).0;
    on = (neighbours m posts).1;
  }

  -- the checks of an AM, by what it is answered by as a repeat
  abbrev arrival_content : Move → Option (List Message) → List Check
  arrival_content m answers =
      let x = train_of s m.train.0 in
      check unknown_train (knows s m) ∷ of_new answers (move_checks x m ++ arrival_checks x)

  -- what holds of the checks of each message for the box, an AM new or a repeat, and of no check, holds of every
  -- message's
  module _ (P : List Check → Type 0) (fa : (m : Move) → P (content_checks s (Fa m)))
      (am : (m : Move) → P (arrival_content m none)) (am_again : (m : Move) → P (arrival_content m (some [])))
      (la : (m : Move) → P (content_checks s (La m))) (lb : (m : Move) → P (content_checks s (Lb m)))
      (others : P []) where
    by_arrival : (m : Move) (last : Bool) → P (arrival_content m (cond last (some []) none))
    by_arrival m true = am_again m
    by_arrival m false = am m

    pub by_content : (a : Message) → P (content_checks s a)
    by_content (Fa m) = fa m
    by_content (Am m) = by_arrival m (is_last (train_of s m.train.0).last m.from.0 m.to.0)
    by_content (La m) = la m
    by_content (Lb m) = lb m
    by_content (Fe m) = others
    by_content (Afe m) = others
    by_content (Le m) = others
    by_content (Refused n) = others

  request_passed : (m : Move) (w : Status) → (train_of s m.train.0).status ≡ w → NextMove s m → Content s (Fa m)
  request_passed m Free free n = new (request m n (ap is_free free))
  request_passed m (Asked k) asks n = old (Afe m ∷ []) (declined_before m n (ap is_asked asks))
  request_passed m (Running k) runs n = old (Fe m ∷ []) (granted_before m n (ap is_running runs))

  arrival_passed : (m : Move) (last : Bool)
      → is_last (train_of s m.train.0).last m.from.0 m.to.0 ≡ last
      → refusal (arrival_content m (cond last (some []) none)) ≡ 0 → Content s (Am m)
  arrival_passed m true finished e =
      let passed = passed_by (arrival_content m (some [])) refl e in
      old [] (arrived_before m (ltb-true _ _ (passed unknown_train)) finished)
  arrival_passed m false other e =
      let passed = passed_by (arrival_content m none) refl e in
      new (arrival m (next_move_lem m (passed unknown_train) (passed at_its_end) (passed wrong_post))
      (passed no_authority))

  content_passed : (a : Message) → for_box a ≡ true → refusal (content_checks s a) ≡ 0 → Content s a
  content_passed (Fa m) kind e =
      let passed = passed_by (content_checks s (Fa m)) refl e in
      request_passed m _ refl (next_move_lem m (passed unknown_train) (passed at_its_end) (passed wrong_post))
  content_passed (Am m) kind e = arrival_passed m _ refl e
  content_passed (La m) kind e =
      let passed = passed_by (content_checks s (La m)) refl e in
      new
      (lending m (of_section m (passed unknown_train) (passed wrong_post))
      (eqb-true _ _ (passed section_taken)) (ltb-true _ _ (passed twenty_given)))
  content_passed (Lb m) kind e =
      let passed = passed_by (content_checks s (Lb m)) refl e in
      new (return m (of_section m (passed unknown_train) (passed wrong_post)) (passed no_local_run))
  content_passed (Fe m) kind e = absurd (false≢true kind)
  content_passed (Afe m) kind e = absurd (false≢true kind)
  content_passed (Le m) kind e = absurd (false≢true kind)
  content_passed (Refused n) kind e = absurd (false≢true kind)

module _ (s : State) (table : List ℕ) (journal : List Record) (frame out : List ℕ) where
  pub frame_passed : refusal (frame_checks s (length table) (length journal) frame (length out)) ≡ 0
      → Passed s table journal frame out
  frame_passed e =
      let outer = outer_checks s (length table) (length journal) frame (length out) in
      let parts = both_pass outer (content_checks s (read_frame frame)) refl e in
      let passed = passed_by outer refl parts.0 in
      let stores = passed short_store in
      let rest = and_right (leb table_length (length table)) _ stores in
      record {
        valid_state = valid_facts s (passed strange_state);
        room = room_left s (passed strange_state);
        long_table = leb-true _ _ (and_left (leb table_length (length table)) _ stores);
        long_journal = leb-true _ _ (and_left (leb journal_length (length journal)) _ rest);
        long_out = leb-true _ _ (and_right (leb journal_length (length journal)) _ rest);
        message = content_passed s (read_frame frame) (passed wrong_end) parts.1;
      }

-- ---- an AM without an authority

-- it names the next move of a train that is not Running
pub record Unauthorised (s : State) (a : Message) : Type 0 where
  pub move : Move
  pub message : a ≡ Am move
  pub next : NextMove s move
  pub idle : is_running (train_of s move.train.0).status ≡ false

module _ (s : State) where
  arrival_refused : (m : Move) (last : Bool) → refusal (arrival_content s m (cond last (some []) none)) ≡ no_authority
      → Unauthorised s (Am m)
  unfolding refusal
  arrival_refused m true e = absurd (not_given no_authority (arrival_content s m (some [])) (omega arith) refl e)
  arrival_refused m false e =
      let x = train_of s m.train.0 in
      let posts = eqb m.from.0 x.at.0 && eqb m.to.0 (next_of x) in
      by_cases (knows s m)
      (λ known. by_cases (not (at_end x))
      (λ onward. by_cases posts
      (λ there. by_cases (is_running x.status)
      (λ runs. absurd (let z : 0 ≡ no_authority = rw (known, onward, there, runs) at e in omega arith))
      (λ idle. record { move = m; message = refl; next = next_move_lem s m known onward there; idle = idle }))
      (λ there. absurd (let z : wrong_post ≡ no_authority = rw (known, onward, there) at e in omega arith)))
      (λ onward. absurd (let z : at_its_end ≡ no_authority = rw (known, onward) at e in omega arith)))
      (λ known. absurd (let z : unknown_train ≡ no_authority = rw known at e in omega arith))

  content_refused : (a : Message) → refusal (content_checks s a) ≡ no_authority → Unauthorised s a
  content_refused (Am m) e = arrival_refused m (is_last (train_of s m.train.0).last m.from.0 m.to.0) e
  content_refused (Fa m) e = absurd (not_given no_authority (content_checks s (Fa m)) (omega arith) refl e)
  content_refused (La m) e = absurd (not_given no_authority (content_checks s (La m)) (omega arith) refl e)
  content_refused (Lb m) e = absurd (not_given no_authority (content_checks s (Lb m)) (omega arith) refl e)
  content_refused (Fe m) e = absurd (not_given no_authority [] (omega arith) refl e)
  content_refused (Afe m) e = absurd (not_given no_authority [] (omega arith) refl e)
  content_refused (Le m) e = absurd (not_given no_authority [] (omega arith) refl e)
  content_refused (Refused n) e = absurd (not_given no_authority [] (omega arith) refl e)

-- nothing else is refused by 12
pub refused_unauthorised : (s : State) (table records : ℕ) (frame : List ℕ) (room : ℕ)
    → refusal (frame_checks s table records frame room) ≡ no_authority → Unauthorised s (read_frame frame)
refused_unauthorised s table records frame room e =
    let outer = outer_checks s table records frame room in
    let content = content_checks s (read_frame frame) in
    by_equality (refusal outer) 0
    (λ z. content_refused s (read_frame frame) (sym (second_part outer content refl z) ∙ e))
    (λ z. absurd (not_given no_authority outer (omega arith) refl (sym (first_part outer content (omega arith)) ∙ e)))

-- ---- new messages are no repeats

-- a Free train's FA is no repeat
free_new : (w : Status) (m : Move) → is_free w ≡ true → asked_again w m ≡ none
free_new Free m e = refl
free_new (Asked n) m e = absurd (false≢true e)
free_new (Running k) m e = absurd (false≢true e)

-- the last finished move led to where the train is, and its next one leads on
pub arrival_new : (s : State) → Consistent s → (m : Move) → NextMove s m → again s (Am m) ≡ none
arrival_new s d m n =
    let x = train_of s m.train.0 in
    let v = d.each m.train.0 n.known in
    rw (not_passed (is_last x.last m.from.0 m.to.0) (λ e.
    next_other _ _ _ v.inside n.short (sym n.to ∙ (finished_move x v.finished _ _ e).2)))

pub taken_new : (s : State) → Consistent s → (a : Message) → Taken s a → again s a ≡ none
taken_new s d a (request m n free) = free_new (train_of s m.train.0).status m free
taken_new s d a (arrival m n runs) = arrival_new s d m n
taken_new s d a (lending m n free few) = refl
taken_new s d a (return m n held) = refl

-- and repeats are

asked_again_lem : (w : Status) (m : Move) → is_asked w ≡ true → asked_again w m ≡ some (Afe m ∷ [])
asked_again_lem Free m e = absurd (false≢true e)
asked_again_lem (Asked n) m e = refl
asked_again_lem (Running k) m e = absurd (false≢true e)

granted_again : (w : Status) (m : Move) → is_running w ≡ true → asked_again w m ≡ some (Fe m ∷ [])
granted_again Free m e = absurd (false≢true e)
granted_again (Asked n) m e = absurd (false≢true e)
granted_again (Running k) m e = refl

pub repeats_again : {s : State} {a : Message} {answers : List Message} → Repeats s a answers
    → again s a ≡ some answers
repeats_again {s} (declined_before m n asks) = asked_again_lem (train_of s m.train.0).status m asks
repeats_again {s} (granted_before m n runs) = granted_again (train_of s m.train.0).status m runs
repeats_again (arrived_before m known finished) = rw finished

-- a message is not both
pub new_or_again : {x : Option (List Message)} {answers : List Message} → x ≡ none → x ≡ some answers → ⊥
new_or_again {x} {answers} e f = different (sym e ∙ f)
  where
    is_some : Option (List Message) → Bool
    is_some none = false
    is_some (some l) = true

    different : none ≡ some answers → ⊥
    different z = false≢true (ap is_some z)

-- ---- the answer, by cases

-- a repeat, and a new frame
pub accepted_again : (table : List ℕ) (s : State) (a : Message) {answers : List Message} → again s a ≡ some answers
    → accepted table s a ≡ repeated s answers
unfolding accepted
accepted_again table s a e = rw e

pub accepted_anew : (table : List ℕ) (s : State) (a : Message) → again s a ≡ none
    → accepted table s a ≡ anew table s a
unfolding accepted
accepted_anew table s a e = rw e

pub told_again_lem : (s : State) (journal : List Record) (out : List ℕ) (answers : List Message)
    → answered s.logged journal out (repeated s answers) ≡ told_again s journal out answers
told_again_lem s journal out answers = rw (replaced_none journal s.logged)

-- what holds of the answer to a refused frame, to a repeat and to a new frame holds of the answer
pub by_verdict : (s : State) (table : List ℕ) (journal : List Record) (frame out : List ℕ) (P : Answer → Type 0)
    → ((n : ℕ) → refusal (frame_checks s (length table) (length journal) frame (length out)) ≡ n
    → P (refused s journal out n))
    → (Passed s table journal frame out → (answers : List Message) → Repeats s (read_frame frame) answers
    → P (told_again s journal out answers))
    → (Passed s table journal frame out → Taken s (read_frame frame)
    → P (answered s.logged journal out (anew table s (read_frame frame))))
    → P (answer s table journal frame out)
unfolding answer
by_verdict s table journal frame out P declines repeats takes =
    let n = refusal (frame_checks s (length table) (length journal) frame (length out)) in
    let a = answered s.logged journal out (accepted table s (read_frame frame)) in
    by_equality n 0
    (λ e.
    let p = frame_passed s table journal frame out e in
    rw (accepts a (refused s journal out) e) (by_content_of p p.message))
    (λ h. rw (refuses {n = n} a (refused s journal out) (omega arith)) (declines n refl))
  where
    by_content_of : Passed s table journal frame out → Content s (read_frame frame)
        → P (answered s.logged journal out (accepted table s (read_frame frame)))
    by_content_of p (new t) =
        rw (accepted_anew table s (read_frame frame) (taken_new s p.valid_state (read_frame frame) t)) (takes p t)
    by_content_of p (old answers r) =
        rw (accepted_again table s (read_frame frame) (repeats_again r), told_again_lem s journal out answers)
        (repeats p answers r)

-- a number that the checks do not give is in no verdict
pub not_by : (s : State) (table : List ℕ) (journal : List Record) (frame out : List ℕ) (n : ℕ)
    → refusal (frame_checks s (length table) (length journal) frame (length out)) ≢ n
    → (answer s table journal frame out).verdict ≢ RefusedBy n
not_by s table journal frame out n h =
    by_verdict s table journal frame out (λ a. a.verdict ≢ RefusedBy n) (λ m q e. h (let z : m ≡ n = cc in q ∙ z))
    (λ p answers r e. let z : ◌≡◌ {A = ℕ} 0 1 = cc in omega arith)
    (λ p t e. let z : ◌≡◌ {A = ℕ} 0 1 = cc in omega arith)

-- in a valid state no frame is refused by 1
pub not_strange : (s : State) (table : List ℕ) (journal : List Record) (frame out : List ℕ) → valid s ≡ true
    → (answer s table journal frame out).verdict ≢ RefusedBy strange_state
not_strange s table journal frame out good =
    not_by s table journal frame out strange_state (not_given strange_state _ (omega arith)
    (and_both _ _ good
    (by_content s (λ cs. clear strange_state cs ≡ true) (λ m. refl) (λ m. refl) (λ m. refl) (λ m. refl) (λ m. refl)
    refl (read_frame frame))))

-- "A refusal returns its number and the state unchanged, and changes no buffer."
pub refusal_leaves : (s : State) (table : List ℕ) (journal : List Record) (frame out : List ℕ) (n : ℕ)
    → (answer s table journal frame out).verdict ≡ RefusedBy n
    → answer s table journal frame out
    ≡ record { state = s; verdict = RefusedBy n; number = n; frames = 0; journal = journal; out = out }
refusal_leaves s table journal frame out n =
    by_verdict s table journal frame out
    (λ a. a.verdict ≡ RefusedBy n → a ≡ refused s journal out n)
    (λ k q e. let same : k ≡ n = cc in rw same)
    (λ p answers r e. absurd (let z : ◌≡◌ {A = ℕ} 0 1 = cc in omega arith))
    (λ p t e. absurd (let z : ◌≡◌ {A = ℕ} 0 1 = cc in omega arith))

pub numbers_told : NumbersTold
numbers_told s table journal frame out =
    by_verdict s table journal frame out
    (λ a. (a.number ≡ verdict_number a.verdict) × (a.frames ≡ verdict_frames a.verdict))
    (λ n e. (refl, refl))
    (λ p answers r. (refl, refl))
    (λ p t. (refl, refl))

-- ---- what is left

pub record Accepted (s : State) (a : Message) (w : Work) : Type 0 where
  pub valid_state : Consistent w.state
  pub line : line_of w.state ≡ line_of s
  pub size : length w.state.fleet ≡ length s.fleet
  pub sections : length w.state.possessions ≡ length s.possessions
  -- the frame's record, then one for each answer; an FE's has a track
  pub written : map without_track w.logged ≡ map record_of (a ∷ w.sent)
  pub tracked : (r : Record) → Memᴰ r w.logged → Tracked (line_of s) r
  pub few : length w.logged ≤ most_logged
  pub counted : w.state.logged ≡ s.logged + length w.logged
  pub messages : (b : Message) → Memᴰ b w.sent → IsMessage b

pub paired : {s : State} {a : Message} {w : Work} → Accepted s a w → length w.logged ≡ 1 + length w.sent
paired {a = a} {w = w} k =
    sym (length-map w.logged without_track) ∙ ap length k.written
    ∙ omega (arith, length-map (a ∷ w.sent) record_of)

-- b is s with the frame's own change: of the same line, with as many trains and sections and the same count
pub record Begins (s b : State) : Type 0 where
  pub line : line_of b ≡ line_of s
  pub size : length b.fleet ≡ length s.fleet
  pub sections : length b.possessions ≡ length s.possessions
  pub count : b.logged ≡ s.logged
  pub valid_state : Consistent (one_logged b)

-- the granting after it
module _ (table : List ℕ) (s : State) (a : Message) (own : (record_of a).kind ≢ FE) (b : State) (k : Begins s b) where
  abbrev frame_logged : Work
  frame_logged = begun b (record_of a)

  few_asked : asked_count (one_logged b) ≤ 6
  few_asked =
      omega (arith, count_le b.trains (λ t. is_asked (train_of b t).status), k.valid_state.line.few_trains)

  settles : Settles frame_logged (settled table frame_logged)
  settles = settled_settles table frame_logged

  paid : length (settled table frame_logged).logged + asked_count (settled table frame_logged).state ≤ most_logged
  paid = omega (arith, settles.spent, few_asked)

  settled_accepted : Accepted s a (settled table frame_logged)
  settled_accepted = record {
    valid_state = settled_valid table frame_logged k.valid_state;
    line = settles.line ∙ k.line;
    size = settles.size ∙ k.size;
    sections = settles.sections ∙ k.sections;
    written = rw (settles.written, recorded_untracked a, settles.logs, settles.added);
    tracked = λ r h.
        ⊎_elim (λ q. subst (Tracked (line_of s)) (sym (Memᴰ.eq_of_singleton q)) (no_track (line_of s) a own))
        (λ q. subst (λ (l : Line). Tracked l r) k.line (settles.tracked r q))
        (Memᴰ.append_cases (record_of a ∷ []) (subst (Memᴰ r) settles.written h));
    few = omega (arith, paid);
    counted = omega (arith, settles.counted, settles.spent, k.count);
    messages = rw settles.added settles.messages;
  }

-- ---- the asker's AFE

declining : (m : Move) → IsMessage (Afe m)
unfolding IsMessage
declining m = tt

afe_other : (m : Move) → (record_of (Afe m)).kind ≢ FE
unfolding record_of
afe_other m e = omega (arith, e)

-- "If the asker was not granted, its AFE comes last."
declined_accepted : (s : State) (a : Message) (m : Move) (w : Work) → m.train.0 < s.trains
    → length w.logged + asked_count w.state ≤ most_logged → Accepted s a w → Accepted s a (declined m w)
declined_accepted s a m w known paid k =
    by_cases (is_asked (train_of w.state m.train.0).status) (λ e. rw e (more e)) (λ e. rw e k)
  where
    more : is_asked (train_of w.state m.train.0).status ≡ true
        → Accepted s a (sends w.state w (record_of (Afe m)) (Afe m))
    more e =
        let here : m.train.0 < w.state.trains = rw (ap (λ (l : Line). l.trains) k.line) known in
        let one = count_some w.state.trains (λ t. is_asked (train_of w.state t).status) m.train.0 here e in
        let long = length-append w.logged (record_of (Afe m) ∷ []) in
        record {
          valid_state = valid_logged w.state k.valid_state;
          line = k.line;
          size = k.size;
          sections = k.sections;
          written =
              map-append without_track w.logged (record_of (Afe m) ∷ [])
              ∙ rw (k.written, recorded_untracked (Afe m)) (sym (map-append record_of (a ∷ w.sent) (Afe m ∷ [])));
          tracked = λ r h.
              ⊎_elim (k.tracked r)
              (λ q. subst (Tracked (line_of s)) (sym (Memᴰ.eq_of_singleton q))
              (no_track (line_of s) (Afe m) (afe_other m)))
              (Memᴰ.append_cases w.logged h);
          few = omega (arith, long);
          counted = omega (arith, long, k.counted);
          messages = λ b h.
              ⊎_elim (k.messages b) (λ q. subst IsMessage (sym (Memᴰ.eq_of_singleton q)) (declining m))
              (Memᴰ.append_cases w.sent h);
        }

-- ---- a gang's LE

-- the section is lent, the LA and its LE are logged, and the LE is sent
lent_accepted : (s : State) (m : Move) (n : ℕ)
    → let w = begun s (record_of (La m)) in
    let b = with_possession w.state m.from.0 true n in
    Consistent (one_logged b) → Accepted s (La m) (sends b w (record_of (Le m)) (Le m))
unfolding record_of IsMessage
lent_accepted s m n v = record {
  valid_state = v;
  line = refl;
  size = refl;
  sections = length-set s.possessions m.from.0 true;
  written = refl;
  tracked = λ r h.
      ⊎_elim (λ q. untracked (La m) (λ e. omega (arith, e)) r q) (λ q. untracked (Le m) (λ e. omega (arith, e)) r q)
      (Memᴰ.append_cases (record_of (La m) ∷ []) h);
  few = omega arith;
  counted = omega arith;
  messages = λ c h. subst IsMessage (sym (Memᴰ.eq_of_singleton h)) tt;
}
  where
    untracked : (a : Message) → (record_of a).kind ≢ FE → (r : Record) → Memᴰ r (record_of a ∷ [])
        → Tracked (line_of s) r
    untracked a h r q = subst (Tracked (line_of s)) (sym (Memᴰ.eq_of_singleton q)) (no_track (line_of s) a h)

-- ---- every new frame that is taken

pub taken_begins : (s : State) (t : ℕ) (x : Train) → x.route ≡ (train_of s t).route
    → Consistent (one_logged (with_train s t x)) → Begins s (with_train s t x)
taken_begins s t x same v = record {
  line = changed_line s t x s.logged same;
  size = length-set s.fleet t x;
  sections = refl;
  count = refl;
  valid_state = v;
}

pub return_begins : (s : State) → Consistent s → (i : ℕ) → Begins s (with_possession s i false s.given)
return_begins s d i = record {
  line = refl;
  size = refl;
  sections = length-set s.possessions i false;
  count = refl;
  valid_state = valid_logged _
      (valid_possession s d i false s.given (λ e. absurd (false≢true e)) d.few_given);
}

pub accepted_facts : (table : List ℕ) (s : State) → Consistent s → (a : Message) → Taken s a
    → Accepted s a (anew table s a)
unfolding anew record_of
accepted_facts table s d a (request m n free) =
    let t = m.train.0 in
    let k = taken_begins s t (with_status (train_of s t) (Asked s.logged)) refl
    (valid_request s d t n.known n.short (free_idle (train_of s t).status free)) in
    let own : (record_of (Fa m)).kind ≢ FE = λ e. omega (arith, e) in
    declined_accepted s (Fa m) m _ n.known (paid table s (Fa m) own _ k) (settled_accepted table s (Fa m) own _ k)
accepted_facts table s d a (arrival m n runs) =
    let t = m.train.0 in
    settled_accepted table s (Am m) (λ e. omega (arith, e)) _
    (taken_begins s t (arrived_next s.sidings (train_of s t)) refl (valid_arrival s d t n.known n.short runs))
accepted_facts table s d a (lending m n free few) =
    lent_accepted s m (s.given + 1) (valid_logged _
    (valid_possession (one_logged s) (valid_logged s d) m.from.0 true (s.given + 1) (λ e. free) (omega arith)))
accepted_facts table s d a (return m n held) =
    settled_accepted table s (Lb m) (λ e. omega (arith, e)) _
    (return_begins s d m.from.0)

-- ---- nobody is left

-- a record logged alone changes nobody's chance
logged_grantable : (table : List ℕ) (s : State) (t : ℕ) → grantable table (one_logged s) t ≡ grantable table s t
unfolding grantable
logged_grantable table s t = refl

declined_nobody : (table : List ℕ) (m : Move) (w : Work) → Nobody table w.state w.state.trains
    → let v = declined m w in Nobody table v.state v.state.trains
declined_nobody table m w k = by_cases (is_asked (train_of w.state m.train.0).status)
    (λ e. rw e (record { barred = λ u ku. logged_grantable table w.state u ∙ k.barred u ku }))
    (λ e. rw e k)

-- every frame that is taken but an LA runs the granting
pub runs_nobody : (table : List ℕ) (s : State) (a : Message) → Taken s a → runs_granting a ≡ true
    → let w = anew table s a in Nobody table w.state w.state.trains
unfolding anew
runs_nobody table s a (request m n free) e =
    let w = taken s (Fa m) (with_status (train_of s m.train.0) (Asked s.logged)) in
    declined_nobody table m (settled table w) (settled_end table w)
runs_nobody table s a (arrival m n runs) e =
    settled_end table (taken s (Am m) (arrived_next s.sidings (train_of s m.train.0)))
runs_nobody table s a (lending m n free few) e = absurd (false≢true e)
runs_nobody table s a (return m n held) e =
    settled_end table (begun (with_possession s m.from.0 false s.given) (record_of (Lb m)))

-- and after an LA nobody is left where nobody was before
pub accepted_nobody : (table : List ℕ) (s : State) (a : Message) → Taken s a → Nobody table s s.trains
    → let w = anew table s a in Nobody table w.state w.state.trains
unfolding anew
accepted_nobody table s a (request m n free) k = runs_nobody table s (Fa m) (request m n free) refl
accepted_nobody table s a (arrival m n runs) k = runs_nobody table s (Am m) (arrival m n runs) refl
accepted_nobody table s a (lending m n free few) k =
    let b = with_possession s m.from.0 true (s.given + 1) in
    let h = lent_nobody table s m.from.0 (s.given + 1) k in
    record { barred = λ u ku. logged_grantable table (one_logged b) u ∙ logged_grantable table b u ∙ h.barred u ku }
accepted_nobody table s a (return m n held) k = runs_nobody table s (Lb m) (return m n held) refl
