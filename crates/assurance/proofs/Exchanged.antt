-- One frame: the answers are read back from the out buffer, and the answer to any frame, accepted or refused, keeps the
-- invariant.
use mathlib.Core.Path.{◌≡◌, refl, sym, ap, subst, ◌∙◌}
use mathlib.Core.Bool.{true}
use mathlib.Core.List.Memᴰ
use mathlib.Core.List.{List, [], ◌∷◌, ◌++◌, map, append_assoc, Memᴰ}
use Prim.Native.Nat.{ℕ, zero, suc, ◌+◌, ◌≤◌}
use native.Mathlib.Omega.{arith}
use lib.ListN.{length, take, drop}
use lib.Seq.{take_at, drop_at}
use Rattle.common.specs.Part.{replaced}
use Rattle.common.proofs.Part.{replaced_before}
use Rattle.common.proofs.Tests.{by_equality}
use Rattle.common.proofs.Update.{update_own, update_other}
use Rattle.frame.specs.Frame.{move_of, read_frame, bytes_of}
use Rattle.frame.specs.RoundTrip.{IsMessage}
use Rattle.frame.proofs.RoundTrip.{round_trip}
use Rattle.journal.specs.Journal.{blank}
use Rattle.rules.specs.State.{is_asked, is_running, train_of, line_of, next_move}
use Rattle.rules.specs.Valid.{valid}
use Rattle.rules.specs.Answer.{anew, frames_of, Answer, answered, refused, answer}
use Rattle.rules.specs.Repeats.{told_again}
use Rattle.rules.proofs.Validity.{is_valid}
use Rattle.rules.proofs.Oldest.{Nobody}
use Rattle.rules.proofs.Frames.{bytes_length}
use Rattle.rules.proofs.Acceptance.{NextMove, Taken, Repeats, declined_before, granted_before, arrived_before}
use Rattle.rules.proofs.Acceptance.{Passed, by_verdict, accepted_facts, accepted_nobody}
use Rattle.assurance.specs.Types.{Move, Message, Fa, Fe, Record, State}
use Rattle.assurance.specs.Observer.{Claim, Observer, note_frame, note_answer, note_answers}
use Rattle.assurance.specs.Observer.{first_frames, read_frames, answers_of, note_by}
use Rattle.assurance.specs.WholeList.{Requested}
use Rattle.assurance.proofs.Invariant.{asked_claim, running_claim, Invariant}
use Rattle.assurance.proofs.Logging.{Later, later_same}
use Rattle.assurance.proofs.Steps.{finished_unauthorised}
use Rattle.assurance.proofs.Records.{records_in, lent_in, few_records, accepted_bounded}
use Rattle.assurance.proofs.Accept.{accepted_worked}

-- ---- frames read back

-- the frames of some messages are cut where they end, as bytes
cut_back : (l : List Message) (rest : List ℕ) → first_frames (length l) (frames_of l ++ rest) ≡ map bytes_of l
unfolding first_frames frames_of
cut_back [] rest = refl
cut_back (a ∷ l) rest =
    let bytes = append_assoc (bytes_of a) (frames_of l) rest in
    let first : take 7 (frames_of (a ∷ l) ++ rest) ≡ bytes_of a =
    ap (take 7) bytes ∙ take_at (bytes_of a) (frames_of l ++ rest) 7 (bytes_length a) in
    let others : drop 7 (frames_of (a ∷ l) ++ rest) ≡ frames_of l ++ rest =
    ap (drop 7) bytes ∙ drop_at (bytes_of a) (frames_of l ++ rest) 7 (bytes_length a) in
    ap (λ (b : List ℕ). b ∷ first_frames (length l) (drop 7 (frames_of (a ∷ l) ++ rest))) first
    ∙ ap (λ (z : List ℕ). bytes_of a ∷ first_frames (length l) z) others
    ∙ ap (λ (z : List (List ℕ)). bytes_of a ∷ z) (cut_back l rest)

pub frames_back : (l : List Message) (out : List ℕ)
    → first_frames (length l) (replaced out 0 (frames_of l)) ≡ map bytes_of l
unfolding replaced
frames_back l out = cut_back l (drop (0 + length (frames_of l)) out)

-- and they read as the messages
read_back : (l : List Message) → ((a : Message) → Memᴰ a l → IsMessage a) → map read_frame (map bytes_of l) ≡ l
read_back [] h = refl
read_back (a ∷ l) h =
    ap (λ (b : Message). b ∷ map read_frame (map bytes_of l)) (round_trip.back a (h a (Memᴰ.head refl)))
    ∙ ap (λ (z : List Message). a ∷ z) (read_back l (λ b q. h b (Memᴰ.tail q)))

-- the answers are read from those frames
pub frames_read : (n : ℕ) (out : List ℕ) → read_frames n out ≡ map read_frame (first_frames n out)
unfolding read_frames first_frames
frames_read zero out = refl
frames_read (suc n) out = ap (λ (l : List Message). read_frame (take 7 out) ∷ l) (frames_read n (drop 7 out))

pub answers_back : (l : List Message) (out : List ℕ) → ((a : Message) → Memᴰ a l → IsMessage a)
    → read_frames (length l) (replaced out 0 (frames_of l)) ≡ l
answers_back l out h =
    frames_read (length l) (replaced out 0 (frames_of l)) ∙ (ap (map read_frame) (frames_back l out) ∙ read_back l h)

-- what a repeat is answered by are messages
pub again_messages : {s : State} {a : Message} {answers : List Message} → Repeats s a answers
    → (b : Message) → Memᴰ b answers → IsMessage b
unfolding IsMessage
again_messages (declined_before m n asks) b h = rw (Memᴰ.eq_of_singleton h) tt
again_messages (granted_before m n runs) b h = rw (Memᴰ.eq_of_singleton h) tt
again_messages (arrived_before m known finished) b h = absurd (Memᴰ.not-nil h)

-- ---- one frame

-- the invariant between frames: nobody can be granted, and the count is at most what the trains can have taken
pub record Settled (table : List ℕ) (s : State) (j : List Record) (o : Observer) : Type 0 where
  pub kept : Invariant table s j o
  pub nobody : Nobody table s s.trains
  pub bounded : s.logged + lent_in s ≤ records_in s

-- so that the state is valid, its count included
pub valid_settled : {table : List ℕ} {s : State} {j : List Record} {o : Observer} → Settled table s j o
    → valid s ≡ true
valid_settled {s = s} k =
    is_valid s k.kept.valid_state (omega (arith, k.bounded, few_records s k.kept.valid_state))

-- what the answer to a frame leaves
pub record Exchanged (table : List ℕ) (s : State) (j : List Record) (o : Observer) (frame : List ℕ) (a : Answer)
    : Type 0 where
  pub after : Settled table a.state a.journal (note_by o frame a.verdict a.out)
  pub line : line_of a.state ≡ line_of s
  pub requested : (m : Move) → Memᴰ (Fe m) (answers_of a.verdict a.out)
      → Requested a.state.logged a.journal m
  pub later : Later s.logged j a.state.logged a.journal

module _ (table : List ℕ) (s : State) (j : List Record) (o : Observer) (k : Settled table s j o)
    (frame out : List ℕ) where
  refused_kept : (n : ℕ) → Exchanged table s j o frame (refused s j out n)
  refused_kept n = record {
    after = k;
    line = refl;
    requested = λ m h. absurd (Memᴰ.not-nil h);
    later = later_same s.logged j;
  }

  -- ---- a repeat: what the observer tells of each train is what it told

  -- a repeated FA of a train that has asked, and of one that has its authority: the train is asked, and the FE gives
  -- the authority back
  asked_again_lem : (m : Move) → NextMove s m → is_asked (train_of s m.train.0).status ≡ true
      → (u : ℕ) → (note_frame o (Fa m)).train u ≡ o.train u
  asked_again_lem m n asks u = by_equality u m.train.0
      (λ e. rw (e, update_own o.train m.train.0 _, (k.kept.each m.train.0 n.known).seen)
      (ap (λ (c : Claim). record { post = (train_of s m.train.0).at.0; claim = c })
      (sym (asked_claim (train_of s m.train.0).status _ _ asks))))
      (λ e. update_other o.train m.train.0 _ u e)

  granted_again : (m : Move) → NextMove s m → is_running (train_of s m.train.0).status ≡ true
      → (u : ℕ) → (note_answer (note_frame o (Fa m)) (Fe m)).train u ≡ o.train u
  granted_again m n runs u = by_equality u m.train.0
      (λ e.
      rw (
        e,
        update_own (note_frame o (Fa m)).train m.train.0 _,
        update_own o.train m.train.0 _,
        (k.kept.each m.train.0 n.known).seen,
        n.from,
        n.to,
      )
      (ap (λ (c : Claim). record { post = (train_of s m.train.0).at.0; claim = c })
      (sym (running_claim (train_of s m.train.0).status _ _ runs))))
      (λ e. update_other (note_frame o (Fa m)).train m.train.0 _ u e
      ∙ update_other o.train m.train.0 _ u e)

  pub told_same : (a : Message) (answers : List Message) → Repeats s a answers
      → (u : ℕ) → (note_answers (note_frame o a) answers).train u ≡ o.train u
  unfolding note_answers
  told_same a answers (declined_before m n asks) u = asked_again_lem m n asks u
  told_same a answers (granted_before m n runs) u = granted_again m n runs u
  told_same a answers (arrived_before m known finished) u =
      rw (finished_unauthorised table s j o k.kept m known finished)

  pub gangs_same : (a : Message) (answers : List Message) → Repeats s a answers
      → (i : ℕ) → (note_answers (note_frame o a) answers).gangs i ≡ o.gangs i
  unfolding note_answers
  gangs_same a answers (declined_before m n asks) i = refl
  gangs_same a answers (granted_before m n runs) i = refl
  gangs_same a answers (arrived_before m known finished) i =
      rw (finished_unauthorised table s j o k.kept m known finished)

  -- another observer that tells the same
  still_settled : (o' : Observer) → ((u : ℕ) → o'.train u ≡ o.train u) → ((i : ℕ) → o'.gangs i ≡ o.gangs i)
      → Settled table s j o'
  still_settled o' trains gangs = record {
    kept = record {
      valid_state = k.kept.valid_state;
      right = k.kept.right;
      room = k.kept.room;
      each = λ u l.
          let v = k.kept.each u l in record {
            seen = trains u ∙ v.seen;
            request = v.request;
            authorities = v.authorities;
            granted = v.granted;
          };
      gangs = λ i. gangs i ∙ k.kept.gangs i;
      seven = k.kept.seven;
      completable = k.kept.completable;
    };
    nobody = k.nobody;
    bounded = k.bounded;
  }

  -- the FE of a Running train has its request
  again_requested : (a : Message) (answers : List Message) → Repeats s a answers → (m : Move) → Memᴰ (Fe m) answers
      → Requested s.logged j m
  again_requested a answers (declined_before m n asks) q h =
      absurd (let z = Memᴰ.eq_of_singleton h in let y : ◌≡◌ {A = ℕ} 0 1 = cc in omega arith)
  again_requested a answers (granted_before m n runs) q h =
      let same : q ≡ m = let z = Memᴰ.eq_of_singleton h in cc in
      let own : m ≡ next_move s m.train.0 = ap (λ (p : ℕ). move_of m.train.0 p m.to.0) n.from
      ∙ ap (λ (p : ℕ). move_of m.train.0 (train_of s m.train.0).at.0 p) n.to in
      subst (Requested s.logged j) (sym (same ∙ own)) ((k.kept.each m.train.0 n.known).granted runs)
  again_requested a answers (arrived_before m known finished) q h = absurd (Memᴰ.not-nil h)

  again_kept : Passed s table j frame out → (answers : List Message) → Repeats s (read_frame frame) answers
      → Exchanged table s j o frame (told_again s j out answers)
  again_kept p answers r =
      let back : read_frames (length answers) (replaced out 0 (frames_of answers)) ≡ answers =
      answers_back answers out (again_messages r) in
      record {
        after = rw back
            (still_settled _ (told_same (read_frame frame) answers r) (gangs_same (read_frame frame) answers r));
        line = refl;
        requested = rw back (again_requested (read_frame frame) answers r);
        later = later_same s.logged j;
      }

  accepted_kept : Passed s table j frame out → Taken s (read_frame frame)
      → Exchanged table s j o frame (answered s.logged j out (anew table s (read_frame frame)))
  accepted_kept p t =
      let w = anew table s (read_frame frame) in
      let facts = accepted_facts table s k.kept.valid_state (read_frame frame) t in
      let worked = accepted_worked table s j o k.kept p.room (read_frame frame) t in
      let count = accepted_bounded table s k.kept.valid_state k.kept.seven (read_frame frame) t 0
      (record { spare = omega (arith, k.bounded); raised = omega (arith, k.bounded) }) in
      let back : read_frames (length w.sent) (replaced out 0 (frames_of w.sent)) ≡ w.sent =
      answers_back w.sent out facts.messages in
      record {
        after = rw back (record {
          kept = worked.kept;
          nobody = accepted_nobody table s (read_frame frame) t k.nobody;
          bounded = omega (arith, count.spare);
        });
        line = facts.line;
        requested = rw back worked.requested;
        later = record {
          more = omega (arith, facts.counted);
          same = λ i l.
              replaced_before j s.logged w.logged i blank l
              (omega (arith, k.kept.room, p.room));
        };
      }

  pub answer_kept : Exchanged table s j o frame (answer s table j frame out)
  answer_kept = by_verdict s table j frame out (Exchanged table s j o frame) (λ n e. refused_kept n) again_kept
      accepted_kept
