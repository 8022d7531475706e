-- A frame that passes is told as a repeat exactly where it is one, and a repeat leaves state, journal and tally.
use mathlib.Core.Path.{◌≡◌, refl, sym, ap, subst, ◌∙◌}
use mathlib.Core.Bool.{true, false, not, ◌||◌}
use mathlib.Core.List.{List, []}
use Prim.Native.Nat.{ℕ}
use native.Mathlib.Omega.{arith}
use lib.ListN.{length}
use Rattle.common.specs.Part.{replaced}
use Rattle.common.proofs.Tests.{clash}
use Rattle.line.specs.Book.{line_in}
use Rattle.frame.specs.Frame.{read_frame}
use Rattle.completion.specs.Table.{filled}
use Rattle.rules.specs.declared.state.Status.{Status}
use Rattle.rules.specs.declared.state.Status.TheVariants.{Free, Asked, Running}
use Rattle.rules.specs.State.{is_free, next_of, train_of, line_of}
use Rattle.rules.specs.Answer.{frames_of, Answer}
use Rattle.rules.specs.Opening.{opened_state}
use Rattle.rules.proofs.Trains.{route_of_lem}
use Rattle.rules.proofs.Validity.{finished_move}
use Rattle.rules.proofs.Acceptance.{Taken, request, arrival, lending, return, Repeats, declined_before, granted_before}
use Rattle.rules.proofs.Acceptance.{arrived_before, by_verdict}
use Rattle.assurance.specs.Types.{Line, Message, Record, State, Sent}
use Rattle.assurance.specs.Run.{Ran, run, answer_after}
use Rattle.assurance.specs.Observer.{Seen, Observer, at_opening, read_frames, observe, has_authority, has_asked}
use Rattle.assurance.specs.Tracks.{Tracks, tracks_at_opening, track_frame, track_records, observe_tracks}
use Rattle.conduct.specs.Repeats.{repeats_told, AnsweredAgain, by_afe, by_fe, by_none, LeavesAll, RepeatsTold}
use Rattle.assurance.proofs.Logging.{none_logged}
use Rattle.assurance.proofs.Invariant.{claim_of, asked_claim, running_claim, Invariant}
use Rattle.assurance.proofs.Steps.{authorised, finished_unauthorised}
use Rattle.assurance.proofs.Exchanged.{answers_back, again_messages, Settled, told_same, gangs_same}
use Rattle.assurance.proofs.Opened.{opening_accepted, opened_line_lem}
use Rattle.assurance.proofs.WholeList.{opened_run}

module _ (table : List ℕ) (s : State) (j : List Record) (o : Observer) (inv : Invariant table s j o) where
  pub repeat_told : (a : Message) (answers : List Message) → Repeats s a answers → repeats_told o a ≡ true
  repeat_told a answers (declined_before m n asks) =
      rw ((inv.each m.train.0 n.known).seen, asked_claim (train_of s m.train.0).status _ _ asks)
  repeat_told a answers (granted_before m n runs) =
      rw ((inv.each m.train.0 n.known).seen, running_claim (train_of s m.train.0).status _ _ runs)
  repeat_told a answers (arrived_before m known finished) =
      ap not (finished_unauthorised table s j o inv m known finished)

  pub new_told : (a : Message) → Taken s a → repeats_told o a ≡ false
  new_told a (request m n free) =
      rw (inv.each m.train.0 n.known).seen (at (train_of s m.train.0).status free)
    where
      at : (w : Status) → is_free w ≡ true
          → let c = claim_of w (train_of s m.train.0).at.0 (next_of (train_of s m.train.0)) in
          has_asked c || has_authority c ≡ false
      at Free e = refl
      at (Asked k) e = sym e
      at (Running k) e = sym e
  new_told a (arrival m n runs) = ap not (authorised table s j o inv m n runs)
  new_told a (lending m n free few) = refl
  new_told a (return m n held) = refl

  answered_again : (a : Message) (answers : List Message) → Repeats s a answers → AnsweredAgain (line_of s) o a answers
  answered_again a answers (declined_before m n asks) =
      by_afe m (rw (inv.each m.train.0 n.known).seen (asked_claim (train_of s m.train.0).status _ _ asks))
  answered_again a answers (granted_before m n runs) =
      by_fe m (rw ((inv.each m.train.0 n.known).seen, n.from, n.to)
      (running_claim (train_of s m.train.0).status _ _ runs))
  answered_again a answers (arrived_before m known finished) =
      let x = train_of s m.train.0 in
      let f = finished_move x (inv.valid_state.each m.train.0 known).finished _ _ finished in
      let post : (o.train m.train.0).post ≡ x.at.0 =
      ap (λ (y : Seen). y.post) (inv.each m.train.0 known).seen in
      by_none m (record {
        past = λ e. f.0 (sym post ∙ e ∙ rw (route_of_lem s m.train.0));
        from = f.1 ∙ rw (post, route_of_lem s m.train.0);
        to = f.2 ∙ sym post;
      })

  -- nor does it change the tracks: there is no record to tell one
  tracks_same : (k : Tracks) (a : Message) (answers : List Message) → Repeats s a answers
      → (t : ℕ) → track_records (track_frame (line_of s) o k a) [] t ≡ k t
  unfolding track_records
  tracks_same k a answers (declined_before m n asks) t = refl
  tracks_same k a answers (granted_before m n runs) t = refl
  tracks_same k a answers (arrived_before m known finished) t =
      rw (finished_unauthorised table s j o inv m known finished)

-- one frame
leaves_all : (table : List ℕ) (r : Ran) (o : Observer) (k : Tracks) → Settled table r.state r.journal o
    → (frame out : List ℕ) (n : ℕ)
    → let a = answer_after table r frame out in
    a.verdict ≡ Sent n → repeats_told o (read_frame frame) ≡ true → LeavesAll (line_of r.state) r o k frame a
leaves_all table r o k h frame out n = by_verdict r.state table r.journal frame out
    (λ (a : Answer). a.verdict ≡ Sent n → repeats_told o (read_frame frame) ≡ true
    → LeavesAll (line_of r.state) r o k frame a)
    (λ c q e. absurd (let z : ◌≡◌ {A = ℕ} 0 1 = cc in omega arith))
    (λ p answers q e told.
    let back : read_frames (length answers) (replaced out 0 (frames_of answers)) ≡ answers =
    answers_back answers out (again_messages q) in
    record {
      state = refl;
      journal = refl;
      answers = rw back (answered_again table r.state r.journal o h.kept (read_frame frame) answers q);
      trains = rw back (told_same table r.state r.journal o h frame out (read_frame frame) answers q);
      gangs = rw back (gangs_same table r.state r.journal o h frame out (read_frame frame) answers q);
      tracks = rw (none_logged r.state r.journal out answers)
          (tracks_same table r.state r.journal o h.kept k (read_frame frame) answers q);
    })
    (λ p t e told.
    clash (repeats_told o (read_frame frame)) told
    (new_told table r.state r.journal o h.kept (read_frame frame) t))

pub repeats_told_lem : RepeatsTold
repeats_told_lem book table journal inputs e =
    let l = line_in book in
    let after = opened_run book table journal inputs e in
    let r = run (filled l table) (opened_state l) journal inputs in
    let o = observe (at_opening l) r.exchanges in
    let k = observe_tracks l (at_opening l) (tracks_at_opening l) r.exchanges in
    rw (opening_accepted book table journal e).0 (λ i n.
    let a = answer_after (filled l table) r i.frame i.out in
    subst
    (λ (z : Line). a.verdict ≡ Sent n → repeats_told o (read_frame i.frame) ≡ true → LeavesAll z r o k i.frame a)
    (after.line ∙ opened_line_lem book) (leaves_all (filled l table) r o k after.after i.frame i.out n))
