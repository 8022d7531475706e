-- Each FE's record has the track that the rule gives, as the observer tells who holds which: grant by grant, as for the
-- turns.
use mathlib.Core.Path.{◌≡◌, refl, sym, ap, subst, ◌∙◌}
use mathlib.Core.Logic.{⊎_elim}
use mathlib.Core.Bool.{false, ◌&&◌}
use mathlib.Core.List.{List, [], ◌∷◌, ◌++◌, append_assoc}
use Prim.Native.Nat.{ℕ, suc, ◌+◌, ◌≤◌}
use native.Mathlib.Omega.{arith}
use lib.Dec.{eqb}
use lib.ListN.{length, length-append}
use Rattle.common.specs.Part.{replaced}
use Rattle.common.proofs.Tests.{clash, by_cases}
use Rattle.common.proofs.Below.{any_cong}
use Rattle.line.specs.Line.{tracks_at}
use Rattle.line.specs.Holding.{Whereabouts, holds_post}
use Rattle.line.specs.Book.{line_in}
use Rattle.frame.specs.Frame.{read_frame}
use Rattle.tracks.proofs.Choice.{track_cong}
use Rattle.journal.specs.Journal.{journal_length, record_of, record_on}
use Rattle.completion.specs.Table.{filled}
use Rattle.rules.specs.declared.state.Status.TheVariants.{Asked}
use Rattle.rules.specs.State.{is_asked, next_of, track_at, train_of, line_of, track_held, next_move, with_status}
use Rattle.rules.specs.State.{arrived_next}
use Rattle.rules.specs.State.{with_possession}
use Rattle.rules.specs.Granting.{Work, begun, granted, settled, grant_record}
use Rattle.rules.specs.Answer.{taken, declined, anew, answer}
use Rattle.rules.specs.Opening.{opened_state}
use Rattle.rules.proofs.Trains.{free_idle, route_of_lem, changed_line}
use Rattle.rules.proofs.Grants.{Turn, grants_keep, granted_line}
use Rattle.rules.proofs.Acceptance.{RoomLeft, Taken, request, arrival, lending, return, by_verdict, accepted_facts}
use Rattle.assurance.specs.Types.{Line, Move, Message, Fa, Fe, Afe, Am, La, Le, Lb, Record, State}
use Rattle.assurance.specs.Run.{new_records, run}
use Rattle.assurance.specs.Observer.{Observer, at_opening, note_frame, note_answers, answers_of, observe, located_told}
use Rattle.assurance.specs.Tracks.{Tracks, tracks_at_opening, track_frame, track_records, observe_tracks}
use Rattle.conduct.specs.Repeats.{repeats_told}
use Rattle.conduct.specs.RightTrack.{held_told, due_record, OnTrack, RightTrack}
use Rattle.assurance.proofs.Invariant.{Invariant}
use Rattle.assurance.proofs.Logging.{split_last, new_logged}
use Rattle.assurance.proofs.Steps.{authorised, request_kept, arrival_kept, return_kept}
use Rattle.assurance.proofs.Accept.{Room, Worked, not_fe, granted_worked, begun_worked}
use Rattle.assurance.proofs.Exchanged.{answers_back}
use Rattle.assurance.proofs.Tracking.{TracksAgree, Tells, granted_tells, asked_tells, arrived_tells}
use Rattle.assurance.proofs.Opened.{opening_accepted, opened_line_lem}
use Rattle.conduct.proofs.Repeats.{repeat_told}
use Rattle.assurance.proofs.Told.{told, track_as}
use Rattle.assurance.proofs.WholeList.{opened_run, opened_told}

-- ---- one record, as the observer tells it

module _ (table : List ℕ) (s : State) (j : List Record) (o : Observer) (inv : Invariant table s j o)
    (k : Tracks) (h : TracksAgree s k) where
  held_told_lem : (p i : ℕ) → track_held s p i ≡ held_told (line_of s) o k p i
  held_told_lem p i = any_cong s.trains _ _ (λ u ku.
      ap (λ (w : Whereabouts). holds_post w p && eqb (track_at (train_of s u) p) i) (sym (told table s j o inv u ku))
      ∙ ap (λ (n : ℕ). holds_post (located_told (line_of s) o u) p && eqb n i)
      (sym (track_as table s j o inv k h p u ku)))

  grant_due : (t : ℕ) → grant_record s t ≡ due_record (line_of s) o k (next_move s t)
  grant_due t =
      let p = next_of (train_of s t) in
      ap (λ (n : ℕ). record_on n (Fe (next_move s t)))
      (track_cong (train_of s t).route (track_held s p) (held_told (line_of s) o k p) (tracks_at (line_of s) p)
      (λ i l. held_told_lem p (suc i))
      ∙ rw (route_of_lem s t))

-- ---- the answers to one frame

abbrev GivenOnTrack : Line → Observer → Tracks → List Message → List Record → Type 0
GivenOnTrack l o k answers records = (said : List Message) (m : Move) (rest : List Message)
    → answers ≡ said ++ Fe m ∷ rest → OnTrack l o k said m records

-- one answer more, and its record
on_track_more : (l : Line) (o : Observer) (k : Tracks) (answers : List Message) (records : List Record)
    (a : Message) (r : Record) → length records ≡ 1 + length answers → GivenOnTrack l o k answers records
    → ((m : Move) → Fe m ≡ a → r ≡ due_record l (note_answers o answers) (track_records k records) m)
    → GivenOnTrack l o k (answers ++ a ∷ []) (records ++ r ∷ [])
on_track_more l o k answers records a r paired given own said m rest e = ⊎_elim
    (λ h. rw h.0 (record {
      before = records;
      after = [];
      size = paired;
      split = ap (λ (q : Record). records ++ q ∷ []) (own m h.1);
    }))
    (λ h.
    let g = given said m h.0 h.1 in
    record {
      before = g.before;
      after = g.after ++ r ∷ [];
      size = g.size;
      split = ap (λ (z : List Record). z ++ r ∷ []) g.split ∙ append_assoc g.before _ (r ∷ []);
    })
    (split_last answers a said (Fe m) rest e)

on_track_none : (l : Line) (o : Observer) (k : Tracks) (records : List Record) → GivenOnTrack l o k [] records
on_track_none l o k records said m rest e =
    absurd (let n = ap length e in omega (arith, length-append said (Fe m ∷ rest)))

module _ (table : List ℕ) (c : ℕ) (j : List Record) (o : Observer) (long : journal_length ≤ length j) (l : Line)
    (k : Tracks) where
  record Platformed (w : Work) : Type 0 where
    worked : Worked table c j o w × Room w
    line : line_of w.state ≡ l
    tells : Tells table k w
    paired : length w.logged ≡ 1 + length w.sent
    given : GivenOnTrack l o k w.sent w.logged

  granted_platformed : (w : Work) (t : ℕ) → Platformed w → Turn table w t → Platformed (granted w t)
  granted_platformed w t h f =
      let s = w.state in
      let seen = note_answers o w.sent in
      let heard = track_records k w.logged in
      let due : grant_record s t ≡ due_record l seen heard (next_move s t) =
      subst (λ (z : Line). grant_record s t ≡ due_record z seen heard (next_move s t)) h.line
      (grant_due table s (replaced j c w.logged) seen h.worked.0.kept heard h.tells t) in
      record {
        worked = granted_worked table c j o long w t h.worked f;
        line = granted_line table w t f ∙ h.line;
        tells = granted_tells table k w t h.tells f;
        paired = omega (
          arith,
          h.paired,
          length-append w.logged (grant_record s t ∷ []),
          length-append w.sent (Fe (next_move s t) ∷ []),
        );
        given = on_track_more l o k w.sent w.logged (Fe (next_move s t)) (grant_record s t) h.paired h.given
            (λ m e. let same : m ≡ next_move s t = cc in rw same due);
      }

  settled_platformed : (w : Work) → Platformed w → Platformed (settled table w)
  settled_platformed w = grants_keep table Platformed granted_platformed w.state.trains w

  declined_given : (m : Move) (w : Work) → Platformed w
      → GivenOnTrack l o k (declined m w).sent (declined m w).logged
  unfolding record_of
  declined_given m w h = by_cases (is_asked (train_of w.state m.train.0).status)
      (λ e. rw e (on_track_more l o k w.sent w.logged (Afe m) (record_of (Afe m)) h.paired h.given
      (λ q z. absurd (not_fe (Afe m) (λ u. refl) q z))))
      (λ e. rw e h.given)

module _ (table : List ℕ) (s : State) (j : List Record) (o : Observer) (inv : Invariant table s j o) (k : Tracks)
    (h : TracksAgree s k) where
  accepted_given : RoomLeft s → (a : Message) → Taken s a
      → let w = anew table s a in
      GivenOnTrack (line_of s) (note_frame o a) (track_frame (line_of s) o k a) w.sent w.logged
  unfolding anew note_answers record_of track_records
  accepted_given room a (request m q free) =
      let idle = free_idle (train_of s m.train.0).status free in
      let w = taken s (Fa m) (with_status (train_of s m.train.0) (Asked s.logged)) in
      declined_given table s.logged j (note_frame o (Fa m)) inv.room (line_of s) k m (settled table w)
      (settled_platformed table s.logged j (note_frame o (Fa m)) inv.room (line_of s) k w (record {
        worked = begun_worked table s.logged j (note_frame o (Fa m)) inv.room _ _ refl room
            (request_kept table s j o inv m q room idle);
        line = changed_line s m.train.0 _ (s.logged + 1) refl;
        tells = asked_tells s k h m q table idle;
        paired = refl;
        given = on_track_none (line_of s) (note_frame o (Fa m)) k _;
      }))
  accepted_given room a (arrival m q runs) =
      let w = taken s (Am m) (arrived_next s.sidings (train_of s m.train.0)) in
      (settled_platformed table s.logged j (note_frame o (Am m)) inv.room (line_of s) _ w (record {
        worked = begun_worked table s.logged j (note_frame o (Am m)) inv.room _ _ refl room
            (arrival_kept table s j o inv m q room runs);
        line = changed_line s m.train.0 _ (s.logged + 1) refl;
        tells = arrived_tells s k h m q table o (authorised table s j o inv m q runs);
        paired = refl;
        given = on_track_none (line_of s) (note_frame o (Am m)) _ _;
      })).given
  accepted_given room a (lending m q free few) =
      on_track_more (line_of s) o k [] (record_of (La m) ∷ []) (Le m) (record_of (Le m)) refl
      (on_track_none (line_of s) o k _) (λ n z. absurd (not_fe (Le m) (λ u. refl) n z))
  accepted_given room a (return m q held) =
      let w = begun (with_possession s m.from.0 false s.given) (record_of (Lb m)) in
      (settled_platformed table s.logged j (note_frame o (Lb m)) inv.room (line_of s) k w (record {
        worked = begun_worked table s.logged j (note_frame o (Lb m)) inv.room _ _ refl room
            (return_kept table s j o inv m q.on (omega (arith, room)) held);
        line = refl;
        tells = record { each = h.each };
        paired = refl;
        given = on_track_none (line_of s) (note_frame o (Lb m)) _ _;
      })).given

  answer_given : (frame out : List ℕ) → repeats_told o (read_frame frame) ≡ false
      → let a = answer s table j frame out in
      GivenOnTrack (line_of s) (note_frame o (read_frame frame)) (track_frame (line_of s) o k (read_frame frame))
      (answers_of a.verdict a.out) (new_records s a)
  answer_given frame out fresh = by_verdict s table j frame out
      (λ a. GivenOnTrack (line_of s) (note_frame o (read_frame frame)) (track_frame (line_of s) o k (read_frame frame))
      (answers_of a.verdict a.out) (new_records s a))
      (λ n e. on_track_none (line_of s) _ _ _)
      (λ p answers r.
      clash (repeats_told o (read_frame frame)) (repeat_told table s j o inv (read_frame frame) answers r) fresh)
      (λ p t.
      let facts = accepted_facts table s inv.valid_state (read_frame frame) t in
      rw (
        new_logged table s j frame out p t,
        answers_back (anew table s (read_frame frame)).sent out facts.messages,
      )
      (accepted_given p.room (read_frame frame) t))

pub right_track : RightTrack
right_track book table journal inputs e =
    let l = line_in book in
    let after = opened_run book table journal inputs e in
    let r = run (filled l table) (opened_state l) journal inputs in
    let o = observe (at_opening l) r.exchanges in
    let k = observe_tracks l (at_opening l) (tracks_at_opening l) r.exchanges in
    rw (opening_accepted book table journal e).0 (λ i said m fe.
    let a = answer r.state (filled l table) r.journal i.frame i.out in
    subst
    (λ (z : Line).
    repeats_told o (read_frame i.frame) ≡ false
    → GivenOnTrack z (note_frame o (read_frame i.frame)) (track_frame z o k (read_frame i.frame))
    (answers_of a.verdict a.out) (new_records r.state a))
    (after.line ∙ opened_line_lem book)
    (answer_given (filled l table) r.state r.journal o after.after.kept k
    (opened_told book table journal inputs e) i.frame i.out)
    fe.new said m fe.rest fe.parts)
