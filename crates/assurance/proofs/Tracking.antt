-- The observer's tracks are those of the state: at the opening, and after every frame, record by record.
use mathlib.Core.Path.{◌≡◌, refl, ap, subst, ◌∙◌}
use mathlib.Core.Logic.{◌≢◌}
use mathlib.Core.Bool.{true, false, cond}
use mathlib.Core.List.{List, [], ◌∷◌, ◌++◌}
use Prim.Native.Nat.{ℕ, ◌+◌, ◌<◌}
use lib.ListN.{length}
use Rattle.common.specs.Update.{update}
use Rattle.common.proofs.Tests.{by_cases}
use Rattle.common.proofs.Update.{update_own, update_other}
use Rattle.line.specs.Line.{route_of}
use Rattle.line.specs.Holding.{is_stabled}
use Rattle.frame.specs.Frame.{read_frame}
use Rattle.journal.specs.Journal.{record_of}
use Rattle.rules.specs.declared.state.Train.{Train}
use Rattle.rules.specs.declared.state.Status.TheVariants.{Asked}
use Rattle.rules.specs.State.{is_asked, is_running, next_of, track_ahead, train_of, line_of, free_track, with_status}
use Rattle.rules.specs.State.{arrived_next, with_possession}
use Rattle.rules.specs.Granting.{Work, begun, granted, settled, granting, grant_record}
use Rattle.rules.specs.Answer.{taken, declined, anew, answer}
use Rattle.rules.proofs.Trains.{free_idle, idle_ahead, route_of_lem, changed, changed_each}
use Rattle.rules.proofs.Changes.{short_place}
use Rattle.rules.proofs.Grants.{Turn, grants_keep, granted_place}
use Rattle.rules.proofs.Acceptance.{NextMove, Taken, request, arrival, lending, return, Repeats, declined_before}
use Rattle.rules.proofs.Acceptance.{granted_before, arrived_before, by_verdict}
use Rattle.assurance.specs.Types.{Line, Move, Message, Fa, Afe, Am, Lb, Record, State}
use Rattle.assurance.specs.Run.{Input, new_records, run}
use Rattle.assurance.specs.Observer.{Observer, is_for, note_by}
use Rattle.assurance.specs.Tracks.{TracksTold, Tracks, track_frame, track_record, track_records, track_by}
use Rattle.assurance.specs.Tracks.{observe_tracks}
use Rattle.assurance.proofs.Invariant.{Invariant}
use Rattle.assurance.proofs.Logging.{new_logged, none_logged}
use Rattle.assurance.proofs.Steps.{authorised, finished_unauthorised}
use Rattle.assurance.proofs.Exchanged.{Settled, answer_kept}

-- what is told of a train, by its record
abbrev tracks_of : Train → TracksTold
tracks_of x = record { here = x.track.0; ahead = track_ahead x.status }

pub record TracksAgree (s : State) (k : Tracks) : Type 0 where
  pub each : (t : ℕ) → t < s.trains → k t ≡ tracks_of (train_of s t)

-- a change of train t's record that was heard of
agree_change : (s : State) (t : ℕ) (x : Train) (n : ℕ) (k k' : Tracks) → t < length s.fleet → TracksAgree s k
    → k' t ≡ tracks_of x → ((u : ℕ) → u ≢ t → k' u ≡ k u) → TracksAgree (changed s t x n) k'
agree_change s t x n k k' place h own others = record {
  each = λ u l. changed_each s t x n (λ v y. k' v ≡ tracks_of y) place own u (λ z. others u z ∙ h.each u l);
}

-- ---- the work on a frame

pub tracks_more : (k : Tracks) (l : List Record) (r : Record)
    → track_records k (l ++ r ∷ []) ≡ track_record (track_records k l) r
unfolding track_records
tracks_more k [] r = refl
tracks_more k (x ∷ l) r = tracks_more (track_record k x) l r

-- a train that is granted
pub grant_agrees : (table : List ℕ) (w : Work) (t : ℕ) (k : Tracks) → TracksAgree w.state k → Turn table w t
    → TracksAgree (granted w t).state (track_record k (grant_record w.state t))
unfolding record_of
grant_agrees table w t k h f =
    let s = w.state in
    agree_change s t (granting s t) (s.logged + 1) k (track_record k (grant_record s t)) (granted_place table w t f) h
    (update_own k t _
    ∙ ap (λ (z : TracksTold). record { here = z.here; ahead = free_track s t (next_of (train_of s t)) })
    (h.each t f.known))
    (λ u z. update_other k t _ u z)

module _ (table : List ℕ) (k : Tracks) where
  -- the records so far have told
  abbrev pub Tells : Work → Type 0
  Tells w = TracksAgree w.state (track_records k w.logged)

  pub granted_tells : (w : Work) (t : ℕ) → Tells w → Turn table w t → Tells (granted w t)
  granted_tells w t h f =
      rw (tracks_more k w.logged (grant_record w.state t))
      (grant_agrees table w t (track_records k w.logged) h f)

  settled_tells : (w : Work) → Tells w → Tells (settled table w)
  settled_tells w h = grants_keep table Tells granted_tells w.state.trains w h

  declined_tells : (m : Move) (w : Work) → Tells w → Tells (declined m w)
  unfolding record_of
  declined_tells m w h = by_cases (is_asked (train_of w.state m.train.0).status)
      (λ e. rw (e, tracks_more k w.logged (record_of (Afe m))) (record { each = h.each }))
      (λ e. rw e h)

-- the frame itself
module _ (s : State) (k : Tracks) (h : TracksAgree s k) (m : Move) (n : NextMove s m) where
  abbrev t : ℕ
  t = m.train.0

  pub asked_tells : (table : List ℕ) → is_running (train_of s t).status ≡ false
      → Tells table k (taken s (Fa m) (with_status (train_of s t) (Asked s.logged)))
  unfolding record_of track_records
  asked_tells table idle =
      agree_change s t (with_status (train_of s t) (Asked s.logged)) (s.logged + 1) k k (short_place s t n.short) h
      (h.each t n.known
      ∙ ap (λ (i : ℕ). record { here = (train_of s t).track.0; ahead = i }) (idle_ahead (train_of s t).status idle))
      (λ u z. refl)

  pub arrived_tells : (table : List ℕ) (o : Observer) → is_for (o.train t).claim m.from.0 m.to.0 ≡ true
      → Tells table (track_frame (line_of s) o k (Am m)) (taken s (Am m) (arrived_next s.sidings (train_of s t)))
  unfolding record_of track_records
  arrived_tells table o authority =
      let after : TracksTold = record {
        here = cond (is_stabled s.sidings (route_of (line_of s) t).end.0 m.to.0) 0 (k t).ahead;
        ahead = 0;
      } in
      let heard : track_frame (line_of s) o k (Am m) ≡ update k t after = rw authority in
      rw heard
      (agree_change s t (arrived_next s.sidings (train_of s t)) (s.logged + 1) k (update k t after)
      (short_place s t n.short) h
      (update_own k t after ∙ rw (h.each t n.known, route_of_lem s t, n.to))
      (λ u z. update_other k t after u z))

accepted_tells : (table : List ℕ) (s : State) (o : Observer) (k : Tracks) → TracksAgree s k → (a : Message) → Taken s a
    → ((m : Move) → NextMove s m → is_running (train_of s m.train.0).status ≡ true
    → is_for (o.train m.train.0).claim m.from.0 m.to.0 ≡ true)
    → Tells table (track_frame (line_of s) o k a) (anew table s a)
unfolding anew record_of track_records
accepted_tells table s o k h a (request m n free) authority =
    let w = taken s (Fa m) (with_status (train_of s m.train.0) (Asked s.logged)) in
    declined_tells table k m (settled table w) (settled_tells table k w
    (asked_tells s k h m n table (free_idle (train_of s m.train.0).status free)))
accepted_tells table s o k h a (arrival m n runs) authority =
    settled_tells table _ (taken s (Am m) (arrived_next s.sidings (train_of s m.train.0)))
    (arrived_tells s k h m n table o (authority m n runs))
accepted_tells table s o k h a (lending m n free few) authority = record { each = h.each }
accepted_tells table s o k h a (return m n held) authority =
    settled_tells table k (begun (with_possession s m.from.0 false s.given) (record_of (Lb m)))
    (record { each = h.each })

-- ---- a frame and a run

module _ (table : List ℕ) (s : State) (j : List Record) (o : Observer) (inv : Invariant table s j o)
    (k : Tracks) (h : TracksAgree s k) (frame out : List ℕ) where
  -- a repeat tells nothing new
  again_tells : (a : Message) (answers : List Message) → Repeats s a answers
      → TracksAgree s (track_records (track_frame (line_of s) o k a) [])
  unfolding track_records
  again_tells a answers (declined_before m n asks) = h
  again_tells a answers (granted_before m n runs) = h
  again_tells a answers (arrived_before m known finished) =
      rw (finished_unauthorised table s j o inv m known finished) h

  answer_tells : let a = answer s table j frame out in
      TracksAgree a.state (track_by (line_of s) o k frame a.verdict (new_records s a))
  answer_tells = by_verdict s table j frame out
      (λ a. TracksAgree a.state (track_by (line_of s) o k frame a.verdict (new_records s a)))
      (λ n e. h)
      (λ p answers r. rw (none_logged s j out answers) (again_tells (read_frame frame) answers r))
      (λ p t. rw (new_logged table s j frame out p t)
      (accepted_tells table s o k h (read_frame frame) t (authorised table s j o inv)))

pub run_tells : (table : List ℕ) (inputs : List Input) (s : State) (j : List Record) (o : Observer) (k : Tracks)
    → Settled table s j o → TracksAgree s k
    → let r = run table s j inputs in TracksAgree r.state (observe_tracks (line_of s) o k r.exchanges)
unfolding run observe_tracks
run_tells table [] s j o k c h = h
run_tells table (i ∷ is) s j o k c h =
    let a = answer s table j i.frame i.out in
    let f = answer_kept table s j o c i.frame i.out in
    let t = answer_tells table s j o c.kept k h i.frame i.out in
    subst
    (λ (l : Line).
    TracksAgree (run table a.state a.journal is).state
    (observe_tracks l (note_by o i.frame a.verdict a.out)
    (track_by (line_of s) o k i.frame a.verdict (new_records s a))
    (run table a.state a.journal is).exchanges))
    f.line
    (run_tells table is a.state a.journal _ _ f.after t)
