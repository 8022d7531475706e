-- What an accepted frame is answered by: what `Serving` says of the granting, told of the state before the frame.
use mathlib.Core.Path.{◌≡◌, refl, sym, ap, ◌∙◌}
use mathlib.Core.Logic.{inl, inr}
use mathlib.Core.Bool.{true, false, false≢true}
use mathlib.Core.Option.{Option, none, some}
use mathlib.Core.List.{List, []}
use Prim.Native.Nat.{ℕ, zero, suc, ◌+◌, ◌*◌, ◌<◌}
use native.Mathlib.Omega.{arith}
use lib.ListN.{length, drop, length-map}
use lib.Seq.{drop_at}
use Rattle.common.specs.Part.{replaced}
use Rattle.common.proofs.Tests.{clash, by_cases, by_equality}
use Rattle.frame.specs.Frame.{read_frame}
use Rattle.journal.specs.Journal.{record_of, without_track}
use Rattle.rules.specs.declared.state.Status.TheVariants.{Asked}
use Rattle.rules.specs.declared.state.Train.{Train}
use Rattle.rules.specs.State.{is_asked, train_of, next_move, with_status, arrived_next, with_possession}
use Rattle.rules.specs.Granting.{Work, begun, settled}
use Rattle.rules.specs.Answer.{again, taken, declined, anew, frames_of, Answer, answer}
use Rattle.rules.specs.Repeats.{told_again}
use Rattle.rules.proofs.Trains.{changed_own, changed_other}
use Rattle.rules.proofs.Changes.{short_place}
use Rattle.rules.proofs.Frames.{frames_length}
use Rattle.rules.proofs.Acceptance.{NextMove, Taken, request, arrival, lending, return, taken_new, repeats_again}
use Rattle.rules.proofs.Acceptance.{new_or_again, by_verdict, accepted_facts}
use Rattle.assurance.specs.Types.{Move, Message, Fa, Fe, Am, Lb, Record, State, Sent}
use Rattle.assurance.specs.Run.{new_records}
use Rattle.assurance.specs.Observer.{read_frames}
use Rattle.conduct.specs.Replies.{Awaited, Authorities, Reply, OnlyAdded, Replies}
use Rattle.conduct.specs.Replies as replies
use Rattle.conduct.proofs.Serving.{Serves, begins, settled_serves}
use Rattle.assurance.proofs.Exchanged.{answers_back, again_messages}
use Rattle.conduct.proofs.Recorded.{all_records, answer_adds, answer_logs}

-- ---- from the state before the frame on

authorities : (s b : State) (a : Message) (w : Work) → Serves b w
    → ((m : Move) → m.train.0 < b.trains → m ≡ next_move b m.train.0
    → is_asked (train_of b m.train.0).status ≡ true → Awaited s a m)
    → Authorities s a w.sent
authorities s b a w k awaited = record {
  each = λ c h. let g = k.each c h in (g.0, g.1, awaited g.0 g.2.known g.2.next g.2.waited);
  once = k.once;
}

module _ (s : State) (m : Move) (n : NextMove s m) where
  abbrev t : ℕ
  t = m.train.0

  place : t < length s.fleet
  place = short_place s t n.short

  own_move_lem : next_move s t ≡ m
  own_move_lem = rw (← n.to, ← n.from)

  -- a train that asks
  abbrev asking : Train
  asking = with_status (train_of s t) (Asked s.logged)

  asking_awaited : (q : Move) → q.train.0 < s.trains → q ≡ next_move (taken s (Fa m) asking).state q.train.0
      → is_asked (train_of (taken s (Fa m) asking).state q.train.0).status ≡ true → Awaited s (Fa m) q
  asking_awaited q known = by_equality q.train.0 t
      (λ e. rw (e, changed_own s t asking (s.logged + 1) place) (λ next waits. record {
        known = n.known;
        next = next;
        waits = inr (ap Fa (sym (next ∙ own_move_lem)));
      }))
      (λ h. rw (changed_other s t asking (s.logged + 1) q.train.0 h) (λ next waits.
      record { known = known; next = next; waits = inl waits }))

  asking_reply : (table : List ℕ) → Reply s (Fa m) (declined m (settled table (taken s (Fa m) asking))).sent
  asking_reply table = by_cases (is_asked (train_of w.state t).status)
      (λ e. rw e (replies.declined m w.sent all (λ q h same.
      let g = k.each (Fe q) h in
      let is : q ≡ g.0 = let y = g.1 in cc in
      let own : g.0.train.0 ≡ t = ap (λ (z : Move). z.train.0) (sym is) ∙ same in
      clash (is_asked (train_of w.state t).status) e (rw own at g.2.runs))))
      (λ e. rw e (replies.granted m w.sent all
      (rw mine at (k.served t (rw (changed_own s t asking (s.logged + 1) place)) e))))
    where
      w : Work
      w = settled table (taken s (Fa m) asking)

      k : Serves (taken s (Fa m) asking).state w
      k = settled_serves table (taken s (Fa m) asking) (begins _ _)

      all : Authorities s (Fa m) w.sent
      all = authorities s _ (Fa m) w k asking_awaited

      mine : next_move (taken s (Fa m) asking).state t ≡ m
      mine = rw (changed_own s t asking (s.logged + 1) place) own_move_lem

  -- a train that arrives
  abbrev arriving : Train
  arriving = arrived_next s.sidings (train_of s t)

  arriving_awaited : (q : Move) → q.train.0 < s.trains → q ≡ next_move (taken s (Am m) arriving).state q.train.0
      → is_asked (train_of (taken s (Am m) arriving).state q.train.0).status ≡ true → Awaited s (Am m) q
  arriving_awaited q known = by_equality q.train.0 t
      (λ e. rw (e, changed_own s t arriving (s.logged + 1) place) (λ next waits. absurd (false≢true waits)))
      (λ h. rw (changed_other s t arriving (s.logged + 1) q.train.0 h) (λ next waits.
      record { known = known; next = next; waits = inl waits }))

  arriving_reply : (table : List ℕ) → Reply s (Am m) (settled table (taken s (Am m) arriving)).sent
  arriving_reply table = replies.arrived m _ (authorities s _ (Am m) _
      (settled_serves table (taken s (Am m) arriving) (begins _ _)) arriving_awaited)

accepted_reply : (table : List ℕ) (s : State) (a : Message) → Taken s a → Reply s a (anew table s a).sent
unfolding anew
accepted_reply table s a (request m n free) = asking_reply s m n table
accepted_reply table s a (arrival m n runs) = arriving_reply s m n table
accepted_reply table s a (lending m n free few) = replies.lent m
accepted_reply table s a (return m n held) = replies.returned m _ (authorities s _ (Lb m) _
    (settled_serves table (begun (with_possession s m.from.0 false s.given) (record_of (Lb m))) (begins _ _))
    (λ q known next waits. record { known = known; next = next; waits = inl waits }))

-- ---- the claims

module _ (s : State) (table : List ℕ) (journal : List Record) (frame out : List ℕ) (n : ℕ) where
  reply : let a = answer s table journal frame out in
      a.verdict ≡ Sent n → again s (read_frame frame) ≡ none → Reply s (read_frame frame) (read_frames n a.out)
  reply = by_verdict s table journal frame out
      (λ (a : Answer). a.verdict ≡ Sent n → again s (read_frame frame) ≡ none
      → Reply s (read_frame frame) (read_frames n a.out))
      (λ k q e. absurd (let z : ◌≡◌ {A = ℕ} 0 1 = cc in omega arith))
      (λ p answers r e fresh. absurd (new_or_again fresh (repeats_again r)))
      (λ p t e fresh.
      let w = anew table s (read_frame frame) in
      let facts = accepted_facts table s p.valid_state (read_frame frame) t in
      let same : n ≡ length w.sent = cc in
      rw (same, answers_back w.sent out facts.messages) (accepted_reply table s (read_frame frame) t))

  -- the frames of n answers are written, and what comes after them is as it was
  rest_after : (l : List Message) → length l ≡ n → drop (7 * n) (replaced out 0 (frames_of l)) ≡ drop (7 * n) out
  unfolding replaced
  rest_after l same =
      let size : length (frames_of l) ≡ 7 * n = frames_length l ∙ rw same in
      let reach : 0 + length (frames_of l) ≡ 7 * n = omega arith in
      drop_at (frames_of l) (drop (0 + length (frames_of l)) out) (7 * n) size ∙ ap (λ (k : ℕ). drop k out) reach

  rest_kept : let a = answer s table journal frame out in a.verdict ≡ Sent n → drop (7 * n) a.out ≡ drop (7 * n) out
  rest_kept = by_verdict s table journal frame out
      (λ (a : Answer). a.verdict ≡ Sent n → drop (7 * n) a.out ≡ drop (7 * n) out)
      (λ k q e. absurd (let z : ◌≡◌ {A = ℕ} 0 1 = cc in omega arith))
      (λ p answers r e. rest_after answers (let same : length answers ≡ n = cc in same))
      (λ p t e.
      let l = (anew table s (read_frame frame)).sent in
      rest_after l (let same : length l ≡ n = cc in same))

  repeated : (answers : List Message)
      → let a = answer s table journal frame out in
      a.verdict ≡ Sent n → again s (read_frame frame) ≡ some answers
      → (a ≡ told_again s journal out answers) × (read_frames n a.out ≡ answers)
  repeated answers = by_verdict s table journal frame out
      (λ (a : Answer). a.verdict ≡ Sent n → again s (read_frame frame) ≡ some answers
      → (a ≡ told_again s journal out answers) × (read_frames n a.out ≡ answers))
      (λ k q e. absurd (let z : ◌≡◌ {A = ℕ} 0 1 = cc in omega arith))
      (λ p l r e told.
      let same : l ≡ answers = some_same (sym (repeats_again r) ∙ told) in
      let size : n ≡ length l = cc in (
        ap (told_again s journal out) same,
        rw size (answers_back l out (again_messages r)) ∙ same,
      ))
      (λ p t e told. absurd (new_or_again (taken_new s p.valid_state (read_frame frame) t) told))
    where
      or_none : Option (List Message) → List Message
      or_none none = []
      or_none (some l) = l

      some_same : {l k : List Message} → some l ≡ some k → l ≡ k
      some_same z = ap or_none z

  read_count : (k : ℕ) (b : List ℕ) → length (read_frames k b) ≡ k
  unfolding read_frames
  read_count zero b = refl
  read_count (suc k) b = ap suc (read_count k (drop 7 b))

  added : let a = answer s table journal frame out in
      a.verdict ≡ Sent n → again s (read_frame frame) ≡ none → OnlyAdded s journal frame out n a
  added e fresh =
      let a = answer s table journal frame out in
      let f = answer_adds table s journal frame out in
      let g = rw e at (answer_logs table s journal frame out fresh) in
      let size : length (new_records s a) ≡ 1 + n =
      sym (length-map (new_records s a) without_track) ∙ ap length g.logged
      ∙ omega (arith, length-map (read_frames n a.out) record_of, read_count n a.out) in
      record {
        rest = rest_kept e;
        count = f.count ∙ ap (λ (i : ℕ). s.logged + i) size;
        records = all_records f;
        logged = g.logged;
        tracked = g.tracked;
      }

pub all_replies : Replies
all_replies = record { reply = reply; added = added; repeated = repeated }
