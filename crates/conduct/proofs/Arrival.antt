-- Arrival. By the invariant the frame that the observer tells of a train that does not wait passes every check, and so
-- do those of gangs that it tells of, and repeats; every frame that passes them is one of these. How many were accepted
-- is `Accepted`'s.
use mathlib.Core.Path.{◌≡◌, refl, sym, ap, subst, ◌∙◌}
use mathlib.Core.Logic.{◌≢◌, ◌⊎◌, inl, inr, ⊎_elim}
use mathlib.Core.Bool.{true, false, false≢true, true≢false}
use mathlib.Core.List.{List}
use Prim.Native.Nat.{ℕ, ◌≤◌, ◌<◌}
use native.Mathlib.Omega.{arith}
use lib.ListN.{length, replicate}
use Rattle.common.specs.Below.{of_bool, sum_below}
use Rattle.common.proofs.Tests.{by_cases, by_equality}
use Rattle.common.proofs.Below.{count_none}
use Rattle.common.specs.Check.{refusal}
use Rattle.common.proofs.Check.{accepts}
use Rattle.common.proofs.Sums.{sum_le}
use Rattle.line.specs.Route.{next_post}
use Rattle.line.specs.Line.{route_of}
use Rattle.line.specs.Book.{line_in}
use Rattle.frame.specs.Frame.{move_of, read_frame, bytes_of}
use Rattle.frame.specs.RoundTrip.{IsMessage}
use Rattle.frame.proofs.RoundTrip.{round_trip}
use Rattle.completion.specs.Table.{table_length, filled}
use Rattle.rules.specs.declared.state.Status.{Status}
use Rattle.rules.specs.declared.state.Status.TheVariants.{Free, Asked, Running}
use Rattle.rules.specs.State.{is_free, is_asked, next_of, train_of, line_of, possessed, next_move}
use Rattle.rules.specs.Answer.{out_length, frame_checks, accepted, runs_granting, Answer, answered, refused, answer}
use Rattle.rules.specs.Refusals.{of_train}
use Rattle.rules.specs.Opening.{Opening, opened_state}
use Rattle.rules.proofs.Trains.{asked_busy, running_busy, running_is, free_unasked, route_of_lem}
use Rattle.rules.proofs.Validity.{one_finished, finished_move}
use Rattle.rules.proofs.Possessions.{possessed_on}
use Rattle.rules.proofs.Acceptance.{NextMove, Taken, request, arrival, lending, return, Repeats, declined_before}
use Rattle.rules.proofs.Acceptance.{granted_before, arrived_before, by_verdict}
use Rattle.rules.proofs.Taking.{taken_accepted, again_accepted}
use Rattle.assurance.specs.Types.{Line, Move, Message, Fa, Am, La, Lb, Record, State, Sent, RefusedBy}
use Rattle.assurance.specs.Run.{Input, Ran, run, answer_after}
use Rattle.assurance.specs.Observer.{Claim, nothing, asked, authority, Seen, Observer, at_opening, observe, next_told}
use Rattle.assurance.specs.WholeList.{Unhindered}
use Rattle.conduct.specs.Homecoming.{AllAtEnds}
use Rattle.conduct.specs.LocalRuns.{section_move}
use Rattle.conduct.specs.Repeats.{repeats_told}
use Rattle.conduct.specs.Arrival.{due_by, due, MayCome, of_train_lem, of_gang_lem, of_return, of_asker, of_arrived}
use Rattle.conduct.specs.Arrival.{new_count, asks_section, frames_told, most_frames, Arrives, Arrival}
use Rattle.assurance.proofs.Invariant.{claim_of, Invariant}
use Rattle.assurance.proofs.Records.{lent_in}
use Rattle.assurance.proofs.Exchanged.{Settled, valid_settled}
use Rattle.conduct.proofs.LocalRuns.{section_named}
use Rattle.conduct.proofs.Repeats.{new_told}
use Rattle.conduct.proofs.Accepted.{frames_in, run_frames, run_given, run_lent, frames_told_lem, lent_told}
use Rattle.conduct.proofs.Accepted.{frames_within, few_frames}
use Rattle.assurance.proofs.Opened.{opening_accepted, opened_line_lem, opened_unlent, opened_settled}
use Rattle.assurance.proofs.Ran.{run_kept}
use Rattle.assurance.proofs.Told.{not_waiting, seen, at_post, asked_told, next_told_lem, holders_told_lem}
use Rattle.conduct.proofs.Homecoming.{next_move_lem, taken_message, long_table}

-- ---- the frame that a train has before it

due_message : (c : Claim) (m : Move) → IsMessage (due_by c m)
unfolding IsMessage
due_message nothing m = tt
due_message asked m = tt
due_message (authority p q) m = tt

due_runs : (c : Claim) (m : Move) → runs_granting (due_by c m) ≡ true
due_runs nothing m = refl
due_runs asked m = refl
due_runs (authority p q) m = refl

-- by its record
abbrev due_of : State → Status → ℕ → Message
due_of s w t = due_by (claim_of w (train_of s t).at.0 (next_of (train_of s t))) (next_move s t)

module _ (table : List ℕ) (s : State) (j : List Record) (o : Observer) (inv : Invariant table s j o) where
  due_told : (t : ℕ) → t < s.trains → due (line_of s) o t ≡ due_of s (train_of s t).status t
  due_told t kt = rw (next_told_lem table s j o inv t kt, seen table s j o inv t kt)

  -- a train that does not wait
  due_taken : (u : Unhindered (line_of s) o) → Taken s (due (line_of s) o u.train)
  due_taken u = rw (due_told u.train u.known)
      (at (train_of s u.train).status refl (sym (asked_told table s j o inv u.train u.known) ∙ u.unasked))
    where
      move : NextMove s (next_move s u.train)
      move = next_move_lem s u.train u.known
          (λ e. u.short (at_post table s j o inv u.train u.known ∙ e ∙ rw (route_of_lem s u.train)))

      at : (w : Status) → (train_of s u.train).status ≡ w → is_asked w ≡ false → Taken s (due_of s w u.train)
      at Free e free = request (next_move s u.train) move (rw e)
      at (Asked n) e free = absurd (false≢true (sym free))
      at (Running k) e free = arrival (next_move s u.train) move (rw e)

  -- a train whose frame passes the checks is one that does not wait
  unhindered : (m : Move) → NextMove s m → is_asked (train_of s m.train.0).status ≡ false → Unhindered (line_of s) o
  unhindered m q free =
      let t = m.train.0 in
      record {
        train = t;
        known = q.known;
        short = λ e. q.short (sym (at_post table s j o inv t q.known) ∙ e ∙ rw (route_of_lem s t));
        unasked = asked_told table s j o inv t q.known ∙ free;
      }

  -- the frames that are accepted, where the state counts the local runs given
  abbrev Comes : List ℕ → Type 0
  Comes f = MayCome (line_of s) o s.given f

  -- a frame that passes the checks is one of them
  taken_comes : (a : Message) → Taken s a → Comes (bytes_of a)
  unfolding unhindered
  taken_comes a (request m q free) =
      let t = m.train.0 in
      let is : Fa m ≡ due (line_of s) o t =
      rw (due_told t q.known, ← q.to, ← q.from) (at (train_of s t).status free) in
      subst (λ (b : Message). Comes (bytes_of b)) (sym is)
      (of_train_lem (unhindered m q (free_unasked (train_of s t).status free)))
    where
      at : (w : Status) → is_free w ≡ true → Fa m ≡ due_by (claim_of w m.from.0 m.to.0) m
      at Free a = refl
      at (Asked n) a = refl
      at (Running k) a = absurd (false≢true a)
  taken_comes a (arrival m q runs) =
      let t = m.train.0 in
      let is = (running_is (train_of s t).status runs).1 in
      let own : Am m ≡ due (line_of s) o t = rw (due_told t q.known, is, ← q.to, ← q.from) in
      subst (λ (b : Message). Comes (bytes_of b)) (sym own) (of_train_lem (unhindered m q (rw is)))
  taken_comes a (lending m q free few) =
      subst (λ (i : Move). Comes (bytes_of (La i))) (sym (section_named m q))
      (of_gang_lem m.from.0 q.on (holders_told_lem table s j o inv m.from.0 ∙ free) few)
  taken_comes a (return m q held) =
      subst (λ (i : Move). Comes (bytes_of (Lb i))) (sym (section_named m q))
      (of_return m.from.0 (λ e. omega (arith, inv.gangs m.from.0, ap of_bool held)))

  -- so is a repeat
  asker_comes : (m : Move) → NextMove s m → is_free (train_of s m.train.0).status ≡ false → Comes (bytes_of (Fa m))
  asker_comes m n busy =
      let t = m.train.0 in
      let is : m ≡ move_of t (o.train t).post (next_told (line_of s) o t) =
      rw (next_told_lem table s j o inv t n.known, at_post table s j o inv t n.known, ← n.to, ← n.from) in
      subst (λ (i : Move). Comes (bytes_of (Fa i))) (sym is) (of_asker t n.known (λ e.
      claims (train_of s t).status busy (sym (ap (λ (y : Seen). y.claim) (inv.each t n.known).seen) ∙ e)))
    where
      claims : (w : Status) → is_free w ≡ false
          → claim_of w (train_of s m.train.0).at.0 (next_of (train_of s m.train.0)) ≡ nothing → ⊥
      claims Free e z = true≢false e
      claims (Asked n) e z = let y : ◌≡◌ {A = ℕ} 0 1 = cc in omega arith
      claims (Running k) e z = let y : ◌≡◌ {A = ℕ} 0 1 = cc in omega arith

  repeats_come : (a : Message) (answers : List Message) → Repeats s a answers → Comes (bytes_of a)
  repeats_come a answers (declined_before m n asks) =
      asker_comes m n (asked_busy (train_of s m.train.0).status asks)
  repeats_come a answers (granted_before m n runs) =
      asker_comes m n (running_busy (train_of s m.train.0).status runs)
  repeats_come a answers (arrived_before m known finished) =
      let t = m.train.0 in
      let x = train_of s t in
      let f = finished_move x (inv.valid_state.each t known).finished _ _ finished in
      let post = at_post table s j o inv t known in
      let back = next_post (o.train t).post (route_of (line_of s) t).start.0 in
      let from : m.from.0 ≡ back = f.1 ∙ rw (post, route_of_lem s t) in
      let is : m ≡ move_of t back (o.train t).post =
      ap (λ (p : ℕ). move_of t p m.to.0) from ∙ ap (move_of t back) (f.2 ∙ sym post) in
      subst (λ (i : Move). Comes (bytes_of (Am i))) (sym is)
      (of_arrived t known (λ e. f.0 (sym post ∙ e ∙ rw (route_of_lem s t))))

  -- and each of them passes
  abbrev Passes : Message → Type 0
  Passes a = Taken s a ⊎ ((answers : List Message) × Repeats s a answers)

  comes_passes : (f : List ℕ) → Comes f → (a : Message) × (f ≡ bytes_of a) × Passes a
  comes_passes f (of_train_lem u) = (due (line_of s) o u.train, refl, inl (due_taken u))
  comes_passes f (of_gang_lem i on free few) = (
    La (section_move i),
    refl,
    inl (lending (section_move i) (record { gang = refl; upper = refl; on = on })
        (sym (holders_told_lem table s j o inv i) ∙ free) few),
  )
  comes_passes f (of_return i has) =
      let held : possessed s i ≡ true = by_cases (possessed s i) (λ e. e) (λ e.
      absurd (has (inv.gangs i ∙ ap of_bool e))) in (
        Lb (section_move i),
        refl,
        inl (return (section_move i) (record { gang = refl; upper = refl; on = possessed_on s i held }) held),
      )
  comes_passes f (of_asker t known has) =
      let x = train_of s t in
      let is : next_move s t ≡ move_of t (o.train t).post (next_told (line_of s) o t) =
      rw (next_told_lem table s j o inv t known, at_post table s j o inv t known) in (
        Fa (move_of t (o.train t).post (next_told (line_of s) o t)),
        refl,
        subst (λ (m : Move). Passes (Fa m)) is
            (at x.status refl (λ e. has (ap (λ (y : Seen). y.claim) (inv.each t known).seen ∙ e))),
      )
    where
      short : (w : Status) → (train_of s t).status ≡ w → is_free w ≡ false → NextMove s (next_move s t)
      short w e busy = next_move_lem s t known ((inv.valid_state.each t known).busy (rw e busy))

      at : (w : Status) → (train_of s t).status ≡ w
          → (claim_of w (train_of s t).at.0 (next_of (train_of s t)) ≡ nothing → ⊥) → Passes (Fa (next_move s t))
      at Free e h = absurd (h refl)
      at (Asked n) e h = inr (_, declined_before (next_move s t) (short (Asked n) e refl) (rw e))
      at (Running k) e h = inr (_, granted_before (next_move s t) (short (Running k) e refl) (rw e))
  comes_passes f (of_arrived t known past) =
      let x = train_of s t in
      let post = at_post table s j o inv t known in
      let away : x.at.0 ≢ x.route.start.0 = λ e. past (post ∙ e ∙ rw (route_of_lem s t)) in
      let last = one_finished x (inv.valid_state.each t known).finished away in
      let back = next_post (o.train t).post (route_of (line_of s) t).start.0 in
      let is : move_of t (next_post x.at.0 x.route.start.0) x.at.0 ≡ move_of t back (o.train t).post =
      rw (post, route_of_lem s t) in (
        Am (move_of t back (o.train t).post),
        refl,
        subst (λ (m : Move). Passes (Am m)) is
            (inr (_, arrived_before _ known last)),
      )

-- ---- the claim

repeat_message : {s : State} {a : Message} {answers : List Message} → Repeats s a answers → IsMessage a
unfolding IsMessage
repeat_message (declined_before m n asks) = tt
repeat_message (granted_before m n runs) = tt
repeat_message (arrived_before m known finished) = tt

module _ (table : List ℕ) (long : table_length ≤ length table) (r : Ran) (o : Observer)
    (k : Settled table r.state r.journal o) where
  abbrev s : State
  s = r.state

  comes_accepted : (frame out : List ℕ) → Comes table s r.journal o k.kept frame → out_length ≤ length out
      → (n : ℕ) × ((answer_after table r frame out).verdict ≡ Sent n)
  unfolding answer
  comes_accepted frame out c room =
      let d = comes_passes table s r.journal o k.kept frame c in
      let e : refusal (frame_checks s (length table) (length r.journal) (bytes_of d.0) (length out)) ≡ 0 =
      ⊎_elim
      (taken_accepted s table r.journal out (valid_settled k) long k.kept.room room d.0)
      (λ q. again_accepted s table r.journal out (valid_settled k) long k.kept.room room d.0 q.0 q.1)
      d.2 in
      let w = accepted table s (read_frame (bytes_of d.0)) in
      let same = accepts (answered s.logged r.journal out w) (refused s r.journal out) e in (
        length w.sent,
        subst (λ (f : List ℕ). (answer_after table r f out).verdict ≡ Sent (length w.sent)) (sym d.1)
            (ap (λ (b : Answer). b.verdict) same),
      )

  accepted_comes : (frame out : List ℕ) (n : ℕ) → (answer_after table r frame out).verdict ≡ Sent n
      → Comes table s r.journal o k.kept frame
  accepted_comes frame out n =
      by_verdict s table r.journal frame out
      (λ (a : Answer). a.verdict ≡ Sent n → Comes table s r.journal o k.kept frame)
      (λ m q e. absurd (let z : ◌≡◌ {A = ℕ} 0 1 = cc in omega arith))
      (λ p answers q e. subst (Comes table s r.journal o k.kept)
      (round_trip.only frame (repeat_message q))
      (repeats_come table s r.journal o k.kept (read_frame frame) answers q))
      (λ p t e. subst (Comes table s r.journal o k.kept)
      (round_trip.only frame (taken_message s (read_frame frame) t))
      (taken_comes table s r.journal o k.kept (read_frame frame) t))

  -- ---- where no new frame that runs the granting is accepted

  module _ (none : (frame out : List ℕ) → runs_granting (read_frame frame) ≡ true
      → repeats_told o (read_frame frame) ≡ false → out_length ≤ length out
      → (n : ℕ) × ((answer_after table r frame out).verdict ≡ RefusedBy n)) where
    -- such a frame does not come
    not_coming : (a : Message) → IsMessage a → runs_granting a ≡ true → repeats_told o a ≡ false
        → Comes table s r.journal o k.kept (bytes_of a) → ⊥
    not_coming a is runs fresh c =
        let read : runs_granting (read_frame (bytes_of a)) ≡ true = rw (round_trip.back a is) runs in
        let new : repeats_told o (read_frame (bytes_of a)) ≡ false = rw (round_trip.back a is) fresh in
        let yes = comes_accepted (bytes_of a) (replicate out_length 0) c (omega arith) in
        let no = none (bytes_of a) (replicate out_length 0) read new (omega arith) in
        let z : ◌≡◌ {A = ℕ} 0 1 = cc in
        omega arith

    all_back : (i : ℕ) → o.gangs i ≡ 0
    unfolding IsMessage
    all_back i =
        by_equality (o.gangs i) 0 (λ e. e) (λ h. absurd (not_coming (Lb (section_move i)) tt refl refl (of_return i h)))

    all_ended : AllAtEnds (line_of s) o
    all_ended t kt = by_equality (o.train t).post (route_of (line_of s) t).end.0 (λ e. e) (λ short.
        let u = not_waiting table r o k all_back t kt short in
        absurd (not_coming (due (line_of s) o u.train) (due_message (o.train u.train).claim _)
        (due_runs (o.train u.train).claim _)
        (new_told table s r.journal o k.kept _ (due_taken table s r.journal o k.kept u)) (of_train_lem u)))

pub arrives : (l : Line) (table : List ℕ) (s : State) (j : List Record) (inputs : List Input)
    → table_length ≤ length table → Settled table s j (at_opening l) → line_of s ≡ l
    → frames_in s ≡ 0 → s.given ≡ 0 → lent_in s ≡ 0
    → let r = run table s j inputs in Arrives table l r (observe (at_opening l) r.exchanges)
arrives l table s j inputs long k line no_frames none_given none_lent =
    let r = run table s j inputs in
    let o = at_opening l in
    let kept = run_kept table inputs s j o k in
    let after = kept.after in
    let frames : new_count of_train l r ≡ frames_in r.state = omega (arith, run_frames table inputs s j o k) in
    let given : new_count asks_section l r ≡ r.state.given = omega (arith, run_given table inputs s j o k) in
    let seen = observe o r.exchanges in
    let same : line_of r.state ≡ l = kept.line ∙ line in
    record {
      taken = subst
          (λ (z : Line). (frame out : List ℕ) → MayCome z seen (new_count asks_section l r) frame
          → out_length ≤ length out → (m : ℕ) × ((answer_after table r frame out).verdict ≡ Sent m)) same
          (subst
          (λ (n : ℕ). (frame out : List ℕ) → MayCome (line_of r.state) seen n frame → out_length ≤ length out
          → (m : ℕ) × ((answer_after table r frame out).verdict ≡ Sent m))
          (sym given) (comes_accepted table long r _ after));
      only = subst
          (λ (z : Line). (frame out : List ℕ) (m : ℕ) → (answer_after table r frame out).verdict ≡ Sent m
          → MayCome z seen (new_count asks_section l r) frame) same
          (subst
          (λ (n : ℕ). (frame out : List ℕ) (m : ℕ) → (answer_after table r frame out).verdict ≡ Sent m
          → MayCome (line_of r.state) seen n frame)
          (sym given) (accepted_comes table long r _ after));
      ended = λ none. subst (λ (z : Line). AllAtEnds z seen) same (all_ended table long r _ after none);
      frames = frames ∙ subst (λ (z : Line). frames_in r.state ≡ sum_below z.trains (frames_told z seen)) same
          (frames_told_lem table r.state r.journal _ after.kept);
      bounded = rw frames (subst (λ (z : Line). frames_in r.state ≤ most_frames z) same
          (frames_within r.state after.kept.valid_state));
      few = subst (λ (z : Line). most_frames z ≤ 84) same (few_frames r.state after.kept.valid_state);
      local = omega (
        arith,
        run_lent table inputs s j o k,
        subst (λ (z : Line). lent_in r.state ≡ sum_below z.posts seen.gangs) same
            (lent_told table r.state r.journal seen after.kept),
      );
      few_local = rw given after.kept.valid_state.few_given;
    }

pub arrival_of_all : Arrival
arrival_of_all book table journal inputs e =
    let l = line_in book in
    let a = opening_accepted book table journal e in
    let k = opened_settled l table journal a.1 (opened_line_lem book) in
    let told : frames_in (opened_state l) ≡ sum_below l.trains (frames_told l (at_opening l)) =
    subst (λ (z : Line). frames_in (opened_state l) ≡ sum_below l.trains (frames_told z (at_opening l)))
    (opened_line_lem book)
    (frames_told_lem (filled l table) (opened_state l) journal (at_opening l) k.kept) in
    let none : frames_in (opened_state l) ≡ 0 =
    omega (arith, sum_le l.trains 0 (frames_told l (at_opening l)) (λ t kt. omega arith)) in
    let none_lent : lent_in (opened_state l) ≡ 0 =
    count_none l.posts (possessed (opened_state l))
    (λ i ki. opened_unlent l table journal a.1 (opened_line_lem book) i) in
    subst
    (λ (o : Opening).
    let r = run o.table o.state journal inputs in Arrives o.table l r (observe (at_opening l) r.exchanges))
    (sym a.0)
    (arrives l (filled l table) (opened_state l) journal inputs (long_table l table) k
    (opened_line_lem book) none refl none_lent)
