-- How many new frames were accepted. Of trains: two for each post travelled, and one for a train that is Asked or
-- Running; each new one adds one to the sum, and a repeat and a grant leave it. Of gangs: the count given has the LAs,
-- and of those the ones without an LB are the sections that gangs have. For any table.
use mathlib.Core.Path.{◌≡◌, refl, sym, ap, ◌∙◌}
use mathlib.Core.Bool.{Bool, true, false}
use mathlib.Core.List.{List, [], ◌∷◌}
use Prim.Native.Nat.{ℕ, ◌+◌, ◌*◌, ◌≤◌, ◌<◌}
use native.Mathlib.Nat.{mul-le-mul_right}
use native.Mathlib.Omega.{arith}
use lib.ListN.{length}
use Rattle.common.specs.Below.{of_bool, sum_below}
use Rattle.common.proofs.Tests.{by_cases}
use Rattle.common.proofs.Sums.{sum_cong, count_sum, sum_mono, sum_le}
use Rattle.line.specs.Route.{distance}
use Rattle.line.proofs.Travel.{travelled_within, next_within, next_travelled}
use Rattle.line.proofs.WellFormed.{short_route}
use Rattle.frame.specs.Frame.{read_frame}
use Rattle.journal.specs.Journal.{record_of}
use Rattle.completion.specs.Configuration.{distance_of}
use Rattle.rules.specs.declared.state.Status.{Status}
use Rattle.rules.specs.declared.state.Status.TheVariants.{Free, Asked, Running}
use Rattle.rules.specs.declared.state.Train.{Train}
use Rattle.rules.specs.State.{is_asked, is_running, reached_by, train_of, line_of, possessed, with_status, arrived_next}
use Rattle.rules.specs.State.{with_possession, one_logged}
use Rattle.rules.specs.Granting.{Work, begun, granted, settled, granting}
use Rattle.rules.specs.Answer.{taken, declined, anew, answer}
use Rattle.rules.specs.Refusals.{of_train}
use Rattle.rules.proofs.Trains.{asked_idle, running_is, free_idle, free_unasked, route_of_lem}
use Rattle.rules.proofs.Validity.{Consistent}
use Rattle.rules.proofs.Changes.{grantable_facts, short_place}
use Rattle.rules.proofs.Grants.{Turn, grants_keep, granted_place}
use Rattle.rules.proofs.Possessions.{lent_possessed, back_unpossessed}
use Rattle.rules.proofs.Acceptance.{Taken, request, arrival, lending, return, by_verdict}
use Rattle.assurance.specs.Types.{Move, Message, Fa, Am, Lb, Record, State}
use Rattle.assurance.specs.Run.{Input, run}
use Rattle.assurance.specs.Observer.{Observer}
use Rattle.conduct.specs.Arrival.{is_new, new_frames, asks_section, gives_back, frames_told, most_frames}
use Rattle.assurance.proofs.Invariant.{Invariant}
use Rattle.assurance.proofs.Records.{changed_sum, lent_in, lent_change}
use Rattle.assurance.proofs.Exchanged.{Settled, answer_kept}
use Rattle.assurance.proofs.Told.{at_post, asked_told, authority_told}
use Rattle.conduct.proofs.LocalRuns.{settled_given}
use Rattle.conduct.proofs.Repeats.{repeat_told, new_told}

abbrev frames_of : Train → ℕ
frames_of x =
    distance x.route.start.0 x.at.0 + (reached_by x + of_bool (is_asked x.status))

abbrev pub frames_in : State → ℕ
frames_in s = sum_below s.trains (λ t. frames_of (train_of s t))

module _ (table : List ℕ) where
  -- a grant adds none
  granted_frames : (n : ℕ) (w : Work) (t : ℕ) → frames_in w.state ≡ n → Turn table w t
      → frames_in (granted w t).state ≡ n
  granted_frames n w t b f =
      let s = w.state in
      let asks = (grantable_facts table s t f.can).asks in
      let one : frames_of (train_of s t) ≡ frames_of (granting s t) =
      rw (asks, asked_idle (train_of s t).status asks) (omega arith) in
      omega (
        arith,
        changed_sum frames_of s t (granting s t) (s.logged + 1) f.known
            (granted_place table w t f),
      )

  settled_frames : (n : ℕ) (w : Work) → frames_in w.state ≡ n → frames_in (settled table w).state ≡ n
  settled_frames n w = grants_keep table (λ v. frames_in v.state ≡ n) (granted_frames n) w.state.trains w

  -- nor does an AFE, nor anything that a record logged alone leaves
  declined_keeps : (f : State → ℕ) → ((s : State) → f (one_logged s) ≡ f s) → (m : Move) (w : Work)
      → f (declined m w).state ≡ f w.state
  declined_keeps f same m w = by_cases (is_asked (train_of w.state m.train.0).status)
      (λ q. rw q (same w.state))
      (λ q. rw q)

  -- a new frame of a train is one more
  accepted_frames : (s : State) → Consistent s → (a : Message) → Taken s a
      → frames_in (anew table s a).state ≡ frames_in s + of_bool (of_train a)
  unfolding anew
  accepted_frames s d a (request m q free) =
      let t = m.train.0 in
      let x = with_status (train_of s t) (Asked s.logged) in
      let w = (train_of s t).status in
      let one : frames_of (train_of s t) + 1 ≡ frames_of x = rw (free_unasked w free, free_idle w free) (omega arith) in
      let c = changed_sum frames_of s t x (s.logged + 1) q.known (short_place s t q.short) in
      declined_keeps frames_in (λ v. refl) m (settled table (taken s (Fa m) x))
      ∙ settled_frames (frames_in s + 1) (taken s (Fa m) x) (omega arith)
  accepted_frames s d a (arrival m q runs) =
      let t = m.train.0 in
      let x = arrived_next s.sidings (train_of s t) in
      let far = next_travelled _ _ _ (d.each t q.known).inside q.short in
      let one : frames_of (train_of s t) + 1 ≡ frames_of x =
      rw (running_is (train_of s t).status runs).1 (omega (arith, far)) in
      let c = changed_sum frames_of s t x (s.logged + 1) q.known (short_place s t q.short) in
      settled_frames (frames_in s + 1) (taken s (Am m) x) (omega arith)
  accepted_frames s d a (lending m q free few) = omega arith
  accepted_frames s d a (return m q held) =
      settled_frames (frames_in s + 0) (begun (with_possession s m.from.0 false s.given) (record_of (Lb m)))
      (omega arith)

  -- ---- of gangs

  pub accepted_given : (s : State) (a : Message) → Taken s a
      → (anew table s a).state.given ≡ s.given + of_bool (asks_section a)
  unfolding anew
  accepted_given s a (request m q free) =
      let w = taken s (Fa m) (with_status (train_of s m.train.0) (Asked s.logged)) in
      declined_keeps (λ v. v.given) (λ v. refl) m (settled table w) ∙ settled_given table w ∙ omega arith
  accepted_given s a (arrival m q runs) =
      settled_given table (taken s (Am m) (arrived_next s.sidings (train_of s m.train.0))) ∙ omega arith
  accepted_given s a (lending m q free few) = refl
  accepted_given s a (return m q held) =
      settled_given table (begun (with_possession s m.from.0 false s.given) (record_of (Lb m))) ∙ omega arith

  settled_lent : (w : Work) → lent_in (settled table w).state ≡ lent_in w.state
  settled_lent w =
      grants_keep table (λ v. lent_in v.state ≡ lent_in w.state) (λ v t e f. e) w.state.trains w refl

  pub accepted_lent : (s : State) → Consistent s → length s.possessions ≡ 7 → (a : Message) → Taken s a
      → of_bool (asks_section a) + lent_in s ≡ of_bool (gives_back a) + lent_in (anew table s a).state
  unfolding anew
  accepted_lent s d seven a (request m q free) =
      let w = taken s (Fa m) (with_status (train_of s m.train.0) (Asked s.logged)) in
      omega (arith, declined_keeps lent_in (λ v. refl) m (settled table w), settled_lent w)
  accepted_lent s d seven a (arrival m q runs) =
      omega (arith, settled_lent (taken s (Am m) (arrived_next s.sidings (train_of s m.train.0))))
  accepted_lent s d seven a (lending m q free few) =
      let i = m.from.0 in
      let place : i < length s.possessions = rw seven (omega (arith, q.on, d.line.few_posts)) in
      let c = lent_change s i true (s.given + 1) (omega (arith, q.on)) in
      let has = ap of_bool (lent_possessed s i (s.given + 1) q.on place) in
      omega (arith, free)
  accepted_lent s d seven a (return m q held) =
      let i = m.from.0 in
      let c = lent_change s i false s.given (omega (arith, q.on)) in
      let had = ap of_bool held in
      let none = ap of_bool (back_unpossessed s i s.given) in
      omega (arith, settled_lent (begun (with_possession s i false s.given) (record_of (Lb m))))

  -- ---- a run

  -- a number of the state that each new frame of a kind raises by one counts them
  run_counts : (kind : Message → Bool) (f : State → ℕ)
      → ((s : State) → Consistent s → (a : Message) → Taken s a → f (anew table s a).state ≡ f s + of_bool (kind a))
      → (is : List Input) (s : State) (j : List Record) (o : Observer) → Settled table s j o
      → let r = run table s j is in new_frames kind o r.exchanges + f s ≡ f r.state
  unfolding run new_frames
  run_counts kind f raises [] s j o k = omega arith
  run_counts kind f raises (i ∷ is) s j o k =
      let a = answer s table j i.frame i.out in
      let after = (answer_kept table s j o k i.frame i.out).after in
      omega (arith, one, run_counts kind f raises is a.state a.journal _ after)
    where
      one : let a = answer s table j i.frame i.out in
          of_bool (is_new kind o i.frame a.verdict) + f s ≡ f a.state
      one = by_verdict s table j i.frame i.out
          (λ a. of_bool (is_new kind o i.frame a.verdict) + f s ≡ f a.state)
          (λ n e. omega arith)
          (λ p answers r. rw (repeat_told table s j o k.kept (read_frame i.frame) answers r) (omega arith))
          (λ p t. rw (new_told table s j o k.kept (read_frame i.frame) t)
          (omega (arith, raises s p.valid_state (read_frame i.frame) t)))

  pub run_frames : (is : List Input) (s : State) (j : List Record) (o : Observer) → Settled table s j o
      → let r = run table s j is in new_frames of_train o r.exchanges + frames_in s ≡ frames_in r.state
  run_frames = run_counts of_train frames_in accepted_frames

  pub run_given : (is : List Input) (s : State) (j : List Record) (o : Observer) → Settled table s j o
      → let r = run table s j is in new_frames asks_section o r.exchanges + s.given ≡ r.state.given
  run_given = run_counts asks_section (λ s. s.given) (λ s d a t. accepted_given s a t)

  -- the LAs are the LBs and the sections that gangs still have
  pub run_lent : (is : List Input) (s : State) (j : List Record) (o : Observer) → Settled table s j o
      → let r = run table s j is in
      new_frames asks_section o r.exchanges + lent_in s ≡ new_frames gives_back o r.exchanges + lent_in r.state
  unfolding run new_frames
  run_lent [] s j o k = refl
  run_lent (i ∷ is) s j o k =
      let a = answer s table j i.frame i.out in
      let after = (answer_kept table s j o k i.frame i.out).after in
      omega (arith, one, run_lent is a.state a.journal _ after)
    where
      one : let a = answer s table j i.frame i.out in
          of_bool (is_new asks_section o i.frame a.verdict) + lent_in s
          ≡ of_bool (is_new gives_back o i.frame a.verdict) + lent_in a.state
      one = by_verdict s table j i.frame i.out
          (λ a. of_bool (is_new asks_section o i.frame a.verdict) + lent_in s
          ≡ of_bool (is_new gives_back o i.frame a.verdict) + lent_in a.state)
          (λ n e. refl)
          (λ p answers r. rw (repeat_told table s j o k.kept (read_frame i.frame) answers r))
          (λ p t. rw (new_told table s j o k.kept (read_frame i.frame) t)
          (accepted_lent s p.valid_state k.kept.seven (read_frame i.frame) t))

  pub lent_told : (s : State) (j : List Record) (o : Observer) → Invariant table s j o
      → lent_in s ≡ sum_below s.posts o.gangs
  lent_told s j o inv =
      count_sum s.posts (possessed s) ∙ sum_cong s.posts _ o.gangs (λ i k. sym (inv.gangs i))

  pub frames_told_lem : (s : State) (j : List Record) (o : Observer) → Invariant table s j o
      → frames_in s ≡ sum_below s.trains (frames_told (line_of s) o)
  frames_told_lem s j o inv = sum_cong s.trains (λ t. frames_of (train_of s t)) (frames_told (line_of s) o) (λ t kt.
      rw (
        at_post table s j o inv t kt,
        route_of_lem s t,
        asked_told table s j o inv t kt,
        authority_told table s j o inv t kt,
      ))

-- no train has more than two for each post of its way
pub frames_within : (s : State) → Consistent s → frames_in s ≤ most_frames (line_of s)
frames_within s d = sum_mono s.trains (λ t. frames_of (train_of s t)) (λ t. 2 * distance_of (line_of s) t) (λ t kt.
    rw (route_of_lem s t) (at t kt (train_of s t).status refl))
  where
    at : (t : ℕ) → t < s.trains → (w : Status) → (train_of s t).status ≡ w
        → let x = train_of s t in
        let far = distance x.route.start.0 x.at.0 in
        far + ((far + of_bool (is_running w)) + of_bool (is_asked w))
        ≤ 2 * distance x.route.start.0 x.route.end.0
    at t kt Free e = omega (arith, travelled_within _ _ _ (d.each t kt).inside)
    at t kt (Asked n) e = omega (arith, next_within _ _ _ (d.each t kt).inside ((d.each t kt).busy (rw e)))
    at t kt (Running k) e = omega (arith, next_within _ _ _ (d.each t kt).inside ((d.each t kt).busy (rw e)))

pub few_frames : (s : State) → Consistent s → most_frames (line_of s) ≤ 84
few_frames s d =
    let all = sum_le s.trains 14 (λ t. 2 * distance_of (line_of s) t)
    (λ t kt. omega (arith, short_route (line_of s) d.line t kt)) in
    omega (arith, mul-le-mul_right 14 d.line.few_trains)
