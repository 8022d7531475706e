-- How many records there can be. Each post travelled takes at most four, FA, AFE, FE and AM, so that a train's record
-- says how many it can have taken so far; a local run takes three, LA, LE and LB, of which the last is open while the
-- gang has the section. The journal's count is at most their sum: at most 228, since six trains travel at most seven
-- posts each, and at most twenty local runs are given. Every new frame raises the sum. For any table.
use mathlib.Core.Path.{◌≡◌, refl, sym, ap}
use mathlib.Core.Bool.{Bool, true, false, false≢true}
use mathlib.Core.List.{List}
use Prim.Native.Nat.{ℕ, ◌+◌, ◌*◌, ◌≤◌, ◌<◌}
use native.Mathlib.Nat.{mul-le-mul_right}
use native.Mathlib.Omega.{arith}
use lib.ListN.{length}
use Rattle.common.specs.Below.{of_bool, count_below, sum_below}
use Rattle.common.proofs.Tests.{by_cases}
use Rattle.common.proofs.Below.{count_change}
use Rattle.common.proofs.Sums.{sum_change, sum_le}
use Rattle.line.specs.Route.{distance}
use Rattle.line.proofs.Travel.{travelled_within, next_within, next_travelled}
use Rattle.line.proofs.WellFormed.{short_route}
use Rattle.completion.specs.Configuration.{distance_of}
use Rattle.rules.specs.declared.state.Status.{Status}
use Rattle.rules.specs.declared.state.Status.TheVariants.{Free, Asked, Running}
use Rattle.rules.specs.declared.state.Train.{Train}
use Rattle.journal.specs.Journal.{record_of}
use Rattle.rules.specs.State.{is_free, is_asked, is_running, train_of, line_of, possessed, with_status, arrived_next}
use Rattle.rules.specs.State.{with_possession}
use Rattle.rules.specs.Granting.{Work, begun, granted, settled, granting}
use Rattle.rules.specs.Answer.{taken, declined, anew}
use Rattle.rules.proofs.Trains.{running_is, route_of_lem, changed, changed_own, changed_other}
use Rattle.rules.proofs.Validity.{Consistent}
use Rattle.rules.proofs.Changes.{grantable_facts, short_place}
use Rattle.rules.proofs.Grants.{Turn, grants_keep, granted_place}
use Rattle.rules.proofs.Possessions.{others_possessed, lent_possessed, back_unpossessed}
use Rattle.rules.proofs.Acceptance.{Taken, request, arrival, lending, return}
use Rattle.assurance.specs.Types.{Move, Message, Fa, Am, Lb, State}

-- ---- one train

-- FA and AFE; then FE
abbrev pub asked_for : Status → ℕ
asked_for Free = 0
asked_for (Asked n) = 2
asked_for (Running k) = 3

abbrev pub records_of : Train → ℕ
records_of x = 4 * distance x.route.start.0 x.at.0 + asked_for x.status

pub free_none : (w : Status) → is_free w ≡ true → asked_for w ≡ 0
free_none Free e = refl
free_none (Asked n) e = absurd (false≢true e)
free_none (Running k) e = absurd (false≢true e)

pub asked_two : (w : Status) → is_asked w ≡ true → asked_for w ≡ 2
asked_two Free e = absurd (false≢true e)
asked_two (Asked n) e = refl
asked_two (Running k) e = absurd (false≢true e)

pub most_three : (w : Status) → asked_for w ≤ 3
most_three Free = omega arith
most_three (Asked n) = omega arith
most_three (Running k) = omega arith

neither : (w : Status) → is_asked w ≡ false → is_running w ≡ false → is_free w ≡ true
neither Free a b = refl
neither (Asked n) a b = absurd (false≢true (sym a))
neither (Running k) a b = absurd (false≢true (sym b))

-- ---- all trains

abbrev pub records_in : State → ℕ
records_in s = sum_below s.trains (λ t. records_of (train_of s t)) + 3 * s.given

-- the sections that gangs have: the LB of each is not logged yet
abbrev pub lent_in : State → ℕ
lent_in s = count_below s.posts (possessed s)

-- the count is at most that, with e to spare, and that is at least n
pub record Bounded (e n : ℕ) (s : State) : Type 0 where
  pub spare : s.logged + lent_in s + e ≤ records_in s
  pub raised : n + lent_in s ≤ records_in s

-- a sum over the trains, where one train's record changes
pub changed_sum : (f : Train → ℕ) (s : State) (t : ℕ) (x : Train) (n : ℕ) → t < s.trains → t < length s.fleet
    → sum_below s.trains (λ u. f (train_of (changed s t x n) u)) + f (train_of s t)
    ≡ sum_below s.trains (λ u. f (train_of s u)) + f x
changed_sum f s t x n k l =
    let c = sum_change s.trains (λ u. f (train_of s u)) (λ u. f (train_of (changed s t x n) u)) t k
    (λ u ku h. ap f (changed_other s t x n u h)) in
    let e : f (train_of (changed s t x n) t) ≡ f x = ap f (changed_own s t x n l) in
    omega arith

-- four for each post of its way are enough for every train
pub records_within : (s : State) → Consistent s → (t : ℕ) → t < s.trains
    → records_of (train_of s t) ≤ 4 * distance_of (line_of s) t
records_within s d t k =
    let x = train_of s t in
    rw (route_of_lem s t)
    (by_cases (is_free x.status)
    (λ e. omega (arith, free_none x.status e, travelled_within _ _ _ (d.each t k).inside))
    (λ e. omega (arith, most_three x.status, next_within _ _ _ (d.each t k).inside ((d.each t k).busy e))))

pub few_records : (s : State) → Consistent s → records_in s ≤ 228
few_records s d =
    let all = sum_le s.trains 28 (λ t. records_of (train_of s t)) (λ t k.
    omega (arith, records_within s d t k, short_route (line_of s) d.line t k)) in
    omega (arith, mul-le-mul_right 28 d.line.few_trains, d.few_given)

-- ---- a new frame

module _ (table : List ℕ) (e n : ℕ) where
  granted_bounded : (w : Work) (t : ℕ) → Bounded e n w.state → Turn table w t → Bounded e n (granted w t).state
  granted_bounded w t b f =
      let two = asked_two (train_of w.state t).status (grantable_facts table w.state t f.can).asks in
      let c =
      changed_sum records_of w.state t (granting w.state t) (w.state.logged + 1) f.known
      (granted_place table w t f) in
      record { spare = omega (arith, b.spare); raised = omega (arith, b.raised) }

  settled_bounded : (w : Work) → Bounded e n w.state → Bounded e n (settled table w).state
  settled_bounded w = grants_keep table (λ v. Bounded e n v.state) granted_bounded w.state.trains w

-- an AFE is paid for by the request
declined_bounded : (n : ℕ) (m : Move) (w : Work) → Bounded 1 n w.state → Bounded 0 n (declined m w).state
declined_bounded n m w b = by_cases (is_asked (train_of w.state m.train.0).status)
    (λ q. rw q (record { spare = omega (arith, b.spare); raised = b.raised }))
    (λ q. rw q (record { spare = omega (arith, b.spare); raised = b.raised }))

-- a section that is lent or given back
pub lent_change : (s : State) (i : ℕ) (held : Bool) (n : ℕ) → i < s.posts
    → let b = with_possession s i held n in lent_in b + of_bool (possessed s i) ≡ lent_in s + of_bool (possessed b i)
lent_change s i held n k =
    count_change s.posts (possessed s) (possessed (with_possession s i held n)) i k
    (λ u ku h. others_possessed s i held n u h)

-- every new frame keeps the count bounded, and raises the bound
pub accepted_bounded : (table : List ℕ) (s : State) → Consistent s → length s.possessions ≡ 7
    → (a : Message) → Taken s a → (n : ℕ) → Bounded 0 n s → Bounded 0 (n + 1) (anew table s a).state
unfolding anew
accepted_bounded table s d seven a (request m q free) n b =
    let t = m.train.0 in
    let none = free_none (train_of s t).status free in
    let c =
    changed_sum records_of s t (with_status (train_of s t) (Asked s.logged)) (s.logged + 1) q.known
    (short_place s t q.short) in
    let w = taken s (Fa m) (with_status (train_of s t) (Asked s.logged)) in
    declined_bounded (n + 1) m (settled table w)
    (settled_bounded table 1 (n + 1) w
    (record { spare = omega (arith, b.spare); raised = omega (arith, b.raised) }))
accepted_bounded table s d seven a (arrival m q runs) n b =
    let t = m.train.0 in
    let x = arrived_next s.sidings (train_of s t) in
    let three : asked_for (train_of s t).status ≡ 3 = rw (running_is (train_of s t).status runs).1 in
    let c =
    changed_sum records_of s t x (s.logged + 1) q.known (short_place s t q.short) in
    let far = next_travelled _ _ _ (d.each t q.known).inside q.short in
    settled_bounded table 0 (n + 1) (taken s (Am m) x)
    (record { spare = omega (arith, b.spare); raised = omega (arith, b.raised) })
accepted_bounded table s d seven a (lending m q free few) n b =
    let i = m.from.0 in
    let c = lent_change s i true (s.given + 1) (omega (arith, q.on)) in
    let place : i < length s.possessions = rw seven (omega (arith, q.on, d.line.few_posts)) in
    let has : of_bool (possessed (with_possession s i true (s.given + 1)) i) ≡ 1 =
    ap of_bool (lent_possessed s i (s.given + 1) q.on place) in
    record { spare = omega (arith, b.spare); raised = omega (arith, b.raised) }
accepted_bounded table s d seven a (return m q held) n b =
    let i = m.from.0 in
    let c = lent_change s i false s.given (omega (arith, q.on)) in
    let had : of_bool (possessed s i) ≡ 1 = ap of_bool held in
    let none : of_bool (possessed (with_possession s i false s.given) i) ≡ 0 =
    ap of_bool (back_unpossessed s i s.given) in
    settled_bounded table 0 (n + 1) (begun (with_possession s i false s.given) (record_of (Lb m)))
    (record { spare = omega (arith, b.spare); raised = omega (arith, b.raised) })
