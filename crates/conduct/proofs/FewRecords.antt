-- The journal cannot fill up. Each move has at most four records (`PerMove`), and a local run LA, LE and LB: both are
-- kept by every new frame, and so hold after a run (`Counted`). The journal count is at most what the trains and the
-- local runs can have taken so far (`Records`, assurance), which the observer tells.
use mathlib.Core.Path.{◌≡◌, refl, sym, ap, subst, ◌∙◌}
use mathlib.Core.Bool.{false}
use mathlib.Core.List.{List}
use Prim.Native.Nat.{ℕ, ◌+◌, ◌*◌, ◌≤◌, ◌<◌}
use native.Mathlib.Omega.{arith}
use lib.ListN.{length}
use borrow.Author.Tests.{ne_eqb, eq-eqb}
use Rattle.common.specs.Below.{of_bool, count_below, sum_below}
use Rattle.common.proofs.Tests.{by_cases}
use Rattle.common.proofs.Below.{count_none}
use Rattle.common.proofs.Sums.{sum_cong, sum_mono, sum_scaled}
use Rattle.line.specs.Book.{line_in}
use Rattle.journal.specs.Journal.{record_of}
use Rattle.completion.specs.Configuration.{distance_of}
use Rattle.completion.specs.Table.{filled}
use Rattle.rules.specs.declared.state.Status.{Status}
use Rattle.rules.specs.declared.state.Status.TheVariants.{Free, Asked, Running}
use Rattle.rules.specs.State.{is_asked, next_of, train_of, line_of, possessed, with_status, arrived_next}
use Rattle.rules.specs.State.{with_possession}
use Rattle.rules.specs.Granting.{Work, begun, grant_record, settled}
use Rattle.rules.specs.Valid.{most_given}
use Rattle.rules.specs.Answer.{gang_byte, taken, declined, anew}
use Rattle.rules.specs.Opening.{Opening, opened_state}
use Rattle.rules.proofs.Trains.{route_of_lem}
use Rattle.rules.proofs.Validity.{Consistent}
use Rattle.rules.proofs.Grants.{grants_keep}
use Rattle.rules.proofs.Acceptance.{Taken, request, arrival, lending, return}
use Rattle.assurance.specs.Types.{Line, Move, Message, Fa, Afe, Am, La, Le, Lb, Record, State}
use Rattle.assurance.specs.Run.{Input, Ran, records_like, run}
use Rattle.assurance.specs.Observer.{Observer, at_opening, observe}
use Rattle.conduct.specs.Arrival.{new_count, asks_section, gives_back}
use Rattle.conduct.specs.FewRecords.{is_of_move, is_of_gang, records_for, records_told, FewRecords}
use Rattle.conduct.specs.FewRecords.{JournalNeverFull}
use Rattle.assurance.proofs.Invariant.{claim_of, Invariant}
use Rattle.assurance.proofs.Records.{asked_for, records_of, lent_in, records_within}
use Rattle.assurance.proofs.Exchanged.{Settled}
use Rattle.assurance.proofs.Opened.{opening_accepted, opened_line_lem, opened_unlent, opened_settled}
use Rattle.assurance.proofs.Ran.{run_kept}
use Rattle.assurance.proofs.Told.{seen}
use Rattle.conduct.proofs.Accepted.{accepted_given, accepted_lent, run_given, lent_told, few_frames}
use Rattle.conduct.proofs.Counted.{count_in, count_one, count_more, run_keeps}
use Rattle.conduct.proofs.PerMove.{Few, accepted_few}

-- ---- of gangs

abbrev of_gangs : List Record → ℕ
of_gangs = count_in is_of_gang

-- a record of a train is none
of_train_lem : (r : Record) → r.train.0 < gang_byte → of_bool (is_of_gang r) ≡ 0
of_train_lem r h = ap of_bool (ne_eqb r.train.0 gang_byte (λ e. omega arith))

of_gang_lem : (r : Record) → r.train.0 ≡ gang_byte → of_bool (is_of_gang r) ≡ 1
of_gang_lem r h = ap of_bool (eq-eqb r.train.0 gang_byte h)

module _ (table : List ℕ) where
  -- the granting logs none
  settled_gangs : (w : Work) → w.state.trains ≤ 6 → of_gangs (settled table w).logged ≡ of_gangs w.logged
  unfolding record_of
  settled_gangs w few =
      (grants_keep table (λ v. (of_gangs v.logged ≡ of_gangs w.logged) × (v.state.trains ≤ 6))
      (λ v u k f. (
        omega (
          arith,
          count_more is_of_gang v.logged (grant_record v.state u),
          of_train_lem (grant_record v.state u) (omega (arith, f.known)),
        ),
        k.1,
      ))
      w.state.trains w (refl, few)).0

  -- nor does the AFE
  declined_gangs : (m : Move) (w : Work) → m.train.0 < gang_byte
      → of_gangs (declined m w).logged ≡ of_gangs w.logged
  unfolding record_of
  declined_gangs m w low = by_cases (is_asked (train_of w.state m.train.0).status)
      (λ e. rw e (omega (
        arith,
        count_more is_of_gang w.logged (record_of (Afe m)),
        of_train_lem (record_of (Afe m)) low,
      )))
      (λ e. rw e)

  -- LA and its LE are two, and LB is one
  accepted_gangs : (s : State) → Consistent s → (a : Message) → Taken s a
      → of_gangs (anew table s a).logged ≡ 2 * of_bool (asks_section a) + of_bool (gives_back a)
  unfolding anew record_of
  accepted_gangs s d a (request m k free) =
      let w = taken s (Fa m) (with_status (train_of s m.train.0) (Asked s.logged)) in
      let low : m.train.0 < gang_byte = omega (arith, k.known, d.line.few_trains) in
      declined_gangs m (settled table w) low ∙ settled_gangs w d.line.few_trains
      ∙ count_one is_of_gang (record_of (Fa m)) ∙ of_train_lem (record_of (Fa m)) low
  accepted_gangs s d a (arrival m k runs) =
      let low : m.train.0 < gang_byte = omega (arith, k.known, d.line.few_trains) in
      settled_gangs (taken s (Am m) (arrived_next s.sidings (train_of s m.train.0))) d.line.few_trains
      ∙ count_one is_of_gang (record_of (Am m)) ∙ of_train_lem (record_of (Am m)) low
  accepted_gangs s d a (lending m k free few) =
      let w = begun s (record_of (La m)) in
      omega (
        arith,
        count_more is_of_gang w.logged (record_of (Le m)),
        count_one is_of_gang (record_of (La m)),
        of_gang_lem (record_of (La m)) k.gang,
      )
  accepted_gangs s d a (return m k held) =
      settled_gangs (begun (with_possession s m.from.0 false s.given) (record_of (Lb m))) d.line.few_trains
      ∙ count_one is_of_gang (record_of (Lb m)) ∙ of_gang_lem (record_of (Lb m)) k.gang

-- three for each section lent, but the LB of one that a gang has
abbrev Paid : State → ℕ → Type 0
Paid s n = n + lent_in s ≡ 3 * s.given

accepted_paid : (table : List ℕ) (s : State) → Consistent s → length s.possessions ≡ 7 → (a : Message) → Taken s a
    → (n : ℕ) → Paid s n → let w = anew table s a in Paid w.state (n + of_gangs w.logged)
accepted_paid table s d seven a t n h =
    omega (arith, accepted_given table s a t, accepted_lent table s d seven a t, accepted_gangs table s d a t)

-- ---- told by the observer

claimed : (w : Status) (p q : ℕ) → records_for (claim_of w p q) ≡ asked_for w
claimed Free p q = refl
claimed (Asked n) p q = refl
claimed (Running k) p q = refl

records_told_lem : (table : List ℕ) (s : State) (j : List Record) (o : Observer) → Invariant table s j o
    → sum_below s.trains (λ t. records_of (train_of s t)) ≡ sum_below s.trains (records_told (line_of s) o)
records_told_lem table s j o inv =
    sum_cong s.trains (λ t. records_of (train_of s t)) (records_told (line_of s) o) (λ t kt.
    let x = train_of s t in
    rw (seen table s j o inv t kt, route_of_lem s t, claimed x.status x.at.0 (next_of x)) (omega arith))

-- ---- a run from an empty journal

module _ (table : List ℕ) (inputs : List Input) (s : State) (j : List Record) (o : Observer) (k : Settled table s j o)
    (none : s.logged ≡ 0) where
  abbrev r : Ran
  r = run table s j inputs

  run_four : (t p q : ℕ) → t < gang_byte → records_like (is_of_move t p q) r ≤ 4
  unfolding count_below
  run_four t p q low =
      (run_keeps (is_of_move t p q) table (λ v n. Few p (train_of v t) n)
      (λ v d seven. accepted_few table t p q low v d) inputs s j o k
      (rw none (record { ahead = λ h. refl; here = λ z. omega arith; most = omega arith }))).most

  run_paid : s.given ≡ 0 → lent_in s ≡ 0 → records_like is_of_gang r + lent_in r.state ≡ 3 * r.state.given
  unfolding count_below
  run_paid none_given none_lent =
      run_keeps is_of_gang table Paid (accepted_paid table) inputs s j o k (rw none (omega arith))

-- what the state has, the observer tells
few_told : (table : List ℕ) (r : Ran) (o : Observer) → Settled table r.state r.journal o
    → new_count asks_section (line_of r.state) r ≡ r.state.given
    → ((t p q : ℕ) → t < gang_byte → records_like (is_of_move t p q) r ≤ 4)
    → records_like is_of_gang r + lent_in r.state ≡ 3 * r.state.given
    → FewRecords (line_of r.state) r o
few_told table r o k given four paid =
    let s = r.state in
    let d = k.kept.valid_state in
    let moves = distance_of (line_of s) in
    let lent = lent_told table s r.journal o k.kept in
    let told = records_told_lem table s r.journal o k.kept in
    let within = sum_mono s.trains (λ t. records_of (train_of s t)) (λ t. 4 * moves t) (records_within s d) in
    let few : s.logged + sum_below s.posts o.gangs ≤ 4 * sum_below s.trains moves + 3 * most_given =
    omega (arith, k.bounded, d.few_given, sum_scaled s.trains 4 moves) in
    let most : sum_below s.trains moves ≤ 42 = omega (arith, few_frames s d, sum_scaled s.trains 2 moves) in
    record {
      four = λ t p q h. omega (arith, four t p q (omega (arith, h)));
      moves = omega arith;
      gangs = omega arith;
      sixty = omega (arith, d.few_given);
      counted = omega (arith, k.bounded);
      in_all = omega arith;
      at_most_228 = omega arith;
    }

few_records_in : (l : Line) (table : List ℕ) (s : State) (j : List Record) (inputs : List Input)
    → Settled table s j (at_opening l) → line_of s ≡ l → s.logged ≡ 0 → s.given ≡ 0 → lent_in s ≡ 0
    → let r = run table s j inputs in FewRecords l r (observe (at_opening l) r.exchanges)
few_records_in l table s j inputs k line none none_given none_lent =
    let r = run table s j inputs in
    let o = at_opening l in
    let kept = run_kept table inputs s j o k in
    let same : line_of r.state ≡ l = kept.line ∙ line in
    let given : new_count asks_section l r ≡ r.state.given = omega (arith, run_given table inputs s j o k) in
    subst (λ (z : Line). FewRecords z r (observe o r.exchanges)) same
    (few_told table r (observe o r.exchanges) kept.after
    (subst (λ (z : Line). new_count asks_section z r ≡ r.state.given) (sym same) given)
    (run_four table inputs s j o k none)
    (run_paid table inputs s j o k none none_given none_lent))

pub journal_never_full : JournalNeverFull
journal_never_full book table journal inputs e =
    let l = line_in book in
    let a = opening_accepted book table journal e in
    subst
    (λ (o : Opening).
    let r = run o.table o.state journal inputs in FewRecords l r (observe (at_opening l) r.exchanges))
    (sym a.0)
    (few_records_in l (filled l table) (opened_state l) journal inputs
    (opened_settled l table journal a.1 (opened_line_lem book)) (opened_line_lem book) refl refl
    (count_none l.posts (possessed (opened_state l)) (λ i h.
    opened_unlent l table journal a.1 (opened_line_lem book) i)))
