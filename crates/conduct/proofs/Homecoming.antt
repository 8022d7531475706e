-- Every train can still come home. While a gang has a section, its LB is accepted; then, while a train is short of its
-- end, some such train is not waiting: its AM, or its FA, is accepted. Every new frame raises the number of
-- records that trains and gangs can have taken, which is at most 228, so that this ends, with every train at its end.
use mathlib.Core.Path.{◌≡◌, refl, ap, subst, ◌∙◌}
use mathlib.Core.Bool.{Bool, true, false, not}
use mathlib.Core.List.{List, [], ◌∷◌, ◌++◌}
use Prim.Native.Nat.{ℕ, zero, suc, ◌+◌, ◌-◌, ◌≤◌, ◌<◌}
use native.Mathlib.Omega.{arith}
use lib.ListN.{length, replicate, length-append}
use borrow.Author.Tests.{eqb-true, eqb-false, not-true, not-false}
use Rattle.common.specs.Below.{any_below}
use Rattle.common.proofs.Tests.{clash, by_cases, not_passed}
use Rattle.common.proofs.Below.{any_below_lem, below_any}
use Rattle.common.proofs.Check.{accepts}
use Rattle.line.specs.Line.{route_of}
use Rattle.line.specs.Book.{line_in}
use Rattle.frame.specs.Frame.{read_frame, bytes_of}
use Rattle.frame.specs.RoundTrip.{IsMessage}
use Rattle.frame.proofs.RoundTrip.{round_trip}
use Rattle.completion.specs.Table.{table_length, filled}
use Rattle.completion.proofs.Rule.{length_table}
use Rattle.rules.specs.State.{is_asked, is_running, at_end, train_of, line_of, possessed, next_move}
use Rattle.rules.specs.Answer.{out_length, accepted, answered, refused, answer}
use Rattle.rules.specs.Opening.{opened_state}
use Rattle.rules.proofs.Trains.{idle_free, route_of_lem}
use Rattle.rules.proofs.Possessions.{possessed_on}
use Rattle.rules.proofs.Acceptance.{NextMove, Taken, request, arrival, lending, return, taken_new, accepted_anew}
use Rattle.rules.proofs.Taking.{taken_accepted}
use Rattle.assurance.specs.Types.{Line, Message, Fa, Am, Lb, Record, State}
use Rattle.assurance.specs.Run.{Input, run}
use Rattle.assurance.specs.Observer.{Observer, at_opening, observe}
use Rattle.conduct.specs.Homecoming.{Homecoming}
use Rattle.conduct.specs.LocalRuns.{section_move}
use Rattle.assurance.proofs.Standstill.{Short, goes_on}
use Rattle.assurance.proofs.Exchanged.{Settled, valid_settled, answer_kept}
use Rattle.assurance.proofs.Records.{records_in, lent_in, few_records, accepted_bounded}
use Rattle.assurance.proofs.Opened.{opening_accepted, opened_line_lem, opened_settled}
use Rattle.assurance.proofs.Told.{at_post}
use Rattle.assurance.proofs.Ran.{RunKept, run_kept}

-- ---- one frame that is accepted

module _ (s : State) (u : ℕ) (known : u < s.trains) (short : Short s u) where
  pub next_move_lem : NextMove s (next_move s u)
  next_move_lem = record { known = known; short = short; from = refl; to = refl }

  -- a train that is short of its end and has not asked sends its next move's AM or FA
  next_frame : is_asked (train_of s u).status ≡ false → (a : Message) × Taken s a
  next_frame unasked = by_cases (is_running (train_of s u).status)
      (λ e. (Am (next_move s u), arrival (next_move s u) next_move_lem e))
      (λ e. (Fa (next_move s u), request (next_move s u) next_move_lem (idle_free (train_of s u).status unasked e)))

-- what is taken is a message
pub taken_message : (s : State) (a : Message) → Taken s a → IsMessage a
unfolding IsMessage
taken_message s a (request m q free) = tt
taken_message s a (arrival m q runs) = tt
taken_message s a (lending m q free few) = tt
taken_message s a (return m q held) = tt

abbrev buffer : List ℕ
buffer = replicate out_length 0

abbrev sending : Message → Input
sending a = record { frame = bytes_of a; out = buffer }

-- the records that can have been taken, without the LBs of the sections that gangs have
abbrev worth : State → ℕ
worth s = records_in s - lent_in s

module _ (table : List ℕ) (long : table_length ≤ length table) where
  -- the answer raises it
  raises : (s : State) (j : List Record) (o : Observer) → Settled table s j o → (a : Message) → Taken s a
      → worth s < worth (answer s table j (bytes_of a) buffer).state
  unfolding answer
  raises s j o k a t =
      let read : read_frame (bytes_of a) ≡ a = round_trip.back a (taken_message s a t) in
      let e =
      taken_accepted s table j buffer (valid_settled k) long k.kept.room (omega arith) a t in
      let b = (accepted_bounded table s k.kept.valid_state k.kept.seven a t (worth s)
      (record { spare = omega (arith, k.bounded); raised = omega (arith, k.bounded) })).raised in
      rw (
        accepts (answered s.logged j buffer (accepted table s (read_frame (bytes_of a)))) (refused s j buffer) e,
        read,
        accepted_anew table s a (taken_new s k.kept.valid_state a t),
      ) (omega arith)

  -- ---- until every train is at its end

  record ComesHome (s : State) (j : List Record) : Type 0 where
    inputs : List Input
    home : (t : ℕ) → t < s.trains
        → let r = run table s j inputs in (train_of r.state t).at.0 ≡ (train_of r.state t).route.end.0

  -- one frame more, then the rest
  goes_home : (s : State) (j : List Record) (o : Observer) → Settled table s j o → (a : Message)
      → (let b = answer s table j (bytes_of a) buffer in ComesHome b.state b.journal) → ComesHome s j
  unfolding run
  goes_home s j o k a h =
      let same = (answer_kept table s j o k (bytes_of a) buffer).line in
      record { inputs = sending a ∷ h.inputs; home = λ t l. h.home t (rw (ap (λ (z : Line). z.trains) same) l) }

  -- the LB of a section that a gang has
  give_back : (s : State) (j : List Record) (o : Observer) → Settled table s j o → (i : ℕ) → possessed s i ≡ true
      → (a : Message) × Taken s a
  give_back s j o k i held = (
    Lb (section_move i),
    return (section_move i)
        (record { gang = refl; upper = refl; on = possessed_on s i held })
        held,
  )

  none_lent : (s : State) → any_below s.posts (possessed s) ≡ false → (i : ℕ) → possessed s i ≡ false
  none_lent s e i = not_passed (possessed s i) (λ p.
      clash (any_below s.posts (possessed s))
      (below_any s.posts (possessed s) i (omega (arith, possessed_on s i p)) p) e)

  short_train : State → ℕ → Bool
  short_train s t = not (at_end (train_of s t))

  -- all are there, or an accepted frame brings them nearer
  nearer : (s : State) (j : List Record) (o : Observer) → Settled table s j o
      → ((a : Message) → Taken s a → ComesHome s j) → ComesHome s j
  unfolding run short_train
  nearer s j o k step = by_cases (any_below s.trains (short_train s))
      (λ e. by_cases (any_below s.posts (possessed s))
      (λ z.
      let i = any_below_lem s.posts (possessed s) z in
      let a = give_back s j o k i.0 i.2 in
      step a.0 a.1)
      (λ z.
      let f = any_below_lem s.trains (short_train s) e in
      let g =
      goes_on table s k.kept.valid_state k.kept.right k.kept.completable (none_lent s z) k.nobody
      f.0 f.1 (eqb-false _ _ (not-true _ f.2)) in
      let a = next_frame s g.0 g.1 g.2 g.3 in
      step a.0 a.1))
      (λ e. record {
        inputs = [];
        home = λ t l. eqb-true _ _ (not-false (at_end (train_of s t)) (not_passed (short_train s t) (λ p.
            clash (any_below s.trains (short_train s)) (below_any s.trains (short_train s) t l p) e)));
      })

  -- n bounds what the records can still rise by
  comes_home : (n : ℕ) (s : State) (j : List Record) (o : Observer) → Settled table s j o
      → 228 ≤ worth s + n → ComesHome s j
  comes_home zero s j o k few = nearer s j o k (λ a t.
      let more = raises s j o k a t in
      let after = few_records _ (answer_kept table s j o k (bytes_of a) buffer).after.kept.valid_state in
      absurd (omega arith))
  comes_home (suc n) s j o k few = nearer s j o k (λ a t.
      let more = raises s j o k a t in
      goes_home s j o k a (comes_home n _ _ _ (answer_kept table s j o k (bytes_of a) buffer).after (omega arith)))

-- ---- runs one after the other

run_append : (table : List ℕ) (is more : List Input) (s : State) (j : List Record)
    → (run table s j (is ++ more)).state ≡ (let r = run table s j is in (run table r.state r.journal more).state)
unfolding run
run_append table [] more s j = refl
run_append table (i ∷ is) more s j =
    let a = answer s table j i.frame i.out in
    run_append table is more a.state a.journal

-- after any list of frames from a settled state on
home_after : (table : List ℕ) → table_length ≤ length table → (s : State) (j : List Record) (o : Observer)
    → Settled table s j o
    → (inputs : List Input) → (further : List Input)
    × ((t : ℕ) → t < s.trains
    → ((observe o (run table s j (inputs ++ further)).exchanges).train t).post ≡ (route_of (line_of s) t).end.0)
home_after table long s j o k inputs = (h.inputs, told)
  where
    kept : RunKept table s j o (run table s j inputs)
    kept = run_kept table inputs s j o k

    h : ComesHome table long (run table s j inputs).state (run table s j inputs).journal
    h = comes_home table long 228 _ _ _ kept.after (omega arith)

    line : line_of (run table s j (inputs ++ h.inputs)).state ≡ line_of s
    line = (run_kept table (inputs ++ h.inputs) s j o k).line

    there : (z : State)
        → z ≡ (let r = run table s j inputs in (run table r.state r.journal h.inputs).state)
        → line_of z ≡ line_of s → (t : ℕ) → t < s.trains → (train_of z t).at.0 ≡ (route_of (line_of s) t).end.0
    there z e same t l =
        let before : t < (run table s j inputs).state.trains = rw (ap (λ (v : Line). v.trains) kept.line) l in
        let home : (train_of z t).at.0 ≡ (train_of z t).route.end.0 = rw e (h.home t before) in
        home ∙ rw (← route_of_lem z t) (ap (λ (v : Line). (route_of v t).end.0) same)

    told : (t : ℕ) → t < s.trains
        → ((observe o (run table s j (inputs ++ h.inputs)).exchanges).train t).post ≡ (route_of (line_of s) t).end.0
    told t l =
        at_post table _ _ _ (run_kept table (inputs ++ h.inputs) s j o k).after.kept t
        (rw (ap (λ (v : Line). v.trains) line) l)
        ∙ there _ (run_append table inputs h.inputs s j) line t l

pub long_table : (l : Line) (table : List ℕ) → table_length ≤ length (filled l table)
long_table l table = rw (length-append, length_table) (omega arith)

pub homecoming : Homecoming
homecoming book table journal inputs e =
    let l = line_in book in
    let a = opening_accepted book table journal e in
    let home = home_after (filled l table) (long_table l table) (opened_state l) journal (at_opening l)
    (opened_settled l table journal a.1 (opened_line_lem book)) inputs in
    let after : Line → Type 0 = λ v. (t : ℕ) → t < l.trains
    → ((observe (at_opening l) (run (filled l table) (opened_state l) journal (inputs ++ home.0)).exchanges).train
    t).post
    ≡ (route_of v t).end.0 in
    (home.0, rw a.0 (subst after (opened_line_lem book) home.1))
