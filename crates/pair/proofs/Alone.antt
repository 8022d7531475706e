-- Each end does in the pair what it does by itself: `specs/Alone.antt`, proved, step by step.
use mathlib.Core.Path.{◌≡◌, refl, sym, ap, subst, ◌∙◌}
use mathlib.Core.Logic.{◌≢◌, ◌⊎◌, inl, inr, ⊎_elim}
use mathlib.Core.Bool.{Bool, true, false, cond, ◌&&◌, false≢true}
use mathlib.Core.List.Memᴰ
use mathlib.Core.List.{List, [], ◌∷◌, ◌++◌, Memᴰ}
use Prim.Native.Nat.{ℕ}
use native.Mathlib.Omega.{arith}
use lib.Dec.{ltb}
use lib.ListN.{length}
use borrow.Author.Tests.{eq-eqb, ne_eqb}
use Rattle.std.specs.Prelude.{Option, None, Some}
use Rattle.common.proofs.Tests.{by_cases, by_equality}
use Rattle.common.proofs.Update.{update_own, update_other}
use Rattle.line.specs.Book.{line_in}
use Rattle.frame.specs.Frame.{read_frame, bytes_of}
use Rattle.driver.specs.State.{own_move}
use Rattle.driver.specs.Pressing.{last_sent, sent_bytes, carried_out, press_button}
use Rattle.driver.specs.History.{CabInput, press, frame, CabExchange, cab_exchange, after, after_all, cab_run}
use Rattle.driver.proofs.Outcomes.{PressOutcome, refused, accepted, press_outcome}
use Rattle.rules.specs.Refusals.{of_gang}
use Rattle.rules.specs.Opening.{opening}
use Rattle.rules.proofs.Frames.{bytes_length}
use Rattle.assurance.specs.Run.{Input, Exchange, exchange, run}
use Rattle.assurance.specs.Observer.{written_frames}
use Rattle.pair.specs.Types.{Message, Fa, Am, Button, Ask, Depart, Reached, Report, Again, Unit, Pressed}
use Rattle.pair.specs.Pair.{Pair, pair_of, PairEvent, pressed, called, to_unit, to_box, PairStep, at_box, at_unit}
use Rattle.pair.specs.Pair.{from_gang, nowhere, step_of}
use Rattle.pair.specs.Pair.{pressed_frames, unit_frames, answer_in, stepped, run_pair}
use Rattle.pair.specs.Channel.{MayHappen, to_box_lem, button, to_unit_lem, call, none}
use Rattle.pair.specs.Alone.{box_input, unit_input, box_inputs, unit_inputs, box_run, unit_run, Origin}
use Rattle.pair.specs.Alone.{of_box, of_unit, of_gang_lem, EachAlone}
use Rattle.pair.proofs.Channel.{happens, more_sent}

-- a step that is no gang's, whether its test passes or not
abbrev is_call : PairStep → Bool
is_call (at_box i) = false
is_call (at_unit t c) = false
is_call (from_gang f) = true
is_call nowhere = false

other_step : (b : Bool) (s : PairStep) {f : List ℕ} → is_call s ≡ false → cond b s nowhere ≢ from_gang f
other_step true s h e = false≢true (sym h ∙ ap is_call e)
other_step false s h e = false≢true (ap is_call e)

module _ (table : List ℕ) where
  -- ---- one step, and inputs after it

  module _ (p : Pair) where
    box_step : (s : PairStep) (rest : List Input)
        → let q = stepped table p s in
        let r = run table p.box p.journal (box_input s ++ rest) in
        let v = run table q.box q.journal rest in
        (r.state ≡ v.state) × (r.journal ≡ v.journal)
    unfolding run stepped
    box_step (at_box i) rest = (refl, refl)
    box_step (at_unit t c) rest = (refl, refl)
    box_step (from_gang f) rest = (refl, refl)
    box_step nowhere rest = (refl, refl)

    -- an exchange after the step is one of all
    box_later : (s : PairStep) (rest : List Input) (x : Exchange)
        → let q = stepped table p s in
        Memᴰ x (run table q.box q.journal rest).exchanges
        → Memᴰ x (run table p.box p.journal (box_input s ++ rest)).exchanges
    unfolding run stepped
    box_later (at_box i) rest x m = Memᴰ.tail m
    box_later (at_unit t c) rest x m = m
    box_later (from_gang f) rest x m = m
    box_later nowhere rest x m = m

    -- and one of all is after it or that of the step
    box_cases : (s : PairStep) (rest : List Input) (x : Exchange) (f : List ℕ)
        → let q = stepped table p s in
        Memᴰ x (run table p.box p.journal (box_input s ++ rest)).exchanges
        → Memᴰ f (written_frames x.verdict x.out)
        → Memᴰ x (run table q.box q.journal rest).exchanges ⊎ Memᴰ f q.sent
    unfolding run stepped
    box_cases (at_box i) rest x f m h = ⊎_elim
        (λ e. inr (Memᴰ.append_right p.sent
        (subst (λ (y : Exchange). Memᴰ f (written_frames y.verdict y.out)) e h)))
        (λ n. inl n)
        (Memᴰ.cases_cons m)
    box_cases (at_unit t c) rest x f m h = inl m
    box_cases (from_gang g) rest x f m h = inl m
    box_cases nowhere rest x f m h = inl m

    -- the same of a unit, whose input it is or not
    unit_step : (t : ℕ) (s : PairStep) (rest : List CabInput)
        → after_all (p.units t) (unit_input t s ++ rest) ≡ after_all ((stepped table p s).units t) rest
    unfolding after_all stepped
    unit_step t (at_box i) rest = refl
    unit_step t (at_unit u c) rest = by_equality t u
        (λ e. rw (e, eq-eqb u u refl, update_own p.units u (after (p.units u) c)))
        (λ e. rw (ne_eqb t u e, update_other p.units u (after (p.units u) c) t e))
    unit_step t (from_gang f) rest = refl
    unit_step t nowhere rest = refl

    unit_later : (t : ℕ) (s : PairStep) (rest : List CabInput) (x : CabExchange)
        → Memᴰ x (cab_run ((stepped table p s).units t) rest)
        → Memᴰ x (cab_run (p.units t) (unit_input t s ++ rest))
    unfolding cab_run stepped
    unit_later t (at_box i) rest x = λ m. m
    unit_later t (at_unit u c) rest x = by_equality t u
        (λ e. rw (e, eq-eqb u u refl, update_own p.units u (after (p.units u) c)) (λ m. Memᴰ.tail m))
        (λ e. rw (ne_eqb t u e, update_other p.units u (after (p.units u) c) t e) (λ m. m))
    unit_later t (from_gang f) rest x = λ m. m
    unit_later t nowhere rest x = λ m. m

    -- what a unit sends is among what is sent
    unit_sends : (u : Unit) (c : CabInput) → (cab_exchange u c).sent ≢ []
        → Memᴰ (cab_exchange u c).sent (unit_frames u c)
    unit_sends u (press b) h = at (press_button u b).frame refl
      where
        at : (s : Option (List ℕ)) → (press_button u b).frame ≡ s
            → Memᴰ (sent_bytes (press_button u b).frame) (pressed_frames (press_button u b))
        at (Some f) e = rw e (Memᴰ.head refl)
        at None e = absurd (h (rw e))
    unit_sends u (frame f) h = absurd (h refl)

    unit_cases : (t : ℕ) (s : PairStep) (rest : List CabInput) (x : CabExchange)
        → Memᴰ x (cab_run (p.units t) (unit_input t s ++ rest)) → x.sent ≢ []
        → Memᴰ x (cab_run ((stepped table p s).units t) rest) ⊎ Memᴰ x.sent (stepped table p s).sent
    unfolding cab_run stepped
    unit_cases t (at_box i) rest x = λ m h. inl m
    unit_cases t (at_unit u c) rest x = by_equality t u
        (λ e. rw (e, eq-eqb u u refl, update_own p.units u (after (p.units u) c)) (λ m h. ⊎_elim
        (λ q. inr (Memᴰ.append_right p.sent (rw q (unit_sends (p.units u) c (rw q at h)))))
        (λ n. inl n)
        (Memᴰ.cases_cons m)))
        (λ e. rw (ne_eqb t u e, update_other p.units u (after (p.units u) c) t e) (λ m h. inl m))
    unit_cases t (from_gang f) rest x = λ m h. inl m
    unit_cases t nowhere rest x = λ m h. inl m

    -- where a frame of a press comes from: it is what the exchange has as sent
    abbrev Gives : Pressed → List ℕ → Type 0
    Gives r f = (sent_bytes r.frame ≢ []) × (sent_bytes r.frame ≡ f)

    some_bytes : (a : Message) → bytes_of a ≢ []
    some_bytes a e = omega (arith, bytes_length a, ap length e)

    carried_gives : (u : Unit) (b : Button) (f : List ℕ) → Memᴰ f (pressed_frames (carried_out u b))
        → Gives (carried_out u b) f
    unfolding carried_out
    carried_gives u Ask f m = (some_bytes (Fa (own_move u)), sym (Memᴰ.eq_of_singleton m))
    carried_gives u Depart f m = absurd (Memᴰ.not-nil m)
    carried_gives u Reached f m = absurd (Memᴰ.not-nil m)
    carried_gives u Report f m = (some_bytes (Am (own_move u)), sym (Memᴰ.eq_of_singleton m))
    carried_gives u Again f m = (some_bytes (last_sent u), sym (Memᴰ.eq_of_singleton m))

    press_gives : {u : Unit} {b : Button} {r : Pressed} → PressOutcome u b r → (f : List ℕ)
        → Memᴰ f (pressed_frames r) → Gives r f
    press_gives (refused n) f m = absurd (Memᴰ.not-nil m)
    press_gives {u} {b} (accepted may permits) f m = carried_gives u b f m

  -- ---- a list

  pub box_alone : (p : Pair) (es : List PairEvent)
      → let q = run_pair table p es in
      ((box_run table p es).state ≡ q.box) × ((box_run table p es).journal ≡ q.journal)
  unfolding run run_pair box_inputs
  box_alone p [] = (refl, refl)
  box_alone p (e ∷ es) =
      let q = stepped table p (step_of p e) in
      let s = box_step p (step_of p e) (box_inputs table q es) in
      let r = box_alone q es in
      (s.0 ∙ r.0, s.1 ∙ r.1)

  unit_alone : (t : ℕ) (p : Pair) (es : List PairEvent)
      → after_all (p.units t) (unit_inputs table t p es) ≡ (run_pair table p es).units t
  unfolding run_pair unit_inputs after_all
  unit_alone t p [] = refl
  unit_alone t p (e ∷ es) =
      let q = stepped table p (step_of p e) in
      unit_step p t (step_of p e) (unit_inputs table t q es) ∙ unit_alone t q es

  still_sent : (p : Pair) (es : List PairEvent) (f : List ℕ) → Memᴰ f p.sent
      → Memᴰ f (run_pair table p es).sent
  unfolding run_pair
  still_sent p [] f m = m
  still_sent p (e ∷ es) f m = still_sent (stepped table p (step_of p e)) es f (more_sent table p (step_of p e) f m)

  box_sent : (p : Pair) (es : List PairEvent) (x : Exchange) (f : List ℕ)
      → Memᴰ x (box_run table p es).exchanges → Memᴰ f (written_frames x.verdict x.out)
      → Memᴰ f (run_pair table p es).sent
  unfolding run run_pair box_inputs
  box_sent p [] x f m h = absurd (Memᴰ.not-nil m)
  box_sent p (e ∷ es) x f m h =
      let q = stepped table p (step_of p e) in
      ⊎_elim (λ n. box_sent q es x f n h) (λ n. still_sent q es f n)
      (box_cases p (step_of p e) (box_inputs table q es) x f m h)

  unit_sent : (t : ℕ) (p : Pair) (es : List PairEvent) (x : CabExchange) → Memᴰ x (unit_run table t p es)
      → x.sent ≢ [] → Memᴰ x.sent (run_pair table p es).sent
  unfolding cab_run run_pair unit_inputs
  unit_sent t p [] x m h = absurd (Memᴰ.not-nil m)
  unit_sent t p (e ∷ es) x m h =
      let q = stepped table p (step_of p e) in
      ⊎_elim (λ n. unit_sent t q es x n h) (λ n. still_sent q es x.sent n)
      (unit_cases p t (step_of p e) (unit_inputs table t q es) x m h)

  gang_sent : (p : Pair) (es : List PairEvent) (f : List ℕ) → Memᴰ (called f) es → of_gang (read_frame f) ≡ true
      → Memᴰ f (run_pair table p es).sent
  unfolding run_pair stepped
  gang_sent p [] f m h = absurd (Memᴰ.not-nil m)
  gang_sent p (e ∷ es) f m h =
      let q = stepped table p (step_of p e) in
      ⊎_elim
      (λ own. still_sent q es f (subst (λ (z : PairStep). Memᴰ f (stepped table p z).sent)
      (sym (ap (step_of p) (sym own) ∙ ap (λ (b : Bool). cond b (from_gang f) nowhere) h))
      (Memᴰ.append_right p.sent (Memᴰ.head refl))))
      (λ n. gang_sent q es f n h)
      (Memᴰ.cases_cons m)

  -- what is sent after the first event comes from where it comes from in all
  origin_later : (p : Pair) (e : PairEvent) (es : List PairEvent) (f : List ℕ)
      → Origin table (stepped table p (step_of p e)) es f → Origin table p (e ∷ es) f
  unfolding box_inputs unit_inputs
  origin_later p e es f (of_box x m h) =
      of_box x (box_later p (step_of p e) (box_inputs table (stepped table p (step_of p e)) es) x m) h
  origin_later p e es f (of_unit t x m some h) =
      of_unit t x (unit_later p t (step_of p e) (unit_inputs table t (stepped table p (step_of p e)) es) x m) some h
  origin_later p e es f (of_gang_lem m h) = of_gang_lem (Memᴰ.tail m) h

  -- a gang's frame goes out by its own event alone
  called_of : (p : Pair) (e : PairEvent) (f : List ℕ) → step_of p e ≡ from_gang f → called f ≡ e
  called_of p (pressed t b) f h = absurd (other_step (ltb t p.box.trains) (at_unit t (press b)) refl h)
  called_of p (called g) f h = by_cases (of_gang (read_frame g))
      (λ k. let z : from_gang g ≡ from_gang f = rw k at h in let y : g ≡ f = cc in rw y)
      (λ k. absurd (other_step true nowhere refl (rw k at h)))
  called_of p (to_unit n t) f h =
      absurd (other_step (ltb n (length p.sent) && ltb t p.box.trains) (at_unit t _) refl h)
  called_of p (to_box n out) f h = absurd (other_step (ltb n (length p.sent)) (at_box _) refl h)

  -- what one step sends
  step_origin : (p : Pair) (e : PairEvent) (es : List PairEvent) (s : PairStep) → step_of p e ≡ s → MayHappen p s
      → (f : List ℕ) → Memᴰ f (stepped table p s).sent → Memᴰ f p.sent ⊎ Origin table p (e ∷ es) f
  unfolding run cab_run stepped box_inputs unit_inputs
  step_origin p e es s same (to_box_lem i among) f m = ⊎_elim (λ n. inl n)
      (λ n. inr (of_box (exchange p.box i (answer_in table p i)) (rw same (Memᴰ.head refl)) n))
      (Memᴰ.append_cases p.sent m)
  step_origin p e es s same (button t b known) f m = ⊎_elim (λ n. inl n)
      (λ n.
      let g = press_gives p (press_outcome (p.units t) b) f n in
      inr (of_unit t (cab_exchange (p.units t) (press b)) (rw (same, eq-eqb t t refl) (Memᴰ.head refl))
      g.0 g.1))
      (Memᴰ.append_cases p.sent m)
  step_origin p e es s same (to_unit_lem t g known among) f m = ⊎_elim (λ n. inl n)
      (λ n. absurd (Memᴰ.not-nil n))
      (Memᴰ.append_cases p.sent m)
  step_origin p e es s same (call g h) f m = ⊎_elim (λ n. inl n)
      (λ n.
      let g-is : f ≡ g = Memᴰ.eq_of_singleton n in
      inr (of_gang_lem (Memᴰ.head (called_of p e f (subst (λ (z : List ℕ). step_of p e ≡ from_gang z) (sym g-is) same)))
      (ap (λ (z : List ℕ). of_gang (read_frame z)) g-is ∙ h)))
      (Memᴰ.append_cases p.sent m)
  step_origin p e es s same none f m = inl m

  only_sent : (p : Pair) (es : List PairEvent) (f : List ℕ) → Memᴰ f (run_pair table p es).sent
      → Memᴰ f p.sent ⊎ Origin table p es f
  unfolding run_pair
  only_sent p [] f m = inl m
  only_sent p (e ∷ es) f m = ⊎_elim
      (λ n. step_origin p e es (step_of p e) refl (happens p e) f n)
      (λ o. inr (origin_later p e es f o))
      (only_sent (stepped table p (step_of p e)) es f m)

pub each_alone : EachAlone
each_alone book table journal events e =
    let o = opening book table journal in
    let p = pair_of (line_in book) o.state journal in
    record {
      box = (box_alone o.table p events).0;
      journal = (box_alone o.table p events).1;
      unit = λ t. unit_alone o.table t p events;
      only = λ f m. ⊎_elim (λ n. absurd (Memᴰ.not-nil n)) (λ r. r) (only_sent o.table p events f m);
      box_sent = box_sent o.table p events;
      unit_sent = λ t. unit_sent o.table t p events;
      gang_sent = gang_sent o.table p events;
    }
