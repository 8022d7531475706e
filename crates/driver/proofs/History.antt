-- The history of a unit is orderly: `specs/History.antt`, proved. `Tied` is the invariant: what the events so far say
-- of the unit's phase and post. Each input keeps it, and finds the events so far as the claim wants them (`Due`).
use mathlib.Core.Path.{◌≡◌, refl, sym, ap, subst, subst⁻¹, ◌∙◌}
use mathlib.Core.Logic.{◌≢◌}
use mathlib.Core.Bool.{true, false, false≢true}
use mathlib.Core.List.{List, [], ◌∷◌, ◌++◌, map, append_assoc, append-nil}
use Prim.Native.Nat.{ℕ, suc}
use native.Mathlib.Omega.{arith}
use borrow.Author.Tests.{eq-eqb}
use Rattle.common.specs.Check.{refusal, unless_refused}
use Rattle.common.proofs.Tests.{by_cases}
use Rattle.frame.specs.Frame.{read_frame}
use Rattle.frame.specs.RoundTrip.{IsMessage}
use Rattle.frame.proofs.RoundTrip.{round_trip}
use Rattle.driver.specs.Types.{Message, Fa, Fe, Afe, Am, Unit, Pressed, Heard, Phase, Standing, Asked}
use Rattle.driver.specs.Types.{Declined, Granted, UnderWay, Arrived, Button, Ask, Depart, Reached, Report, Again}
use Rattle.driver.specs.State.{own_move, last_move, in_phase, valid_unit}
use Rattle.driver.specs.Making.{make_unit}
use Rattle.driver.specs.Pressing.{may_press, is_again, end_permits, silent, sending, last_sent, carried_out, moved_on}
use Rattle.driver.specs.Hearing.{heard_with}
use Rattle.driver.specs.History.{CabInput, press, frame, cab_exchange, of_press, of_frame, after, cab_run, Event, fa}
use Rattle.driver.specs.History.{fe, am, fa_again, am_again, other, sent_event, repeated_event, accepted_event}
use Rattle.driver.specs.History.{event_of, reported, place, OnwardMove, Outstanding, Authorised, Reported, History}
use Rattle.driver.proofs.Phases.{same_phase_lem}
use Rattle.driver.proofs.Validity.{short, carried_out_valid, moved_on_last, heard_valid, fits_made}
use Rattle.driver.proofs.Validity.{made_standing, standing_unit_valid}
use Rattle.driver.proofs.Outcomes as outcomes
use Rattle.driver.proofs.Events.{with, place_with}
use Rattle.driver.proofs.Past.{Quiet, nothing, elsewhere, asked_again_lem, reported_again, quiet_place, Free, Told}
use Rattle.driver.proofs.Past.{none_yet, told_requested, after_fa, after_fe, after_am, now_reported}
use Rattle.driver.proofs.Past.{requested_kept, authorised_kept, told_kept}

-- ---- what an exchange says

-- a press that sends nothing, one that sends a message, and Again
says_nothing : (b : Button) (v : Unit) (n : ℕ) → event_of (of_press b (silent v n)) ≡ other
unfolding event_of read_frame refusal unless_refused
says_nothing b v n = by_cases (is_again b) (λ h. rw h) (λ h. rw h)

says_sent : (b : Button) (v : Unit) (x : Message) → is_again b ≡ false → IsMessage x
    → event_of (of_press b (sending v x)) ≡ sent_event x
unfolding event_of
says_sent b v x e h = rw e (ap sent_event (round_trip.back x h))

says_again : (v : Unit) (x : Message) → IsMessage x → event_of (of_press Again (sending v x)) ≡ repeated_event x
unfolding event_of
says_again v x h = ap repeated_event (round_trip.back x h)

-- a frame that is refused, and one that is accepted
says_refused : (f : List ℕ) (v : Unit) (n : ℕ) → event_of (of_frame f (heard_with v (suc n))) ≡ other
unfolding event_of
says_refused f v n = refl

says_accepted : (f : List ℕ) (v : Unit) (x : Message) → read_frame f ≡ x
    → event_of (of_frame f (heard_with v 0)) ≡ accepted_event x
unfolding event_of
says_accepted f v x e = ap accepted_event e

-- ---- the invariant, for a unit that was made for this train, start and end

module _ (t a e : ℕ) where
  record Tied (u : Unit) (past : List Event) : Type 0 where
    good : valid_unit u ≡ true
    train : u.train.0 ≡ t
    end : u.route.end.0 ≡ e
    post : u.at.0 ≡ place a past
    told : Told t u.phase past u

  -- what the claim wants of the events before this one
  abbrev Due : List Event → Event → Type 0
  Due past (fa m) = OnwardMove t e (place a past) m × Free past
  Due past (fe m) = m.train.0 ≡ t → Outstanding t past m
  Due past (am m) = OnwardMove t e (place a past) m × Authorised t past m
  Due past (fa_again m) = Outstanding t past m
  Due past (am_again m) = Reported past m
  Due past other = record {}

  abbrev Stepped : List Event → Unit → Event → Type 0
  Stepped past v x = Due past x × Tied v (with past x)

  module _ {u : Unit} {past : List Event} (k : Tied u past) where
    told_as : (p : Phase) → u.phase ≡ p → Told t p past u
    told_as p h = subst (λ (q : Phase). Told t q past u) h k.told

    onward : u.at.0 ≢ u.route.end.0 → OnwardMove t e (place a past) (own_move u)
    onward h = record {
      short = λ z. h (k.post ∙ z ∙ sym k.end);
      move = outcomes.same_move k.train k.post (rw (k.post, k.end));
    }

    -- the unit in another phase, or the same, after an event that reports no post
    in_phase_lem : (x : Event) (p : Phase) → valid_unit (in_phase u p) ≡ true → ((n : ℕ) → reported n x ≡ n)
        → Told t p (with past x) (in_phase u p) → Tied (in_phase u p) (with past x)
    in_phase_lem x p good still told = record {
      good = good;
      train = k.train;
      end = k.end;
      post = k.post ∙ sym (place_with a past x ∙ still (place a past));
      told = told;
    }

    unchanged : (x : Event) → Quiet t x → Tied u (with past x)
    unchanged x q =
        in_phase_lem x u.phase k.good (λ n. quiet_place n q) (told_kept t past q u u.phase k.told)

    -- an event that an exchange says is this one
    with_event : (v : Unit) {x y : Event} → y ≡ x → Due past x → Tied v (with past x) → Stepped past v y
    with_event v e d s = subst⁻¹ (Stepped past v) e (d, s)

    -- Again: the FA is still outstanding, or the last move is the last one reported
    repeated : (x : Message) → last_sent u ≡ x → IsMessage x → Quiet t (repeated_event x) → Due past (repeated_event x)
        → Stepped past u (event_of (of_press Again (sending u (last_sent u))))
    repeated x e h q due =
        let says = ap (λ (y : Message). event_of (of_press Again (sending u y))) e ∙ says_again u x h in
        with_event u says due (unchanged (repeated_event x) q)

    again : outcomes.MayRepeat u → Stepped past u (event_of (of_press Again (sending u (last_sent u))))
    unfolding IsMessage
    again (outcomes.asked h) = repeated (Fa (own_move u)) (rw h) tt (asked_again_lem (own_move u)) (told_as Asked h)
    again (outcomes.declined h) =
        repeated (Fa (own_move u)) (rw h) tt (asked_again_lem (own_move u)) (told_as Declined h)
    again (outcomes.past_start_lem h s) =
        repeated (Am (last_move u)) (rw h) tt (reported_again (last_move u)) ((told_as Standing h).1 s)

    carried_out_lem : (b : Button) → may_press u b ≡ true → end_permits u b ≡ true
        → Stepped past (carried_out u b).unit (event_of (of_press b (carried_out u b)))
    unfolding carried_out IsMessage
    carried_out_lem Ask h permits =
        let good = carried_out_valid u k.good Ask permits in
        let asked = after_fa t past (own_move u) in
        let says = says_sent Ask (in_phase u Asked) (Fa (own_move u)) refl tt in
        with_event (in_phase u Asked) says (onward (short u permits), (told_as Standing (same_phase_lem _ _ h)).0)
        (in_phase_lem (fa (own_move u)) Asked good (λ n. refl) asked)
    carried_out_lem Depart h permits =
        let good = carried_out_valid u k.good Depart permits in
        let granted = authorised_kept t past nothing (told_as Granted (same_phase_lem _ _ h)) in
        with_event (in_phase u UnderWay) (says_nothing Depart (in_phase u UnderWay) 0) (record {})
        (in_phase_lem other UnderWay good (λ n. refl) granted)
    carried_out_lem Reached h permits =
        let good = carried_out_valid u k.good Reached permits in
        let granted = authorised_kept t past nothing (told_as UnderWay (same_phase_lem _ _ h)) in
        with_event (in_phase u Arrived) (says_nothing Reached (in_phase u Arrived) 0) (record {})
        (in_phase_lem other Arrived good (λ n. refl) granted)
    carried_out_lem Report h permits =
        let reported = subst⁻¹ (Reported (with past (am (own_move u)))) (moved_on_last u k.good (short u permits))
        (now_reported t past (own_move u)) in
        let standing : Tied (moved_on u) (with past (am (own_move u))) = record {
          good = carried_out_valid u k.good Report permits;
          train = k.train;
          end = k.end;
          post = sym (place_with a past (am (own_move u)));
          told = (after_am t past (own_move u), λ past_start_lem. reported);
        } in
        let says = says_sent Report (moved_on u) (Am (own_move u)) refl tt in
        with_event (moved_on u) says (onward (short u permits), told_as Arrived (same_phase_lem _ _ h)) standing
    carried_out_lem Again h permits = again (outcomes.may_repeat_lem u h)

    pressed : {b : Button} {r : Pressed} → outcomes.PressOutcome u b r → Stepped past r.unit (event_of (of_press b r))
    pressed {b} (outcomes.refused n) = with_event u (says_nothing b u (suc n)) (record {}) (unchanged other nothing)
    pressed {b} (outcomes.accepted h permits) = carried_out_lem b h permits

    heard : {f : List ℕ} {r : Heard} → outcomes.HearOutcome u f r → Stepped past r.unit (event_of (of_frame f r))
    heard {f} (outcomes.refused n) = with_event u (says_refused f u n) (record {}) (unchanged other nothing)
    heard {f} (outcomes.fe_passed_over m r h) =
        let another : m.train.0 ≢ t = λ z. h (z ∙ sym k.train) in
        with_event u (says_accepted f u (Fe m) r) (λ z. absurd (another z)) (unchanged (fe m) (elsewhere m another))
    heard {f} (outcomes.granted m r o w) =
        let good : valid_unit (in_phase u Granted) ≡ true = heard_valid u k.good (outcomes.granted m r o w) in
        let asked = subst⁻¹ (Outstanding t past) o (told_requested t past u u.phase w k.told) in
        let granted = subst (Authorised t (with past (fe m))) o (after_fe t past asked) in
        with_event (in_phase u Granted) (says_accepted f (in_phase u Granted) (Fe m) r) (λ z. asked)
        (in_phase_lem (fe m) Granted good (λ n. refl) granted)
    heard {f} (outcomes.passed_over x r h) =
        with_event u (says_accepted f u x r ∙ h) (record {}) (unchanged other nothing)
    heard {f} (outcomes.declined m r h) =
        let good : valid_unit (in_phase u Declined) ≡ true = heard_valid u k.good (outcomes.declined m r h) in
        let asked = requested_kept t past nothing (told_as Asked h) in
        with_event (in_phase u Declined) (says_accepted f (in_phase u Declined) (Afe m) r) (record {})
        (in_phase_lem other Declined good (λ n. refl) asked)

    step : (i : CabInput) → Stepped past (after u i) (event_of (cab_exchange u i))
    step (press b) = pressed (outcomes.press_outcome u b)
    step (frame f) = heard (outcomes.hear_outcome u f)

  -- ---- the run

  run_due : (is : List CabInput) (u : Unit) (past : List Event) → Tied u past
      → (xs : List Event) (x : Event) (ys : List Event) → map event_of (cab_run u is) ≡ xs ++ (x ∷ ys)
      → Due (past ++ xs) x
  unfolding cab_run
  run_due [] u past k [] x ys h = let z : ◌≡◌ {A = ℕ} 0 1 = cc in absurd (omega arith)
  run_due [] u past k (y ∷ xs) x ys h = let z : ◌≡◌ {A = ℕ} 0 1 = cc in absurd (omega arith)
  run_due (i ∷ is) u past k [] x ys h =
      let first : event_of (cab_exchange u i) ≡ x = cc in
      let due = subst⁻¹ (λ (l : List Event). Due l (event_of (cab_exchange u i))) (append-nil past) (step k i).0 in
      subst (Due (past ++ [])) first due
  run_due (i ∷ is) u past k (y ∷ xs) x ys h =
      let next = with past (event_of (cab_exchange u i)) in
      let first : event_of (cab_exchange u i) ≡ y = cc in
      let rest : map event_of (cab_run (after u i) is) ≡ xs ++ (x ∷ ys) = cc in
      let joined : next ++ xs ≡ past ++ (y ∷ xs) = append_assoc past (event_of (cab_exchange u i) ∷ []) xs ∙ rw first in
      subst (λ (l : List Event). Due l x) joined (run_due is (after u i) next (step k i).1 xs x ys rest)

  at_start : (make_unit t a e).refusal ≡ 0 → Tied (make_unit t a e).unit []
  unfolding place
  at_start h = subst⁻¹ (λ (v : Unit). Tied v []) (made_standing t a e h) (record {
    good = standing_unit_valid t a e (fits_made t a e h);
    train = refl;
    end = refl;
    post = refl;
    told = (none_yet, λ h. absurd (false≢true (rw (eq-eqb a a refl) at h)));
  })

pub history : History
history t a e h is =
    let due = run_due t a e is (make_unit t a e).unit [] (at_start t a e h) in
    record {
      am_granted = λ past later m z. (due past (am m) later z).1;
      fe_awaited = λ past later m z. due past (fe m) later z;
      one_request = λ past between later m n z.
          let joined = z ∙ sym (append_assoc past (fa m ∷ between) (fa n ∷ later)) in
          (due (past ++ (fa m ∷ between)) (fa n) later joined).1 past between m refl;
      fa_onward = λ past later m z. (due past (fa m) later z).0;
      am_onward = λ past later m z. (due past (am m) later z).0;
      fa_repeated = λ past later m z. due past (fa_again m) later z;
      am_repeated = λ past later m z. due past (am_again m) later z;
    }
