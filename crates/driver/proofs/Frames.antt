-- Which case of `hear_frame` holds, by what the frame reads as and the checks that pass.
use mathlib.Core.Path.{◌≡◌, refl, sym, ap, ◌∙◌}
use mathlib.Core.Bool.{true, false}
use mathlib.Core.List.{List, ◌∷◌, ◌++◌}
use Prim.Native.Nat.{ℕ, ◌<◌}
use native.Mathlib.Omega.{arith}
use borrow.Author.Tests.{eq-eqb}
use Rattle.common.specs.Check.{Check, check}
use Rattle.common.proofs.Tests.{by_cases}
use Rattle.common.proofs.Check.{Refuses, none, stop, pass, stop_within, pass_all, accepted_by, refused_by_lem}
use Rattle.line.specs.Refusal.{strange_state, wrong_end, not_awaited}
use Rattle.frame.specs.Frame.{read_checks, read_frame}
use Rattle.frame.specs.RoundTrip.{IsMessage}
use Rattle.frame.proofs.Outcome.{read_passed, read_refused}
use Rattle.driver.specs.Types.{Move, Message, Fa, Fe, Afe, Am, La, Le, Lb, Refused, Phase}
use Rattle.driver.specs.Types.{Unit}
use Rattle.driver.specs.State.{awaiting, in_phase, valid_unit}
use Rattle.driver.specs.Hearing.{for_move, for_unit, awaited, hear_checks, phase_after, heard_with}
use Rattle.driver.specs.Hearing.{phase_told, heard_by, hear_frame}

module _ (u : Unit) (f : List ℕ) where
  refused : {n : ℕ} → 0 < n → Refuses (hear_checks u f) n → heard_with u n ≡ hear_frame u f
  unfolding hear_frame
  refused h r = refused_by_lem (heard_with (in_phase u (phase_after u (read_frame f))) 0) (heard_with u) h r

  pub strange : valid_unit u ≡ false → heard_with u strange_state ≡ hear_frame u f
  strange h = refused (omega arith) (stop h)

  module _ (good : valid_unit u ≡ true) where
    pub not_read : (n : ℕ) → read_frame f ≡ Refused n → heard_with u n ≡ hear_frame u f
    not_read n e =
        let r = read_refused f n e in
        rw (← r.1) (refused (rw r.1 r.0) (pass good (stop_within (read_checks f) _ (rw r.1 r.0))))

    -- a message x was read; the checks after 5 decide
    module _ (x : Message) (reads : read_frame f ≡ x) (whole : IsMessage x) where
      after_reading : {cs : List Check} {n : ℕ} → Refuses cs n
          → Refuses (check strange_state (valid_unit u) ∷ (read_checks f ++ cs)) n
      after_reading r = pass good (pass_all (read_checks f) refl (read_passed f (rw reads whole)) r)

      pub other_end : for_unit x ≡ false → heard_with u wrong_end ≡ hear_frame u f
      other_end h = refused (omega arith) (after_reading (stop (ap for_unit reads ∙ h)))

      module _ (own : for_unit x ≡ true) where
        pub unawaited : awaited u x ≡ false → heard_with u not_awaited ≡ hear_frame u f
        unawaited h =
            refused (omega arith) (after_reading (pass (ap for_unit reads ∙ own) (stop (ap (awaited u) reads ∙ h))))

        pub taken : (p : Phase) → awaited u x ≡ true → phase_after u x ≡ p
            → heard_with (in_phase u p) 0 ≡ hear_frame u f
        unfolding hear_frame
        taken p h q =
            let after : phase_after u (read_frame f) ≡ p = ap (phase_after u) reads ∙ q in
            let passed = after_reading (pass (ap for_unit reads ∙ own) (pass (ap (awaited u) reads ∙ h) none)) in
            ap (λ (y : Phase). heard_with (in_phase u y) 0) (sym after)
            ∙ accepted_by (heard_with (in_phase u (phase_after u (read_frame f))) 0) (heard_with u) passed

    pub fa : (m : Move) → read_frame f ≡ Fa m → heard_with u wrong_end ≡ hear_frame u f
    unfolding IsMessage
    fa m e = other_end (Fa m) e tt refl

    pub am : (m : Move) → read_frame f ≡ Am m → heard_with u wrong_end ≡ hear_frame u f
    unfolding IsMessage
    am m e = other_end (Am m) e tt refl

    -- 02, card 4: kinds 5, 6 and 7 "heard by a unit change nothing"
    pub la : (m : Move) → read_frame f ≡ La m → heard_with u 0 ≡ hear_frame u f
    unfolding IsMessage phase_after
    la m e = taken (La m) e tt refl u.phase refl refl

    pub le : (m : Move) → read_frame f ≡ Le m → heard_with u 0 ≡ hear_frame u f
    unfolding IsMessage phase_after
    le m e = taken (Le m) e tt refl u.phase refl refl

    pub lb : (m : Move) → read_frame f ≡ Lb m → heard_with u 0 ≡ hear_frame u f
    unfolding IsMessage phase_after
    lb m e = taken (Lb m) e tt refl u.phase refl refl

    -- ---- FE

    module _ (m : Move) (e : read_frame f ≡ Fe m) where
      fe_taken : (p : Phase) → awaited u (Fe m) ≡ true → phase_after u (Fe m) ≡ p
          → heard_with (in_phase u p) 0 ≡ hear_frame u f
      unfolding IsMessage
      fe_taken = taken (Fe m) e tt refl

      fe_refused : awaited u (Fe m) ≡ false → heard_with u not_awaited ≡ hear_frame u f
      unfolding IsMessage
      fe_refused = unawaited (Fe m) e tt refl

      module _ (own : m.train.0 ≡ u.train.0) where
        pub fe_for_another_move : for_move u m ≡ false → heard_with u not_awaited ≡ hear_frame u f
        fe_for_another_move h = fe_refused (rw (eq-eqb _ _ own, h))

        pub fe_not_now : for_move u m ≡ true → awaiting u.phase ≡ false → heard_with u not_awaited ≡ hear_frame u f
        fe_not_now h k = fe_refused (rw (eq-eqb _ _ own, h, k))

    -- ---- any frame

    told : (x : Message) → read_frame f ≡ x → heard_by u (phase_told u x) ≡ hear_frame u f
    unfolding IsMessage
    told (Fa m) e = fa m e
    told (Fe m) e = by_cases (awaited u (Fe m))
        (λ h. rw h (fe_taken m e (phase_after u (Fe m)) h refl))
        (λ h. rw h (fe_refused m e h))
    told (Afe m) e = taken (Afe m) e tt refl (phase_after u (Afe m)) refl refl
    told (Am m) e = am m e
    told (La m) e = la m e
    told (Le m) e = le m e
    told (Lb m) e = lb m e
    told (Refused n) e = not_read n e

    pub heard_by_lem : heard_by u (phase_told u (read_frame f)) ≡ hear_frame u f
    heard_by_lem = told (read_frame f) refl
