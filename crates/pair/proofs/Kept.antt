-- The invariant of a pair: the box is consistent and of the line, and every train is linked to its unit. Whatever may
-- happen keeps it.
use mathlib.Core.Path.{◌≡◌, refl, sym, ap, ◌∙◌}
use mathlib.Core.Logic.{◌≢◌, inl, ⊎_elim}
use mathlib.Core.Bool.{true, false, false≢true}
use mathlib.Core.List.Memᴰ
use mathlib.Core.List.{List, [], ◌∷◌, ◌++◌, Memᴰ}
use Prim.Native.Nat.{ℕ, ◌<◌}
use Rattle.common.proofs.Tests.{by_equality}
use Rattle.common.proofs.Update.{update_own, update_other}
use Rattle.frame.specs.Frame.{read_frame}
use Rattle.driver.specs.History.{press, frame}
use Rattle.driver.specs.Pressing.{press_button}
use Rattle.driver.specs.Hearing.{hear_frame}
use Rattle.rules.specs.State.{train_of, line_of}
use Rattle.rules.specs.Refusals.{of_gang}
use Rattle.rules.proofs.Trains.{running_busy}
use Rattle.rules.proofs.Validity.{Consistent}
use Rattle.rules.proofs.Acceptance.{by_verdict, accepted_facts}
use Rattle.assurance.specs.Run.{Input}
use Rattle.pair.specs.Types.{Line, Message, Fe, Am, Train, Unit, Button}
use Rattle.pair.specs.Pair.{Pair, PairEvent, PairStep, at_box, at_unit, from_gang, step_of, stepped}
use Rattle.pair.specs.Pair.{run_pair}
use Rattle.pair.specs.Channel.{MayHappen, to_box_lem, button, to_unit_lem, call, none}
use Rattle.pair.proofs.Link.{Linked, known_more, none_sent}
use Rattle.pair.proofs.Pool.{InPool, pool_more, sent_linked}
use Rattle.pair.proofs.Box.{AllLinked, answer_linked}
use Rattle.pair.proofs.Units.{pressed_sent, press_other, heard_linked}
use Rattle.pair.proofs.Channel.{happens}

pub record Kept (l : Line) (p : Pair) : Type 0 where
  pub valid_state : Consistent p.box
  pub line : line_of p.box ≡ l
  pub linked : AllLinked (InPool p.sent) p.box p.units

-- with nothing sent, what is known is what was known
unsent : {sent : List (List ℕ)} {t : ℕ} {x : Train} {u : Unit} → Linked (InPool sent) t x u
    → Linked (InPool (sent ++ [])) t x u
unsent k = sent_linked [] (λ a h. absurd (Memᴰ.not-nil h)) (none_sent k)

-- a gang's message is no AM and no FE
gang_not : {a b : Message} → of_gang a ≡ true → of_gang b ≡ false → a ≢ b
gang_not gang other e = false≢true (sym other ∙ ap of_gang (sym e) ∙ gang)

module _ (l : Line) (table : List ℕ) (p : Pair) (k : Kept l p) where
  box_kept : (i : Input) → Memᴰ i.frame p.sent → Kept l (stepped table p (at_box i))
  unfolding stepped
  box_kept i among = record {
    valid_state = by_verdict p.box table p.journal i.frame i.out (λ a. Consistent a.state)
        (λ n e. k.valid_state) (λ q answers r. k.valid_state)
        (λ q new. (accepted_facts table p.box k.valid_state (read_frame i.frame) new).valid_state);
    line = by_verdict p.box table p.journal i.frame i.out (λ a. line_of a.state ≡ l)
        (λ n e. k.line) (λ q answers r. k.line)
        (λ q new. (accepted_facts table p.box k.valid_state (read_frame i.frame) new).line ∙ k.line);
    linked = answer_linked table p.box p.journal p.sent p.units k.linked i.frame i.out
        (λ m e. record { frame = i.frame; among = among; reads = e });
  }

  press_kept : (t : ℕ) (b : Button) → t < p.box.trains → Kept l (stepped table p (at_unit t (press b)))
  unfolding stepped
  press_kept t b known =
      let s = pressed_sent (k.linked t known) b in
      record {
        valid_state = k.valid_state;
        line = k.line;
        linked = λ u ku. rw s.frames (sent_linked {sent = p.sent} s.messages s.real (by_equality u t
            (λ e. rw (e, update_own p.units t (press_button (p.units t) b).unit) s.linked)
            (λ e. rw (update_other p.units t (press_button (p.units t) b).unit u e)
            (press_other s e (k.linked u ku)))));
      }

  hear_kept : (t : ℕ) (f : List ℕ) → t < p.box.trains → Memᴰ f p.sent
      → Kept l (stepped table p (at_unit t (frame f)))
  unfolding stepped
  hear_kept t f known among =
      let d = k.valid_state.each t known in
      record {
        valid_state = k.valid_state;
        line = k.line;
        linked = λ u ku. unsent {sent = p.sent} (by_equality u t
            (λ e. rw (e, update_own p.units t (hear_frame (p.units t) f).unit)
            (heard_linked (k.linked t known) d.inside
            (λ r. d.busy (running_busy (train_of p.box t).status r)) f among))
            (λ e. rw (update_other p.units t (hear_frame (p.units t) f).unit u e) (k.linked u ku)));
      }

  gang_kept : (f : List ℕ) → of_gang (read_frame f) ≡ true → Kept l (stepped table p (from_gang f))
  unfolding stepped
  gang_kept f gang = record {
    valid_state = k.valid_state;
    line = k.line;
    linked = λ u ku. known_more (k.linked u ku)
        (λ m q. inl (same (Am m) refl q))
        (λ m q. inl (same (Fe m) refl q));
  }
    where
      same : (a : Message) → of_gang a ≡ false → InPool (p.sent ++ f ∷ []) a → InPool p.sent a
      same a other q = ⊎_elim (λ z. z)
          (λ z. absurd (gang_not gang other (ap read_frame (sym (Memᴰ.eq_of_singleton z.among)) ∙ z.reads)))
          (pool_more p.sent (f ∷ []) a q)

  step_kept : (s : PairStep) → MayHappen p s → Kept l (stepped table p s)
  unfolding stepped
  step_kept s (to_box_lem i among) = box_kept i among
  step_kept s (button t b known) = press_kept t b known
  step_kept s (to_unit_lem t f known among) = hear_kept t f known among
  step_kept s (call f gang) = gang_kept f gang
  step_kept s none = k

pub run_kept : (l : Line) (table : List ℕ) (p : Pair) → Kept l p → (es : List PairEvent) → Kept l (run_pair table p es)
unfolding run_pair
run_kept l table p k [] = k
run_kept l table p k (e ∷ es) =
    run_kept l table (stepped table p (step_of p e)) (step_kept l table p k (step_of p e) (happens p e)) es
