-- The unit's end: a press, and a frame that was sent and is heard, keep every train linked to its unit.
use mathlib.Core.Path.{◌≡◌, refl, sym, ap, subst, ◌∙◌}
use mathlib.Core.Logic.{◌≢◌, ◌⊎◌, inl, inr, ⊎_elim}
use mathlib.Core.Bool.{true, false≢true}
use mathlib.Core.List.Memᴰ
use mathlib.Core.List.{List, [], ◌∷◌, map, Memᴰ}
use Prim.Native.Nat.{ℕ}
use borrow.Author.Tests.{eqb-false, not-true}
use Rattle.line.proofs.Travel.{Between, between_of, next_nearer}
use Rattle.frame.specs.Frame.{bytes_of}
use Rattle.frame.specs.RoundTrip.{IsMessage}
use Rattle.driver.specs.State.{own_move, last_move}
use Rattle.driver.specs.Pressing.{may_press, end_permits, silent, sending, last_sent, carried_out, press_button}
use Rattle.driver.specs.Hearing.{hear_frame}
use Rattle.driver.proofs.Phases.{same_phase_lem}
use Rattle.driver.proofs.Outcomes as outcomes
use Rattle.driver.proofs.Validity.{on_route_lem, short, carried_out_valid, heard_valid}
use Rattle.rules.specs.State.{is_running}
use Rattle.pair.specs.Types.{Move, Message, Fa, Fe, Am, Train, Unit, Pressed, Heard, Button, Ask, Depart, Reached}
use Rattle.pair.specs.Types.{Report, Again, Asked, Declined, Granted, UnderWay, Arrived}
use Rattle.pair.specs.Pair.{pressed_frames}
use Rattle.pair.proofs.Link.{Before, Linked, known_more, With, am_is, am_not_fe, differs, none_sent}
use Rattle.pair.proofs.Link.{other_sent}
use Rattle.pair.proofs.Link.{phase_linked, own_authority, reported_linked}
use Rattle.pair.proofs.Pool.{InPool}

-- what a press of train t's unit leaves: the messages that it sends, and the train linked with them. None is an FE, and
-- an AM is of this train.
pub record PressSent (Known : Message → Type 0) (t : ℕ) (x : Train) (r : Pressed) : Type 0 where
  pub messages : List Message
  pub frames : pressed_frames r ≡ map bytes_of messages
  pub real : (a : Message) → Memᴰ a messages → IsMessage a
  pub linked : Linked (With Known messages) t x r.unit
  pub no_fe : (m : Move) → Memᴰ (Fe m) messages → ⊥
  pub own_am : (m : Move) → Memᴰ (Am m) messages → m.train.0 ≡ t

-- nothing, an FA, or an AM of the train
module _ {Known : Message → Type 0} {t : ℕ} {x : Train} {u : Unit} where
  sends_none : (n : ℕ) → Linked Known t x u → PressSent Known t x (silent u n)
  sends_none n k = record {
    messages = [];
    frames = refl;
    real = λ a h. absurd (Memᴰ.not-nil h);
    linked = none_sent k;
    no_fe = λ m h. Memᴰ.not-nil h;
    own_am = λ m h. absurd (Memᴰ.not-nil h);
  }

  sends_fa : (m : Move) → Linked Known t x u → PressSent Known t x (sending u (Fa m))
  unfolding IsMessage
  sends_fa m k = record {
    messages = Fa m ∷ [];
    frames = refl;
    real = λ a h. rw (Memᴰ.eq_of_singleton h) tt;
    linked = other_sent [] (Fa m) refl (none_sent k);
    no_fe = λ n h. differs {b = Fa m} refl refl (Memᴰ.eq_of_singleton h);
    own_am = λ n h. absurd (differs {b = Fa m} refl refl (Memᴰ.eq_of_singleton h));
  }

  sends_am : (m : Move) → m.train.0 ≡ t → Linked (With Known (Am m ∷ [])) t x u
      → PressSent Known t x (sending u (Am m))
  unfolding IsMessage
  sends_am m own k = record {
    messages = Am m ∷ [];
    frames = refl;
    real = λ a h. rw (Memᴰ.eq_of_singleton h) tt;
    linked = k;
    no_fe = λ n h. am_not_fe (sym (Memᴰ.eq_of_singleton h));
    own_am = λ n h. ap (λ (y : Move). y.train.0) (am_is (Memᴰ.eq_of_singleton h)) ∙ own;
  }

module _ {Known : Message → Type 0} {t : ℕ} {x : Train} {u : Unit} (k : Linked Known t x u) where
  -- with an AM sent, what is known is what was known before or that AM
  am_known : (m n : Move) → With Known (Am m ∷ []) (Am n) → Known (Am n) ⊎ (n ≡ m)
  am_known m n = ⊎_elim (λ z. inl z) (λ z. inr (am_is (Memᴰ.eq_of_singleton z)))

  fe_known : (m n : Move) → With Known (Am m ∷ []) (Fe n) → Known (Fe n)
  fe_known m n = ⊎_elim (λ z. z) (λ z. absurd (am_not_fe (sym (Memᴰ.eq_of_singleton z))))

  inside : Between x.route.start.0 u.at.0 x.route.end.0
  inside = rw (← k.route) (between_of _ _ _ (on_route_lem u k.good))

  -- the last move led to where the unit is
  last_before : u.at.0 ≢ u.route.start.0 → Before x (last_move u).from.0 u.at.0
  last_before past = rw (← k.route) (next_nearer u.route.start.0 u.at.0 past)

  carried_sent : (b : Button) → may_press u b ≡ true → end_permits u b ≡ true → PressSent Known t x (carried_out u b)
  unfolding carried_out
  carried_sent Ask may permits = sends_fa (own_move u)
      (phase_linked k Asked (carried_out_valid u k.good Ask permits) (λ q. absurd (false≢true q)))
  carried_sent Depart may permits =
      let e = same_phase_lem u.phase Granted may in
      sends_none 0 (phase_linked k UnderWay (carried_out_valid u k.good Depart permits) (λ q. k.covered (rw e)))
  carried_sent Reached may permits =
      let e = same_phase_lem u.phase UnderWay may in
      sends_none 0 (phase_linked k Arrived (carried_out_valid u k.good Reached permits) (λ q. k.covered (rw e)))
  carried_sent Report may permits =
      let e = same_phase_lem u.phase Arrived may in
      sends_am (own_move u) k.train
      (reported_linked k (rw e) (short u permits) (carried_out_valid u k.good Report permits) inside
      (am_known (own_move u)) (fe_known (own_move u)))
  carried_sent Again may permits = repeated (outcomes.may_repeat_lem u may)
    where
      gives : {a : Message} → last_sent u ≡ a → PressSent Known t x (sending u a)
          → PressSent Known t x (carried_out u Again)
      gives e r = subst (λ (a : Message). PressSent Known t x (sending u a)) (sym e) r

      repeated : outcomes.MayRepeat u → PressSent Known t x (carried_out u Again)
      repeated (outcomes.asked e) = gives (rw e) (sends_fa (own_move u) k)
      repeated (outcomes.declined e) = gives (rw e) (sends_fa (own_move u) k)
      repeated (outcomes.past_start_lem e past) = gives (rw e) (sends_am (last_move u) k.train (known_more k
          (λ m q. ⊎_elim (λ z. inl z)
          (λ z. inr (λ mine. rw z (last_before (eqb-false _ _ (not-true _ past))))) (am_known (last_move u) m q))
          (λ m q. inl (fe_known (last_move u) m q))))

  press_sent : {b : Button} {r : Pressed} → outcomes.PressOutcome u b r → PressSent Known t x r
  press_sent (outcomes.refused n) = sends_none _ k
  press_sent {b} (outcomes.accepted may permits) = carried_sent b may permits

  pub pressed_sent : (b : Button) → PressSent Known t x (press_button u b)
  pressed_sent b = press_sent (outcomes.press_outcome u b)

-- the other trains stay linked with what it sends
pub press_other : {Known : Message → Type 0} {t : ℕ} {x : Train} {r : Pressed} (s : PressSent Known t x r)
    → {v : ℕ} {y : Train} {w : Unit} → v ≢ t → Linked Known v y w → Linked (With Known s.messages) v y w
press_other s other k = known_more k
    (λ m q. ⊎_elim (λ z. inl z) (λ z. inr (λ mine. absurd (other (sym mine ∙ s.own_am m z)))) q)
    (λ m q. inl (⊎_elim (λ z. z) (λ z. absurd (s.no_fe m z)) q))

-- a frame that is heard
module _ {sent : List (List ℕ)} {t : ℕ} {x : Train} {u : Unit} (k : Linked (InPool sent) t x u)
    (box : Between x.route.start.0 x.at.0 x.route.end.0)
    (onward : is_running x.status ≡ true → x.at.0 ≢ x.route.end.0) where
  hear_linked : {f : List ℕ} {r : Heard} → Memᴰ f sent → outcomes.HearOutcome u f r
      → Linked (InPool sent) t x r.unit
  hear_linked h (outcomes.refused n) = k
  hear_linked h (outcomes.fe_passed_over m e other) = k
  hear_linked {f} h (outcomes.granted m e own waits) =
      phase_linked k Granted (heard_valid u k.good {f = f} (outcomes.granted m e own waits))
      (λ q. own_authority k m (record { frame = f; among = h; reads = e }) own box onward)
  hear_linked h (outcomes.passed_over a e plain) = k
  hear_linked {f} h (outcomes.declined m e asked) =
      phase_linked k Declined (heard_valid u k.good {f = f} (outcomes.declined m e asked))
      (λ q. absurd (false≢true q))

  pub heard_linked : (f : List ℕ) → Memᴰ f sent → Linked (InPool sent) t x (hear_frame u f).unit
  heard_linked f h = hear_linked h (outcomes.hear_outcome u f)
