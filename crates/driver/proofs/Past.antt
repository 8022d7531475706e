-- What the events so far say of a unit's phase, and how one more event changes it.
use mathlib.Core.Path.{◌≡◌, refl, sym, ap, ◌∙◌}
use mathlib.Core.Logic.{◌≢◌, ⊎_elim}
use mathlib.Core.Bool.{true, false, false≢true}
use mathlib.Core.List.{List, [], ◌∷◌, ◌++◌, append_assoc}
use Prim.Native.Nat.{ℕ}
use native.Mathlib.Omega.{arith}
use borrow.Author.Tests.{ne_eqb}
use Rattle.common.proofs.Tests.{or_left, or_right}
use Rattle.driver.specs.Types.{Move, Unit, Phase, Standing, Asked, Declined, Granted, UnderWay, Arrived}
use Rattle.driver.specs.State.{awaiting, own_move, past_start, last_move}
use Rattle.driver.specs.History.{Event, fa, fe, am, fa_again, am_again, other, is_fa, is_am, is_fe, some, reported}
use Rattle.driver.specs.History.{Outstanding, Authorised, Reported}
use Rattle.driver.proofs.Events.{with, split_last, some_with, still_none}

-- ---- events that settle nothing: none, the FE for another train, or a frame sent again

pub data Quiet (t : ℕ) : Event → Type 0 where
  nothing : Quiet t other
  elsewhere : (m : Move) → m.train.0 ≢ t → Quiet t (fe m)
  asked_again_lem : (m : Move) → Quiet t (fa_again m)
  reported_again : (m : Move) → Quiet t (am_again m)

module _ {t : ℕ} where
  quiet_fa : {x : Event} → Quiet t x → is_fa x ≡ false
  quiet_fa nothing = refl
  quiet_fa (elsewhere m h) = refl
  quiet_fa (asked_again_lem m) = refl
  quiet_fa (reported_again m) = refl

  quiet_am : {x : Event} → Quiet t x → is_am x ≡ false
  quiet_am nothing = refl
  quiet_am (elsewhere m h) = refl
  quiet_am (asked_again_lem m) = refl
  quiet_am (reported_again m) = refl

  quiet_fe : {x : Event} → Quiet t x → is_fe t x ≡ false
  quiet_fe nothing = refl
  quiet_fe (elsewhere m h) = ne_eqb _ _ h
  quiet_fe (asked_again_lem m) = refl
  quiet_fe (reported_again m) = refl

  pub quiet_place : {x : Event} (p : ℕ) → Quiet t x → reported p x ≡ p
  quiet_place p nothing = refl
  quiet_place p (elsewhere m h) = refl
  quiet_place p (asked_again_lem m) = refl
  quiet_place p (reported_again m) = refl

-- ---- what the events so far say of the phase

-- no FA was sent since the last AM
abbrev pub Free : List Event → Type 0
Free past = (before between : List Event) (m : Move) → past ≡ before ++ (fa m ∷ between) → some is_am between ≡ true

-- past its start, its last move is the last one reported
abbrev pub LastReported : List Event → Unit → Type 0
LastReported past u = past_start u ≡ true → Reported past (last_move u)

abbrev pub Told : ℕ → Phase → List Event → Unit → Type 0
Told t Standing past u = Free past × LastReported past u
Told t Asked past u = Outstanding t past (own_move u)
Told t Declined past u = Outstanding t past (own_move u)
Told t Granted past u = Authorised t past (own_move u)
Told t UnderWay past u = Authorised t past (own_move u)
Told t Arrived past u = Authorised t past (own_move u)

pub none_yet : Free []
none_yet [] between m e = let z : ◌≡◌ {A = ℕ} 0 1 = cc in absurd (omega arith)
none_yet (x ∷ before) between m e = let z : ◌≡◌ {A = ℕ} 0 1 = cc in absurd (omega arith)

module _ (t : ℕ) (past : List Event) where
  pub after_fa : (m : Move) → Outstanding t (with past (fa m)) m
  unfolding some
  after_fa m = record { before = past; since = []; parts = refl; no_am = refl; no_fe = refl }

  pub after_fe : {m : Move} → Outstanding t past m → Authorised t (with past (fe m)) m
  unfolding some
  after_fe r = record { before = past; since = []; parts = refl; requested = r; no_am = refl }

  pub after_am : (m : Move) → Free (with past (am m))
  after_am m before between n e = ⊎_elim
      (λ s. let k = s.0 in let z : ◌≡◌ {A = ℕ} 0 1 = cc in absurd (omega arith))
      (λ s. rw s.1 (some_with is_am s.0 (am m) ∙ or_right (some is_am s.0) true refl))
      (split_last past (am m) before (fa n) between e)

  pub now_reported : (m : Move) → Reported (with past (am m)) m
  unfolding some
  now_reported m = record { before = past; since = []; parts = refl; no_am = refl; no_fa = refl }

  module _ {x : Event} (q : Quiet t x) where
    parts_kept : (before : List Event) (y : Event) (since : List Event) → past ≡ before ++ (y ∷ since)
        → with past x ≡ before ++ (y ∷ with since x)
    parts_kept before y since e =
        ap (λ (l : List Event). with l x) e ∙ append_assoc before (y ∷ since) (x ∷ [])

    free_kept : Free past → Free (with past x)
    free_kept h before between m e = ⊎_elim
        (λ s. absurd (false≢true (sym (quiet_fa q) ∙ ap is_fa s.0)))
        (λ s. rw s.1 (some_with is_am s.0 x ∙ or_left (some is_am s.0) (is_am x) (h before s.0 m s.2)))
        (split_last past x before (fa m) between e)

    pub requested_kept : {m : Move} → Outstanding t past m → Outstanding t (with past x) m
    requested_kept {m} r = record {
      before = r.before;
      since = with r.since x;
      parts = parts_kept r.before (fa m) r.since r.parts;
      no_am = still_none is_am r.since x r.no_am (quiet_am q);
      no_fe = still_none (is_fe t) r.since x r.no_fe (quiet_fe q);
    }

    pub authorised_kept : {m : Move} → Authorised t past m → Authorised t (with past x) m
    authorised_kept {m} r = record {
      before = r.before;
      since = with r.since x;
      parts = parts_kept r.before (fe m) r.since r.parts;
      requested = r.requested;
      no_am = still_none is_am r.since x r.no_am (quiet_am q);
    }

    reported_kept : {m : Move} → Reported past m → Reported (with past x) m
    reported_kept {m} r = record {
      before = r.before;
      since = with r.since x;
      parts = parts_kept r.before (am m) r.since r.parts;
      no_am = still_none is_am r.since x r.no_am (quiet_am q);
      no_fa = still_none is_fa r.since x r.no_fa (quiet_fa q);
    }

    pub told_kept : (u : Unit) (p : Phase) → Told t p past u → Told t p (with past x) u
    told_kept u Standing h = (free_kept h.0, λ s. reported_kept (h.1 s))
    told_kept u Asked h = requested_kept h
    told_kept u Declined h = requested_kept h
    told_kept u Granted h = authorised_kept h
    told_kept u UnderWay h = authorised_kept h
    told_kept u Arrived h = authorised_kept h

  pub told_requested : (u : Unit) (p : Phase) → awaiting p ≡ true → Told t p past u → Outstanding t past (own_move u)
  told_requested u Standing h k = absurd (false≢true h)
  told_requested u Asked h k = k
  told_requested u Declined h k = k
  told_requested u Granted h k = absurd (false≢true h)
  told_requested u UnderWay h k = absurd (false≢true h)
  told_requested u Arrived h k = absurd (false≢true h)
