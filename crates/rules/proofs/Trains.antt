-- Laws of one train's record and of the state with one record changed.
use mathlib.Core.Path.{◌≡◌, refl, sym, ap, ◌∙◌}
use mathlib.Core.Logic.{◌≢◌}
use mathlib.Core.Bool.{Bool, true, false, false≢true}
use Prim.Native.Nat.{ℕ, ◌+◌, ◌<◌}
use native.Mathlib.Omega.{arith}
use lib.Dec.{ltb}
use lib.ListN.{length, set, get_or-eq_default, get_or-map}
use lib.Seq.{get_or-set_same, get_or-set_other, map-set_same}
use borrow.Author.Tests.{ltb-true, ltb-false}
use Rattle.common.specs.Below.{of_bool, count_below}
use Rattle.common.proofs.Tests.{clash, by_cases, by_equality}
use Rattle.common.proofs.Below.{count_change}
use Rattle.line.specs.Line.{route_of}
use Rattle.rules.specs.Types.{TrackNo, Status, Free, Asked, Running, Train, State}
use Rattle.rules.specs.State.{is_free, is_asked, is_running, track_ahead, no_train, train_of, line_of, state_with}

-- ---- a status

pub asked_idle : (w : Status) → is_asked w ≡ true → is_running w ≡ false
asked_idle Free e = refl
asked_idle (Asked n) e = refl
asked_idle (Running k) e = sym e

pub asked_busy : (w : Status) → is_asked w ≡ true → is_free w ≡ false
asked_busy Free e = sym e
asked_busy (Asked n) e = refl
asked_busy (Running k) e = refl

pub running_busy : (w : Status) → is_running w ≡ true → is_free w ≡ false
running_busy Free e = sym e
running_busy (Asked n) e = refl
running_busy (Running k) e = refl

pub running_is : (w : Status) → is_running w ≡ true → (k : TrackNo) × (w ≡ Running k)
running_is Free e = absurd (false≢true e)
running_is (Asked n) e = absurd (false≢true e)
running_is (Running k) e = (k, refl)

pub free_idle : (w : Status) → is_free w ≡ true → is_running w ≡ false
free_idle Free e = refl
free_idle (Asked n) e = refl
free_idle (Running k) e = sym e

pub free_unasked : (w : Status) → is_free w ≡ true → is_asked w ≡ false
free_unasked Free e = refl
free_unasked (Asked n) e = sym e
free_unasked (Running k) e = refl

pub idle_free : (w : Status) → is_asked w ≡ false → is_running w ≡ false → is_free w ≡ true
idle_free Free e f = refl
idle_free (Asked n) e f = sym e
idle_free (Running k) e f = sym f

-- an idle train has no track ahead
pub idle_ahead : (w : Status) → is_running w ≡ false → track_ahead w ≡ 0
idle_ahead Free e = refl
idle_ahead (Asked n) e = refl
idle_ahead (Running k) e = absurd (false≢true (sym e))

-- ---- the state

-- the line's route is the record's
pub route_of_lem : (s : State) (t : ℕ) → route_of (line_of s) t ≡ (train_of s t).route
route_of_lem s t = get_or-map (λ (x : Train). x.route) s.fleet t no_train

-- a train that passes a test which no record at all fails has its place in the fleet
pub in_fleet : (s : State) (t : ℕ) (f : Train → Bool) → f no_train ≡ false → f (train_of s t) ≡ true
    → t < length s.fleet
in_fleet s t f none passes = by_cases (ltb t (length s.fleet))
    (λ e. ltb-true t (length s.fleet) e)
    (λ e.
    let blank : train_of s t ≡ no_train = get_or-eq_default s.fleet no_train (ltb-false t (length s.fleet) e) in
    clash (f no_train) (ap f (sym blank) ∙ passes) none)

-- ---- the state with x as train t's record and n records logged: `with_train` and `one_logged` give such states

abbrev pub changed : State → ℕ → Train → ℕ → State
changed s t x n = state_with s (set s.fleet t x) s.possessions s.given n

module _ (s : State) (t : ℕ) (x : Train) (n : ℕ) where
  pub changed_own : t < length s.fleet → train_of (changed s t x n) t ≡ x
  changed_own k = get_or-set_same s.fleet t x no_train k

  pub changed_other : (u : ℕ) → u ≢ t → train_of (changed s t x n) u ≡ train_of s u
  changed_other u h = get_or-set_other s.fleet t u x no_train h

  -- what holds of x and of the other records before, holds of each record after
  pub changed_each : (P : ℕ → Train → Type 0) → t < length s.fleet → P t x → (u : ℕ) → (u ≢ t → P u (train_of s u))
      → P u (train_of (changed s t x n) u)
  changed_each P k own u others = by_equality u t
      (λ e. rw (e, changed_own k) own)
      (λ h. rw (changed_other u h) (others h))

  pub changed_line : x.route ≡ (train_of s t).route → line_of (changed s t x n) ≡ line_of s
  changed_line e = rw (map-set_same (λ (y : Train). y.route) s.fleet t x no_train e)

  -- a count of the trains that pass a test
  pub changed_count : (f : Train → Bool) (m : ℕ) → t < m → t < length s.fleet
      → count_below m (λ u. f (train_of (changed s t x n) u)) + of_bool (f (train_of s t))
      ≡ count_below m (λ u. f (train_of s u)) + of_bool (f x)
  changed_count f m k l =
      let before : ℕ → Bool = λ u. f (train_of s u) in
      let after : ℕ → Bool = λ u. f (train_of (changed s t x n) u) in
      let c = count_change m before after t k (λ u ku h. ap f (changed_other u h)) in
      let e : of_bool (f (train_of (changed s t x n) t)) ≡ of_bool (f x) =
      ap (λ (y : Train). of_bool (f y)) (changed_own l) in
      omega arith
