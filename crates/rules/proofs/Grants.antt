-- The granting, for any table. `grants_keep` is the loop's rule: what a grant to the oldest keeps, the granting keeps.
-- The others say that the loop ends where nobody can be granted, goes on with the oldest, and spends an Asked train for
-- each answer, so that its fuel is enough.
use mathlib.Core.Path.{◌≡◌, refl, sym, ◌∙◌}
use mathlib.Core.Bool.{Bool, true}
use mathlib.Core.Option.{Option, none, some}
use mathlib.Core.List.{List}
use Prim.Native.Nat.{ℕ, zero, suc, ◌+◌, ◌≤◌, ◌<◌}
use native.Mathlib.Omega.{arith}
use lib.ListN.{length}
use Rattle.common.specs.Below.{of_bool, count_below}
use Rattle.common.proofs.Tests.{clash, not_passed}
use Rattle.common.proofs.Below.{none_counted, count_le}
use Rattle.rules.specs.Types.{Train, State}
use Rattle.rules.specs.State.{is_asked, train_of, line_of}
use Rattle.rules.specs.Granting.{grantable, oldest, Work, granting, granted, proceed, grants, settled}
use Rattle.rules.proofs.Trains.{in_fleet, changed_line, changed_count}
use Rattle.rules.proofs.Validity.{Consistent}
use Rattle.rules.proofs.Changes.{grantable_facts}
use Rattle.rules.proofs.Oldest.{Nobody, Oldest, oldest_none, oldest_some, none_oldest, some_oldest}

abbrev pub asked_count : State → ℕ
asked_count s = count_below s.trains (λ t. is_asked (train_of s t).status)

-- the work's oldest
abbrev pub Turn : List ℕ → Work → ℕ → Type 0
Turn table w t = Oldest table w.state w.state.trains t

module _ (table : List ℕ) where
  -- ---- the loop

  pub grants_stop : (n : ℕ) (w : Work) → Nobody table w.state w.state.trains → grants table n w ≡ w
  unfolding grants
  grants_stop zero w h = refl
  grants_stop (suc n) w h = rw (none_oldest table w.state w.state.trains h)

  pub grants_next : (n : ℕ) (w : Work) (t : ℕ) → oldest table w.state w.state.trains ≡ some t
      → grants table (suc n) w ≡ grants table n (granted w t)
  unfolding grants
  grants_next n w t e = rw e

  -- what holds of the work, and is kept by each grant to the oldest, holds of the work in the end
  pub grants_keep : (P : Work → Type 0) → ((w : Work) (t : ℕ) → P w → Turn table w t → P (granted w t))
      → (n : ℕ) (w : Work) → P w → P (grants table n w)
  unfolding grants
  grants_keep P step zero w p = p
  grants_keep P step (suc n) w p =
      at (oldest table w.state w.state.trains) refl (λ t q. grants_keep P step n (granted w t) q)
    where
      at : (r : Option ℕ) → oldest table w.state w.state.trains ≡ r
          → ((t : ℕ) → P (granted w t) → P (grants table n (granted w t)))
          → P (proceed r w (λ t. grants table n (granted w t)))
      at none e rest = p
      at (some t) e rest = rest t (step w t p (oldest_some table w.state w.state.trains t e))

  -- ---- one grant

  module _ (w : Work) (t : ℕ) (f : Turn table w t) where
    asks : is_asked (train_of w.state t).status ≡ true
    asks = (grantable_facts table w.state t f.can).asks

    pub granted_place : t < length w.state.fleet
    granted_place = in_fleet w.state t (λ x. is_asked x.status) refl asks

    -- one Asked train fewer
    pub granted_fewer : asked_count (granted w t).state + 1 ≡ asked_count w.state
    granted_fewer =
        let one : of_bool (is_asked (train_of w.state t).status) ≡ 1 = rw asks in
        let asking : Train → Bool = λ y. is_asked y.status in
        omega (
          arith,
          changed_count w.state t (granting w.state t) (w.state.logged + 1) asking w.state.trains
              f.known granted_place,
        )

    pub granted_line : line_of (granted w t).state ≡ line_of w.state
    granted_line = changed_line w.state t (granting w.state t) (w.state.logged + 1) refl

  -- ---- fuel

  pub none_asked : (w : Work) → asked_count w.state ≡ 0 → Nobody table w.state w.state.trains
  none_asked w e = record {
    barred = λ u k. not_passed (grantable table w.state u) (λ g.
        clash (is_asked (train_of w.state u).status) (grantable_facts table w.state u g).asks
        (none_counted w.state.trains (λ v. is_asked (train_of w.state v).status) e u k));
  }

  -- as many grants as trains are Asked are enough: nobody can be granted then
  pub grants_end : (n : ℕ) (w : Work) → asked_count w.state ≤ n
      → let v = grants table n w in Nobody table v.state v.state.trains
  unfolding grants
  grants_end zero w few = none_asked w (omega arith)
  grants_end (suc n) w few = at (oldest table w.state w.state.trains) refl (λ t h. grants_end n (granted w t) h)
    where
      at : (r : Option ℕ) → oldest table w.state w.state.trains ≡ r
          → ((t : ℕ) → asked_count (granted w t).state ≤ n
          → let v = grants table n (granted w t) in Nobody table v.state v.state.trains)
          → let v = proceed r w (λ t. grants table n (granted w t)) in Nobody table v.state v.state.trains
      at none e rest = oldest_none table w.state w.state.trains e
      at (some t) e rest =
          rest t (omega (arith, granted_fewer w t (oldest_some table w.state w.state.trains t e)))

  -- more of them change nothing
  pub grants_enough : (m n : ℕ) (w : Work) → asked_count w.state ≤ m → asked_count w.state ≤ n
      → grants table m w ≡ grants table n w
  unfolding grants
  grants_enough zero n w few few' = sym (grants_stop n w (none_asked w (omega arith)))
  grants_enough (suc m) zero w few few' = grants_stop (suc m) w (none_asked w (omega arith))
  grants_enough (suc m) (suc n) w few few' =
      at (oldest table w.state w.state.trains) refl (λ t h k. grants_enough m n (granted w t) h k)
    where
      at : (r : Option ℕ) → oldest table w.state w.state.trains ≡ r
          → ((t : ℕ) → asked_count (granted w t).state ≤ m → asked_count (granted w t).state ≤ n
          → grants table m (granted w t) ≡ grants table n (granted w t))
          → proceed r w (λ t. grants table m (granted w t)) ≡ proceed r w (λ t. grants table n (granted w t))
      at none e rest = refl
      at (some t) e rest =
          let less = granted_fewer w t (oldest_some table w.state w.state.trains t e) in
          rest t (omega arith) (omega arith)

  -- ---- until none can be granted

  pub few_asked : (w : Work) → asked_count w.state ≤ w.state.trains
  few_asked w = count_le w.state.trains (λ t. is_asked (train_of w.state t).status)

  pub settled_end : (w : Work) → let v = settled table w in Nobody table v.state v.state.trains
  settled_end w = grants_end _ w (few_asked w)

  pub settled_stop : (w : Work) → Nobody table w.state w.state.trains → settled table w ≡ w
  settled_stop w h = grants_stop _ w h

  pub settled_next : (w : Work) (t : ℕ) → Consistent w.state → Turn table w t
      → settled table (granted w t) ≡ settled table w
  settled_next w t d f =
      let few = few_asked w in
      sym (grants_next w.state.trains w t (some_oldest table w.state d.distinct t f)) ∙
      grants_enough (suc w.state.trains) w.state.trains w (omega arith) few
