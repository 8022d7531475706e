-- One train at both ends: what ties its record in the box, its unit and the messages ever sent together, and that each
-- change at one end keeps it. Of requests nothing need be known.
use mathlib.Core.Path.{◌≡◌, refl, sym, ap, ◌∙◌}
use mathlib.Core.Logic.{◌≢◌, ◌⊎◌, inl, inr, ⊎_elim}
use mathlib.Core.Bool.{Bool, true, false, false≢true}
use mathlib.Core.List.Memᴰ
use mathlib.Core.List.{List, [], ◌∷◌, ◌++◌, Memᴰ}
use Prim.Native.Nat.{ℕ, ◌<◌}
use native.Mathlib.Omega.{arith}
use Rattle.common.proofs.Tests.{clash}
use Rattle.line.specs.Route.{distance}
use Rattle.line.proofs.Travel.{Between, next_travelled}
use Rattle.driver.specs.State.{own_move, in_phase, valid_unit}
use Rattle.driver.specs.Pressing.{moved_on}
use Rattle.rules.specs.State.{is_running, next_of, with_status, arrived_next}
use Rattle.pair.specs.Types.{Move, Message, Fa, Fe, Afe, Am, La, Le, Lb, Refused, Status, Train, Phase, Unit}
use Rattle.pair.specs.Together.{under_authority, Level}

-- from its start the post p lies before q
abbrev pub Before : Train → ℕ → ℕ → Type 0
Before x p q = distance x.route.start.0 p < distance x.route.start.0 q

-- the box gave an authority from post p: the train is past it, or at it and Running
abbrev pub Given : Train → ℕ → Type 0
Given x p = Before x p x.at.0 ⊎ ((p ≡ x.at.0) × (is_running x.status ≡ true))

-- the unit's train is Running from where the unit is
abbrev pub Runs : Train → Unit → Type 0
Runs x u = (is_running x.status ≡ true) × (u.at.0 ≡ x.at.0)

-- Known is said of the messages that were ever sent
pub record Linked (Known : Message → Type 0) (t : ℕ) (x : Train) (u : Unit) : Type 0 where
  pub train : u.train.0 ≡ t
  pub route : u.route ≡ x.route
  pub good : valid_unit u ≡ true
  pub level : Level x u
  pub covered : under_authority u.phase ≡ true → Runs x u
  -- the unit is past every move that it reported, and the box gave every authority that was sent
  pub arrivals : (m : Move) → Known (Am m) → m.train.0 ≡ t → Before x m.from.0 u.at.0
  pub authorities : (m : Move) → Known (Fe m) → m.train.0 ≡ t → Given x m.from.0

-- ---- the box's end

module _ {Known : Message → Type 0} {t : ℕ} {x : Train} {u : Unit} (k : Linked Known t x u) where
  -- a train that is not Running has its unit at its post
  pub idle_level : is_running x.status ≡ false → u.at.0 ≡ x.at.0
  idle_level idle = ⊎_elim (λ e. e) (λ r. clash (is_running x.status) r.0 idle) k.level

  idle_given : (p : ℕ) → is_running x.status ≡ false → Given x p → Before x p x.at.0
  idle_given p idle = ⊎_elim (λ e. e) (λ r. clash (is_running x.status) r.1 idle)

  -- such a train gets another status, and at most its authority is sent: "the train becomes Asked", and a grant
  pub status_linked : {More : Message → Type 0} (w : Status) → is_running x.status ≡ false
      → ((m : Move) → More (Am m) → Known (Am m))
      → ((m : Move) → More (Fe m) → Known (Fe m) ⊎ ((m.from.0 ≡ x.at.0) × (is_running w ≡ true)))
      → Linked More t (with_status x w) u
  status_linked w idle am fe = record {
    train = k.train;
    route = k.route;
    good = k.good;
    level = inl (idle_level idle);
    covered = λ a. clash (is_running x.status) (k.covered a).0 idle;
    arrivals = λ m h e. k.arrivals m (am m h) e;
    authorities = λ m h e.
        ⊎_elim (λ q. inl (idle_given m.from.0 idle (k.authorities m q e))) (λ q. inr q) (fe m h);
  }

  -- "the train becomes Free at the post it ran to": its AM was sent, so the unit is there
  pub arrived_linked : (sidings : ℕ) (m : Move) → Known (Am m) → m.train.0 ≡ t → m.from.0 ≡ x.at.0
      → Between x.route.start.0 x.at.0 x.route.end.0 → x.at.0 ≢ x.route.end.0
      → Linked Known t (arrived_next sidings x) u
  arrived_linked sidings m h own from inside short =
      let a = x.route.start.0 in
      let ahead : Before x x.at.0 u.at.0 = rw from at (k.arrivals m h own) in
      let further = next_travelled a x.at.0 x.route.end.0 inside short in
      let away : u.at.0 ≢ x.at.0 =
      λ e. let z : Before x x.at.0 x.at.0 = rw e at ahead in omega arith in
      record {
        train = k.train;
        route = k.route;
        good = k.good;
        level = inl (⊎_elim (λ e. absurd (away e)) (λ r. r.1) k.level);
        covered = λ q. absurd (away (k.covered q).1);
        arrivals = k.arrivals;
        authorities = λ n g e. inl (⊎_elim
            (λ less. omega (arith, further))
            (λ r. rw r.0 (omega (arith, further)))
            (k.authorities n g e));
      }

  -- what is known may grow by messages that fit
  pub known_more : {More : Message → Type 0}
      → ((m : Move) → More (Am m) → Known (Am m) ⊎ (m.train.0 ≡ t → Before x m.from.0 u.at.0))
      → ((m : Move) → More (Fe m) → Known (Fe m) ⊎ (m.train.0 ≡ t → Given x m.from.0))
      → Linked More t x u
  known_more am fe = record {
    train = k.train;
    route = k.route;
    good = k.good;
    level = k.level;
    covered = k.covered;
    arrivals = λ m h e. ⊎_elim (λ q. k.arrivals m q e) (λ q. q e) (am m h);
    authorities = λ m h e. ⊎_elim (λ q. k.authorities m q e) (λ q. q e) (fe m h);
  }

  -- by none
  pub known_same : {More : Message → Type 0} → ((a : Message) → More a → Known a) → Linked More t x u
  known_same h = known_more (λ m q. inl (h (Am m) q)) (λ m q. inl (h (Fe m) q))

-- ---- what is sent with a change

-- what is known, and these messages
abbrev pub With : (Message → Type 0) → List Message → Message → Type 0
With Known l a = Known a ⊎ Memᴰ a l

pub one_more : (Known : Message → Type 0) (l : List Message) (a b : Message) → With Known (l ++ a ∷ []) b
    → With Known l b ⊎ (b ≡ a)
one_more Known l a b = ⊎_elim (λ k. inl (inl k)) (λ m. ⊎_elim
    (λ q. inl (inr q)) (λ q. inr (Memᴰ.eq_of_singleton q)) (Memᴰ.append_cases l m))

-- an AM or an FE; of any other message nothing need be known
abbrev pub matters : Message → Bool
matters (Fa m) = false
matters (Fe m) = true
matters (Afe m) = false
matters (Am m) = true
matters (La m) = false
matters (Le m) = false
matters (Lb m) = false
matters (Refused n) = false

pub am_is : {m n : Move} → Am m ≡ Am n → m ≡ n
am_is e = cc

pub fe_is : {m n : Move} → Fe m ≡ Fe n → m ≡ n
fe_is e = cc

pub am_not_fe : {m n : Move} → Am m ≢ Fe n
am_not_fe e = let z : ◌≡◌ {A = ℕ} 0 1 = cc in omega arith

pub differs : {a b : Message} → matters a ≡ true → matters b ≡ false → a ≢ b
differs h k e = false≢true (sym k ∙ ap matters (sym e) ∙ h)

module _ {Known : Message → Type 0} {t : ℕ} {x : Train} {u : Unit} where
  pub none_sent : Linked Known t x u → Linked (With Known []) t x u
  none_sent k = known_same k (λ a. ⊎_elim (λ q. q) (λ q. absurd (Memᴰ.not-nil q)))

  -- one more message, of which nothing need be known
  pub other_sent : (l : List Message) (a : Message) → matters a ≡ false → Linked (With Known l) t x u
      → Linked (With Known (l ++ a ∷ [])) t x u
  other_sent l a h k = known_more k
      (λ m q. inl (⊎_elim (λ z. z) (λ z. absurd (differs refl h z)) (one_more Known l a (Am m) q)))
      (λ m q. inl (⊎_elim (λ z. z) (λ z. absurd (differs refl h z)) (one_more Known l a (Fe m) q)))

-- ---- the unit's end

module _ {Known : Message → Type 0} {t : ℕ} {x : Train} {u : Unit} (k : Linked Known t x u) where
  -- another phase, with an authority only where there is one
  pub phase_linked : (p : Phase) → valid_unit (in_phase u p) ≡ true → (under_authority p ≡ true → Runs x u)
      → Linked Known t x (in_phase u p)
  phase_linked p good cover = record {
    train = k.train;
    route = k.route;
    good = good;
    level = k.level;
    covered = cover;
    arrivals = k.arrivals;
    authorities = k.authorities;
  }

  -- an FE for the unit's own move: the box has its train there, Running
  pub own_authority : (m : Move) → Known (Fe m) → m ≡ own_move u
      → Between x.route.start.0 x.at.0 x.route.end.0
      → (is_running x.status ≡ true → x.at.0 ≢ x.route.end.0) → Runs x u
  own_authority m h own inside short =
      let a = x.route.start.0 in
      let mine : m.train.0 ≡ t = ap (λ (n : Move). n.train.0) own ∙ k.train in
      let from : m.from.0 ≡ u.at.0 = ap (λ (n : Move). n.from.0) own in
      ⊎_elim
      (λ less.
      let low : Before x u.at.0 x.at.0 = rw from at less in
      absurd (⊎_elim
      (λ e. let z : Before x x.at.0 x.at.0 = rw e at low in omega arith)
      (λ r.
      let z : Before x (next_of x) x.at.0 = rw r.1 at low in
      omega (arith, next_travelled a x.at.0 x.route.end.0 inside (short r.0)))
      k.level))
      (λ r. (r.1, sym from ∙ r.0))
      (k.authorities m h mine)

  -- the report of an arrival: the unit goes one post ahead
  pub reported_linked : {More : Message → Type 0} → under_authority u.phase ≡ true → u.at.0 ≢ u.route.end.0
      → valid_unit (moved_on u) ≡ true → Between x.route.start.0 u.at.0 x.route.end.0
      → ((m : Move) → More (Am m) → Known (Am m) ⊎ (m ≡ own_move u))
      → ((m : Move) → More (Fe m) → Known (Fe m))
      → Linked More t x (moved_on u)
  reported_linked going short good inside am fe =
      let c = k.covered going in
      let a = x.route.start.0 in
      let end : u.route.end.0 ≡ x.route.end.0 = rw k.route in
      let further : Before x u.at.0 (moved_on u).at.0 =
      rw end (omega (arith, next_travelled a u.at.0 x.route.end.0 inside (rw (← end) short))) in
      record {
        train = k.train;
        route = k.route;
        good = good;
        level = inr (c.0, rw (end, c.1));
        covered = λ q. absurd (false≢true q);
        arrivals = λ m h e. ⊎_elim (λ q. omega (arith, further, k.arrivals m q e)) (λ q. rw q further) (am m h);
        authorities = λ m h e. k.authorities m (fe m h) e;
      }
