-- What keeps a state consistent: one law for every change of one train's record, with or without a record logged, and
-- its four uses, a request, an arrival, a grant and a record logged alone. The change may count a train as a holder
-- where the old record was one, or where there is room.
use mathlib.Core.Path.{◌≡◌, refl, sym, subst, ◌∙◌}
use mathlib.Core.Logic.{◌≢◌}
use mathlib.Core.Bool.{Bool, true, false, not, ◌&&◌, ◌||◌, or-false, or-true, false≢true, true≢false}
use mathlib.Core.List.{List}
use Prim.Native.Nat.{ℕ, ◌+◌, ◌≤◌, ◌<◌}
use native.Mathlib.Omega.{arith}
use lib.Dec.{eqb}
use lib.ListN.{length}
use borrow.Author.Tests.{eqb-true, eqb-false, eq-eqb, ne_eqb, not-true}
use Rattle.common.specs.Below.{of_bool}
use Rattle.common.proofs.Tests.{clash, by_equality, and_left, and_right, and_both}
use Rattle.common.proofs.Below.{of_bool_le, below_any}
use Rattle.line.specs.Route.{section_of}
use Rattle.line.specs.Line.{tracks_at}
use Rattle.line.specs.Holding.{at, is_stabled, holds_post, holds_section, post_holders}
use Rattle.line.proofs.Holding.{standing_holds, standing_section, standing_short}
use Rattle.line.proofs.Travel.{next_between, next_other, next_past, next_back}
use Rattle.line.proofs.WellFormed.{WellFormed}
use Rattle.tracks.proofs.Choice.{Chosen}
use Rattle.completion.specs.Configuration.{moved, code_below}
use Rattle.completion.specs.Table.{bit_of}
use Rattle.rules.specs.Types.{Asked, Train, State}
use Rattle.rules.specs.State.{is_asked, is_running, asked_as, at_end, next_of, located_at, track_at, train_of, line_of}
use Rattle.rules.specs.State.{located, holders_of, track_held, free_track, reached, with_status, arrived_next}
use Rattle.rules.specs.State.{with_train, counting, one_logged}
use Rattle.rules.specs.Granting.{grantable, granting}
use Rattle.rules.proofs.Trains.{asked_idle, idle_ahead, in_fleet, changed, changed_own, changed_other}
use Rattle.rules.proofs.Trains.{changed_each, changed_line, changed_count}
use Rattle.rules.proofs.Validity.{TrainValid, Distinct, Consistent, next_post_below, asked_short}
use Rattle.rules.proofs.FreeTrack.{free_chosen, free_fewer}

-- ---- the law

-- what train t's new record x must meet, where n records are logged then
pub record Change (s : State) (t : ℕ) (x : Train) (n : ℕ) : Type 0 where
  pub place : t < length s.fleet
  pub route : x.route ≡ (train_of s t).route
  pub more : s.logged ≤ n
  pub train : TrainValid x n
  pub section : (i : ℕ) → i < s.posts
      → holders_of s i + of_bool (holds_section (located_at s.sidings x) i)
      ≤ 1 + of_bool (holds_section (located s t) i)
  pub post : (p : ℕ) → p < s.posts
      → post_holders s.trains (located s) p + of_bool (holds_post (located_at s.sidings x) p)
      ≤ tracks_at (line_of s) p + of_bool (holds_post (located s t) p)
  pub track : (p : ℕ) → p < s.posts → holds_post (located_at s.sidings x) p ≡ true
      → (1 ≤ track_at x p) × (track_at x p ≤ tracks_at (line_of s) p)
  pub differ : (p u : ℕ) → p < s.posts → u < s.trains → u ≢ t → holds_post (located_at s.sidings x) p ≡ true
      → holds_post (located s u) p ≡ true → track_at x p ≢ track_at (train_of s u) p
  pub away : is_stabled s.sidings x.route.end.0 x.at.0 ≡ true → x.track.0 ≡ 0
  pub number : (u : ℕ) → u < s.trains → u ≢ t → is_asked x.status ≡ true → is_asked (train_of s u).status ≡ true
      → asked_as x.status ≢ asked_as (train_of s u).status

-- the others' numbers stay as they were
pub distinct_change : (s : State) (t : ℕ) (x : Train) (n : ℕ) → t < length s.fleet
    → ((u : ℕ) → u < s.trains → u ≢ t → is_asked x.status ≡ true → is_asked (train_of s u).status ≡ true
    → asked_as x.status ≢ asked_as (train_of s u).status)
    → Distinct s → Distinct (changed s t x n)
distinct_change s t x n place number d u v ku kv = by_equality u t
    (λ e. by_equality v t
    (λ f p q z. e ∙ sym f)
    (λ f. rw (e, changed_own s t x n place, changed_other s t x n v f) (λ p q z. absurd (number v kv f p q z))))
    (λ e. by_equality v t
    (λ f. rw (f, changed_own s t x n place, changed_other s t x n u e) (λ p q z. absurd (number u ku e q p (sym z))))
    (λ f. rw (changed_other s t x n u e, changed_other s t x n v f) (d u v ku kv)))

module _ (s : State) (d : Consistent s) (t : ℕ) (known : t < s.trains) (x : Train) (n : ℕ) (c : Change s t x n) where
  later : (y : Train) → TrainValid y s.logged → TrainValid y n
  later y v = record {
    inside = v.inside;
    busy = v.busy;
    numbered = λ q. omega (arith, v.numbered q, c.more);
    finished = v.finished;
  }

  pub valid_change : Consistent (changed s t x n)
  valid_change = record {
    line = subst WellFormed (sym (changed_line s t x n c.route)) d.line;
    each = λ u k.
        changed_each s t x n (λ v y. TrainValid y n) c.place c.train u (λ h. later (train_of s u) (d.each u k));
    sections = λ i k.
        let e = changed_count s t x n (λ y. holds_section (located_at s.sidings y) i) s.trains known c.place in
        omega (arith, c.section i k);
    posts = λ p k.
        let e = changed_count s t x n (λ y. holds_post (located_at s.sidings y) p) s.trains known c.place in
        omega (arith, c.post p k);
    tracks = λ p u kp ku.
        changed_each s t x n
        (λ v y. holds_post (located_at s.sidings y) p ≡ true
        → (1 ≤ track_at y p) × (track_at y p ≤ tracks_at (line_of s) p))
        c.place (c.track p kp) u (λ h. d.tracks p u kp ku);
    differ = λ p u v kp ku kv. by_equality u t
        (λ e. by_equality v t
        (λ f a b z. e ∙ sym f)
        (λ f. rw (e, changed_own s t x n c.place, changed_other s t x n v f)
        (λ a b z. absurd (c.differ p v kp kv f a b z))))
        (λ e. by_equality v t
        (λ f. rw (f, changed_own s t x n c.place, changed_other s t x n u e)
        (λ a b z. absurd (c.differ p u kp ku e b a (sym z))))
        (λ f. rw (changed_other s t x n u e, changed_other s t x n v f) (d.differ p u v kp ku kv)));
    away = λ u k.
        changed_each s t x n
        (λ v y. is_stabled s.sidings y.route.end.0 y.at.0 ≡ true → y.track.0 ≡ 0)
        c.place c.away u (λ h. d.away u k);
    distinct = distinct_change s t x n c.place c.number d.distinct;
    few_given = d.few_given;
  }

-- ---- what the test of a grant says

pub record Grantable (table : List ℕ) (s : State) (t : ℕ) : Type 0 where
  pub asks : is_asked (train_of s t).status ≡ true
  pub section : holders_of s (section_of (train_of s t).at.0 (next_of (train_of s t))) ≡ 0
  pub track : free_track s t (next_of (train_of s t)) ≢ 0
  pub bit : bit_of table (code_below s.trains (moved (reached s) t)) ≡ true

module _ (table : List ℕ) (s : State) (t : ℕ) where
  pub grantable_facts : grantable table s t ≡ true → Grantable table s t
  unfolding grantable
  grantable_facts e = record {
    asks = search (and_left, and_right);
    section = eqb-true _ _ (search (and_left, and_right));
    track = eqb-false _ _ (not-true _ (search (and_left, and_right)));
    bit = search (and_left, and_right);
  }

  pub is_grantable : Grantable table s t → grantable table s t ≡ true
  unfolding grantable
  is_grantable g = rw (g.asks, eq-eqb _ _ g.section, ne_eqb _ _ g.track, g.bit)

-- ---- its uses

-- more records, and no train changed: no request's number leaves its range
pub valid_counted : (s : State) (n : ℕ) → Consistent s → s.logged ≤ n → Consistent (counting s n)
valid_counted s n d more = record {
  line = d.line;
  each = λ u k.
      let v = d.each u k in record {
        inside = v.inside;
        busy = v.busy;
        numbered = λ q. omega (arith, v.numbered q);
        finished = v.finished;
      };
  sections = d.sections;
  posts = d.posts;
  tracks = d.tracks;
  differ = d.differ;
  away = d.away;
  distinct = d.distinct;
  few_given = d.few_given;
}

pub valid_logged : (s : State) → Consistent s → Consistent (one_logged s)
valid_logged s d = valid_counted s (s.logged + 1) d (omega arith)

-- a Running train that becomes Free where it ran to holds no more than before, whether it is stabled there or not
fewer_held : (c a b : Bool) → of_bool (not c && b) ≤ of_bool (a || b)
fewer_held true a b = omega arith
fewer_held false true b = of_bool_le b
fewer_held false false b = omega arith

-- a train that is short of its end has its place in the fleet
pub short_place : (s : State) (t : ℕ) → (train_of s t).at.0 ≢ (train_of s t).route.end.0 → t < length s.fleet
short_place s t short =
    in_fleet s t (λ x. not (at_end x)) refl (rw (ne_eqb (train_of s t).at.0 (train_of s t).route.end.0 short))

module _ (s : State) (d : Consistent s) (t : ℕ) (known : t < s.trains) where
  -- "the train becomes Asked"
  pub valid_request : (train_of s t).at.0 ≢ (train_of s t).route.end.0 → is_running (train_of s t).status ≡ false
      → Consistent (one_logged (with_train s t (with_status (train_of s t) (Asked s.logged))))
  valid_request short idle =
      let y = train_of s t in
      let same : (p : ℕ) → track_at (with_status y (Asked s.logged)) p ≡ track_at y p =
      λ p. rw (idle_ahead y.status idle) in
      let held : (p : ℕ) → holds_post (located_at s.sidings (with_status y (Asked s.logged))) p ≡ true
      → holds_post (located s t) p ≡ true = λ p h. rw (idle, h) in
      valid_change s d t known (with_status (train_of s t) (Asked s.logged)) (s.logged + 1) (record {
        place = short_place s t short;
        route = refl;
        more = omega arith;
        train = record {
          inside = (d.each t known).inside;
          busy = λ q. short;
          numbered = λ q. omega arith;
          finished = (d.each t known).finished;
        };
        section = λ i k. rw (standing_section s.sidings _ _ i) (omega (arith, d.sections i k));
        post = λ p k. rw idle (omega (arith, d.posts p k));
        track = λ p k h. rw (same p) (d.tracks p t k known (held p h));
        differ = λ p u k ku z h g e. z (sym (d.differ p t u k known ku (held p h) g (sym (same p) ∙ e)));
        away = d.away t known;
        number = λ u ku h p q e. omega (arith, (d.each u ku).numbered q);
      })

  -- "the train becomes Free at the post it ran to"
  module _ (short : (train_of s t).at.0 ≢ (train_of s t).route.end.0)
      (runs : is_running (train_of s t).status ≡ true) where
    abbrev ran : Train
    ran = train_of s t

    abbrev arrived : Train
    arrived = arrived_next s.sidings ran

    abbrev stabled? : Bool
    stabled? = is_stabled s.sidings ran.route.end.0 (next_of ran)

    holds_there : (p : ℕ) → holds_post (located_at s.sidings arrived) p ≡ not stabled? && eqb (next_of ran) p
    holds_there p = standing_holds s.sidings ran.route.end.0 (next_of ran) p

    -- it holds the post that it ran to, and no other
    there : (p : ℕ) → holds_post (located_at s.sidings arrived) p ≡ true → (stabled? ≡ false) × (next_of ran ≡ p)
    there p h =
        let e = sym (holds_there p) ∙ h in
        (not-true _ (and_left (not stabled?) _ e), eqb-true _ _ (and_right (not stabled?) _ e))

    held_before : (p : ℕ) → holds_post (located_at s.sidings arrived) p ≡ true → holds_post (located s t) p ≡ true
    held_before p h = rw (runs, eq-eqb _ _ (there p h).1) (or-true (eqb ran.at.0 p))

    -- "A train keeps its track while it holds the post"
    pub arrival_track : (p : ℕ) → holds_post (located_at s.sidings arrived) p ≡ true
        → track_at arrived p ≡ track_at ran p
    arrival_track p h =
        let r = there p h in
        let other : ran.at.0 ≢ p = λ z. next_other _ _ _ (d.each t known).inside short (r.1 ∙ sym z) in
        rw (eq-eqb _ _ r.1, r.0, ne_eqb _ _ other)

    pub valid_arrival : Consistent (one_logged (with_train s t (arrived_next s.sidings (train_of s t))))
    valid_arrival = valid_change s d t known arrived (s.logged + 1) (record {
      place = short_place s t short;
      route = refl;
      more = omega arith;
      train = record {
        inside = next_between _ _ _ (d.each t known).inside short;
        busy = λ q. absurd (true≢false q);
        numbered = λ q. absurd (false≢true q);
        finished = rw (
          ne_eqb _ _ (next_past _ _ _ (d.each t known).inside short),
          next_back _ _ _ (d.each t known).inside short,
          eq-eqb ran.at.0 _ refl,
          eq-eqb (next_of ran) _ refl,
        );
      };
      section = λ i k. rw (standing_section s.sidings _ _ i) (omega (arith, d.sections i k));
      post = λ p k.
          rw (runs, holds_there p)
          (omega (arith, d.posts p k, fewer_held stabled? (eqb ran.at.0 p) (eqb (next_of ran) p)));
      track = λ p k h. rw (arrival_track p h) (d.tracks p t k known (held_before p h));
      differ = λ p u k ku z h g e.
          z (sym (d.differ p t u k known ku (held_before p h) g (sym (arrival_track p h) ∙ e)));
      away = λ e. rw e;
      number = λ u ku h p. absurd (false≢true p);
    })

  -- a grant, by whatever table
  module _ (table : List ℕ) (can : grantable table s t ≡ true) where
    abbrev asks : Train
    asks = train_of s t

    abbrev next : ℕ
    next = next_of (train_of s t)

    abbrev runs_to : Train
    runs_to = granting s t

    g : Grantable table s t
    g = grantable_facts table s t can

    short : asks.at.0 ≢ asks.route.end.0
    short = asked_short s d t known g.asks

    -- it stood at its post
    pub asker_stands : located s t ≡ at asks.at.0
    asker_stands = rw (
      asked_idle asks.status g.asks,
      standing_short s.sidings asks.route.end.0 asks.at.0 (ne_eqb _ _ short),
    )

    fewer : post_holders s.trains (located s) next < tracks_at (line_of s) next
    fewer = free_fewer s d next (next_post_below s d t known short) t g.track

    c : Chosen (track_held s next) (tracks_at (line_of s) next) (free_track s t next)
    c = free_chosen s t next

    -- the post that it runs to, where it is not the one it stands at
    ahead : (p : ℕ) → asks.at.0 ≢ p → holds_post (located_at s.sidings runs_to) p ≡ true → next ≡ p
    ahead p q h = eqb-true _ _ (rw (ne_eqb _ _ q) at h)

    track_given : (p : ℕ) → p < s.posts → holds_post (located_at s.sidings runs_to) p ≡ true
        → (1 ≤ track_at runs_to p) × (track_at runs_to p ≤ tracks_at (line_of s) p)
    track_given p k h = by_equality asks.at.0 p
        (λ q. rw (eq-eqb _ _ q) (rw (eq-eqb _ _ q) at (d.tracks p t k known (rw (asker_stands, eq-eqb _ _ q)))))
        (λ q. rw (ne_eqb _ _ q, ← ahead p q h) (omega (arith, g.track), c.few))

    track_new : (p u : ℕ) → p < s.posts → u < s.trains → u ≢ t → holds_post (located_at s.sidings runs_to) p ≡ true
        → holds_post (located s u) p ≡ true → track_at runs_to p ≢ track_at (train_of s u) p
    track_new p u k ku z h b = by_equality asks.at.0 p
        (λ q. rw (eq-eqb _ _ q)
        (λ y. z (sym (d.differ p t u k known ku (rw (asker_stands, eq-eqb _ _ q)) b (rw (eq-eqb _ _ q) y)))))
        (λ q. rw (ne_eqb _ _ q) (λ y. clash (track_held s p (free_track s t next))
        (below_any s.trains _ u ku (and_both _ _ b (eq-eqb _ _ (sym y))))
        (subst (λ (i : ℕ). track_held s i (free_track s t next) ≡ false) (ahead p q h) (c.free g.track))))

    pub valid_grant : Consistent (one_logged (with_train s t (granting s t)))
    valid_grant = valid_change s d t known runs_to (s.logged + 1) (record {
      place = in_fleet s t (λ x. is_asked x.status) refl g.asks;
      route = refl;
      more = omega arith;
      train = record {
        inside = (d.each t known).inside;
        busy = λ q. short;
        numbered = λ q. absurd (false≢true q);
        finished = (d.each t known).finished;
      };
      section = λ i k. by_equality (section_of asks.at.0 next) i
          (λ q.
          let free : holders_of s i ≡ 0 = subst (λ (z : ℕ). holders_of s z ≡ 0) q g.section in
          omega (arith, of_bool_le (eqb (section_of asks.at.0 next) i)))
          (λ q. rw (ne_eqb (section_of asks.at.0 next) i q) (omega (arith, d.sections i k)));
      post = λ p k. by_equality next p
          (λ q.
          let free : post_holders s.trains (located s) p < tracks_at (line_of s) p = rw q at fewer in
          omega (arith, of_bool_le (eqb asks.at.0 p || eqb next p)))
          (λ q. rw (asker_stands, ne_eqb next p q, or-false (eqb asks.at.0 p)) (omega (arith, d.posts p k)));
      track = track_given;
      differ = track_new;
      away = d.away t known;
      number = λ u ku h p. absurd (false≢true p);
    })
