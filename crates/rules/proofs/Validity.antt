-- Valid states as facts, both ways: `Consistent s` holds exactly where the test `consistent s` passes. It says all that
-- `valid s` asks but the range of the count, which a frame that is logged may leave.
use mathlib.Core.Path.{◌≡◌, refl, sym, subst, ◌∙◌}
use mathlib.Core.Logic.{◌≢◌, ⊎_elim}
use mathlib.Core.Bool.{Bool, true, false, not, ◌&&◌, ◌||◌, false≢true, true≢false}
use Prim.Native.Nat.{ℕ, ◌≤◌, ◌<◌}
use native.Mathlib.Omega.{arith}
use lib.Dec.{leb, eqb, ltb}
use lib.ListN.{get_or}
use borrow.Author.Tests.{ltb-true, ltb-false, leb-true, eqb-true, eqb-false, lt-ltb, le-leb, eq-eqb, ne_eqb, not-true}
use Rattle.common.specs.Below.{all_below}
use Rattle.common.proofs.Tests.{clash, by_cases, by_equality, by_order, not_passed, and_left, and_right, and_both}
use Rattle.common.proofs.Tests.{or_left, or_right, not_of_false}
use Rattle.common.proofs.Below.{of_bool_le, all_below_lem, below_all, count_none, one_counted}
use Rattle.line.specs.Route.{next_post, between, section_of}
use Rattle.line.specs.Line.{in_range, tracks_at}
use Rattle.line.specs.Holding.{is_stabled, holds_post, holds_section, post_holders}
use Rattle.line.proofs.Holding.{standing_section}
use Rattle.line.proofs.Travel.{Between, between_of, of_between, next_below}
use Rattle.line.proofs.WellFormed.{WellFormed, ranged, well_formed_lem, is_well_formed}
use Rattle.rules.specs.Types.{Status, Free, Asked, Running, Last, None, Some, Train, State}
use Rattle.rules.specs.State.{is_free, is_asked, is_running, asked_as, is_nothing, is_last, at_end, next_of, located_at}
use Rattle.rules.specs.State.{track_at, train_of, line_of, located, possessed, holders_of}
use Rattle.rules.specs.Valid.{last_valid, train_valid, sections_valid, posts_valid, track_valid, tracks_valid}
use Rattle.rules.specs.Valid.{away_valid, number_below, same_number, number_valid, most_given, consistent, most_counted}
use Rattle.rules.specs.Valid.{valid}
use Rattle.rules.proofs.Trains.{asked_busy, route_of_lem}

-- a train's record x, where n records are logged
pub record TrainValid (x : Train) (n : ℕ) : Type 0 where
  pub inside : Between x.route.start.0 x.at.0 x.route.end.0
  pub busy : is_free x.status ≡ false → x.at.0 ≢ x.route.end.0
  pub numbered : is_asked x.status ≡ true → asked_as x.status < n
  pub finished : last_valid x ≡ true

-- "FA numbers are distinct"
abbrev pub Distinct : State → Type 0
Distinct s = (t u : ℕ) → t < s.trains → u < s.trains
    → is_asked (train_of s t).status ≡ true → is_asked (train_of s u).status ≡ true
    → asked_as (train_of s t).status ≡ asked_as (train_of s u).status → t ≡ u

-- "the tracks held at a post differ"
abbrev pub Differ : State → Type 0
Differ s = (p t u : ℕ) → p < s.posts → t < s.trains → u < s.trains
    → holds_post (located s t) p ≡ true → holds_post (located s u) p ≡ true
    → track_at (train_of s t) p ≡ track_at (train_of s u) p → t ≡ u

pub record Consistent (s : State) : Type 0 where
  pub line : WellFormed (line_of s)
  pub each : (t : ℕ) → t < s.trains → TrainValid (train_of s t) s.logged
  pub sections : (i : ℕ) → i < s.posts → holders_of s i ≤ 1
  pub posts : (p : ℕ) → p < s.posts → post_holders s.trains (located s) p ≤ tracks_at (line_of s) p
  -- .. "and are in its count"
  pub tracks : (p t : ℕ) → p < s.posts → t < s.trains → holds_post (located s t) p ≡ true
      → (1 ≤ track_at (train_of s t) p) × (track_at (train_of s t) p ≤ tracks_at (line_of s) p)
  pub differ : Differ s
  -- "one put away in a siding has none"
  pub away : (t : ℕ) → t < s.trains
      → is_stabled s.sidings (train_of s t).route.end.0 (train_of s t).at.0 ≡ true → (train_of s t).track.0 ≡ 0
  pub distinct : Distinct s
  -- 02, card 4: at most twenty local runs are given
  pub few_given : s.given ≤ most_given

-- ---- the tests of one train

tested_train : (x : Train) (n : ℕ) → train_valid x ≡ true → number_below x.status n ≡ true → TrainValid x n
tested_train x n e b =
    let place = between x.route.start.0 x.at.0 x.route.end.0 in
    let onward = is_free x.status || not (at_end x) in
    let rest : onward && last_valid x ≡ true = and_right place _ e in
    record {
      inside = between_of _ _ _ (and_left place _ e);
      busy = λ q. eqb-false _ _ (not-true _ (busy (is_free x.status) (not (at_end x)) (and_left onward _ rest) q));
      numbered = number x.status b;
      finished = and_right onward _ rest;
    }
  where
    busy : (a b : Bool) → a || b ≡ true → a ≡ false → b ≡ true
    busy true b e q = absurd (true≢false q)
    busy false b e q = e

    number : (w : Status) → number_below w n ≡ true → is_asked w ≡ true → asked_as w < n
    number Free b q = absurd (false≢true q)
    number (Asked m) b q = ltb-true m n b
    number (Running k) b q = absurd (false≢true q)

train_tested : (x : Train) (n : ℕ) → TrainValid x n → (train_valid x ≡ true) × (number_below x.status n ≡ true)
train_tested x n d = (
  and_both (between x.route.start.0 x.at.0 x.route.end.0) _ (of_between _ _ _ d.inside)
      (and_both (is_free x.status || not (at_end x)) _
      (by_cases (is_free x.status)
      (λ e. or_left (is_free x.status) _ e)
      (λ e. or_right (is_free x.status) (not (at_end x)) (rw (ne_eqb x.at.0 x.route.end.0 (d.busy e)))))
      d.finished),
  number x.status d.numbered,
)
  where
    number : (w : Status) → (is_asked w ≡ true → asked_as w < n) → number_below w n ≡ true
    number Free h = refl
    number (Asked m) h = lt-ltb m n (h refl)
    number (Running k) h = refl

-- ---- the last finished move

-- where a train has one, no other is its last
pub is_last_lem : (x : Last) (p q : ℕ) → is_last x p q ≡ true → x ≡ Some (record { 0 = p }, record { 0 = q })
is_last_lem None p q e = absurd (false≢true e)
is_last_lem (Some m) p q e =
    let from : m.0.0 ≡ p = eqb-true _ _ (and_left (eqb m.0.0 p) _ e) in
    let to : m.1.0 ≡ q = eqb-true _ _ (and_right (eqb m.0.0 p) _ e) in
    rw (← from, ← to)

module _ (x : Train) (v : last_valid x ≡ true) where
  pub none_finished : x.at.0 ≡ x.route.start.0 → is_nothing x.last ≡ true
  none_finished e = rw (eq-eqb _ _ e) at v

  pub one_finished : x.at.0 ≢ x.route.start.0
      → is_last x.last (next_post x.at.0 x.route.start.0) x.at.0 ≡ true
  one_finished h = rw (ne_eqb _ _ h) at v

  -- so the one that it has came to the present post, from the post before it
  pub finished_move : (p q : ℕ) → is_last x.last p q ≡ true
      → (x.at.0 ≢ x.route.start.0) × (p ≡ next_post x.at.0 x.route.start.0) × (q ≡ x.at.0)
  finished_move p q e = by_equality x.at.0 x.route.start.0
      (λ h. absurd (none x.last (none_finished h) e))
      (λ h.
      let z = subst (λ (l : Last). is_last l p q ≡ true) (is_last_lem x.last _ _ (one_finished h)) e in
      let back = next_post x.at.0 x.route.start.0 in
      (h, sym (eqb-true back p (and_left (eqb back p) _ z)), sym (eqb-true x.at.0 q (and_right (eqb back p) _ z))))
    where
      none : (y : Last) → is_nothing y ≡ true → is_last y p q ≡ true → ⊥
      none None a b = false≢true b
      none (Some m) a b = false≢true a

-- ---- the tests of two trains' numbers

numbers_differ : (v w : Status) → not (same_number v w) ≡ true → is_asked v ≡ true → is_asked w ≡ true
    → asked_as v ≢ asked_as w
numbers_differ Free w e p q = absurd (false≢true p)
numbers_differ (Asked m) Free e p q = absurd (false≢true q)
numbers_differ (Asked m) (Asked n) e p q = eqb-false m n (not-true (eqb m n) e)
numbers_differ (Asked m) (Running k) e p q = absurd (false≢true q)
numbers_differ (Running k) w e p q = absurd (false≢true p)

different : (v w : Status) → (is_asked v ≡ true → is_asked w ≡ true → asked_as v ≢ asked_as w)
    → not (same_number v w) ≡ true
different Free w h = refl
different (Asked m) Free h = refl
different (Asked m) (Asked n) h = rw (ne_eqb m n (h refl refl))
different (Asked m) (Running k) h = refl
different (Running k) w h = refl

-- the test looks at lower trains only; the numbers of two trains differ either way
distinct_numbers : (s : State) → ((t : ℕ) → t < s.trains → number_valid s t ≡ true) → Distinct s
distinct_numbers s h t u kt ku p q e = by_equality t u (λ z. z) (λ z. absurd (by_cases (ltb t u)
    (λ b. lower u t ku (ltb-true t u b) q p (sym e))
    (λ b. lower t u kt (let y = ltb-false t u b in omega arith) p q e)))
  where
    lower : (a b : ℕ) → a < s.trains → b < a → is_asked (train_of s a).status ≡ true
        → is_asked (train_of s b).status ≡ true
        → asked_as (train_of s a).status ≢ asked_as (train_of s b).status
    lower a b ka k = numbers_differ (train_of s a).status (train_of s b).status
        (all_below_lem a _ (and_right (number_below (train_of s a).status s.logged) _ (h a ka)) b k)

-- ---- the tests of tracks

-- where the one is so, the other is
given : (a : Bool) {b : Bool} → not a || b ≡ true → a ≡ true → b ≡ true
given true e q = e
given false e q = absurd (false≢true q)

module _ (s : State) where
  tested_track : (p t : ℕ) → track_valid s p t ≡ true → holds_post (located s t) p ≡ true
      → (1 ≤ track_at (train_of s t) p) × (track_at (train_of s t) p ≤ tracks_at (line_of s) p)
  tested_track p t e h =
      let k = track_at (train_of s t) p in
      let r = and_left (in_range 1 (tracks_at (line_of s) p) k) _ (given (holds_post (located s t) p) e h) in
      (leb-true 1 k (and_left (leb 1 k) _ r), leb-true k _ (and_right (leb 1 k) _ r))

  -- the test looks at lower trains only; the tracks of two trains differ either way
  tracks_differ : ((p t : ℕ) → p < s.posts → t < s.trains → track_valid s p t ≡ true) → Differ s
  tracks_differ h p t u kp kt ku a b e = by_equality t u (λ z. z) (λ z. by_order t u
      (λ l. lower u t ku l b a (sym e))
      (λ l. lower t u kt (omega arith) a b e))
    where
      lower : {A : Type 0} (v w : ℕ) → v < s.trains → w < v → holds_post (located s v) p ≡ true
          → holds_post (located s w) p ≡ true → track_at (train_of s v) p ≡ track_at (train_of s w) p → A
      lower v w kv l a b e =
          let r = and_right (in_range 1 (tracks_at (line_of s) p) (track_at (train_of s v) p)) _
          (given (holds_post (located s v) p) (h p v kp kv) a) in
          clash _ (and_both _ _ b (eq-eqb _ _ (sym e))) (not-true _ (all_below_lem v _ r w l))

  track_tested : Consistent s → (p t : ℕ) → p < s.posts → t < s.trains → track_valid s p t ≡ true
  track_tested d p t kp kt = by_cases (holds_post (located s t) p)
      (λ e. rw e (
      let r = d.tracks p t kp kt e in
      and_both (in_range 1 (tracks_at (line_of s) p) (track_at (train_of s t) p)) _ (ranged 1 _ _ r.0 r.1)
      (below_all t _ (λ u l. not_of_false _ (not_passed _ (λ q.
      let y = d.differ p t u kp kt (omega arith) e (and_left (holds_post (located s u) p) _ q)
      (sym (eqb-true _ _ (and_right (holds_post (located s u) p) _ q))) in omega arith))))))
      (λ e. rw e)

-- ---- the state

module _ (s : State) where
  pub consistent_facts : consistent s ≡ true → Consistent s
  unfolding consistent
  consistent_facts e =
      let trains : all_below s.trains (λ t. train_valid (train_of s t)) ≡ true = search (and_left, and_right) depth 8 in
      let sections : sections_valid s ≡ true = search (and_left, and_right) depth 8 in
      let posts : posts_valid s ≡ true = search (and_left, and_right) depth 8 in
      let held : tracks_valid s ≡ true = search (and_left, and_right) depth 8 in
      let tracks : (p t : ℕ) → p < s.posts → t < s.trains → track_valid s p t ≡ true =
      λ p t kp kt. all_below_lem s.trains _ (all_below_lem s.posts _ held p kp) t kt in
      let away : all_below s.trains (λ t. away_valid s.sidings (train_of s t)) ≡ true =
      search (and_left, and_right) depth 8 in
      let numbers = all_below_lem s.trains (number_valid s) (search (and_left, and_right) depth 8) in
      record {
        line = well_formed_lem (line_of s) (search (and_left, and_right) depth 8);
        each = λ t k.
            tested_train (train_of s t) s.logged (all_below_lem s.trains _ trains t k)
            (and_left (number_below (train_of s t).status s.logged) _ (numbers t k));
        sections = λ i k. leb-true _ _ (all_below_lem s.posts _ sections i k);
        posts = λ p k. leb-true _ _ (all_below_lem s.posts _ posts p k);
        tracks = λ p t kp kt. tested_track s p t (tracks p t kp kt);
        differ = tracks_differ s tracks;
        away = λ t k h. eqb-true _ _ (given _ (all_below_lem s.trains _ away t k) h);
        distinct = distinct_numbers s numbers;
        few_given = leb-true _ _ (search (and_left, and_right) depth 8);
      }

  pub is_consistent : Consistent s → consistent s ≡ true
  unfolding consistent
  is_consistent d =
      let each : (t : ℕ) → t < s.trains
      → (train_valid (train_of s t) ≡ true) × (number_below (train_of s t).status s.logged ≡ true) =
      λ t k. train_tested (train_of s t) s.logged (d.each t k) in
      let numbers : (t : ℕ) → t < s.trains → number_valid s t ≡ true =
      λ t k. and_both _ _ (each t k).1 (below_all t _ (λ u l.
      different (train_of s t).status (train_of s u).status
      (λ p q z. let y = d.distinct t u k (omega arith) p q z in omega arith))) in
      rw (
        is_well_formed (line_of s) d.line,
        le-leb _ _ d.few_given,
        below_all s.trains (λ t. train_valid (train_of s t)) (λ t k. (each t k).0),
        below_all s.posts (λ i. leb (holders_of s i) 1)
            (λ i k. le-leb _ _ (d.sections i k)),
        below_all s.posts (λ p. leb (post_holders s.trains (located s) p) (get_or s.tracks p 0))
            (λ p k. le-leb _ _ (d.posts p k)),
        below_all s.posts (λ p. all_below s.trains (track_valid s p))
            (λ p kp. below_all s.trains (track_valid s p) (λ t kt. track_tested s d p t kp kt)),
        below_all s.trains (λ t. away_valid s.sidings (train_of s t)) (λ t k.
            by_cases (is_stabled s.sidings (train_of s t).route.end.0 (train_of s t).at.0)
            (λ e. rw (e, eq-eqb _ _ (d.away t k e)))
            (λ e. rw e)),
        below_all s.trains (number_valid s) numbers,
      )

  -- a valid state is a consistent one whose count is in its range

  pub valid_facts : valid s ≡ true → Consistent s
  unfolding valid
  valid_facts e = consistent_facts (and_left (consistent s) _ e)

  pub few_logged : valid s ≡ true → s.logged ≤ most_counted
  unfolding valid
  few_logged e = leb-true _ _ (and_right (consistent s) _ e)

  pub is_valid : Consistent s → s.logged ≤ most_counted → valid s ≡ true
  unfolding valid
  is_valid d few = and_both _ _ (is_consistent d) (le-leb _ _ few)

-- ---- what a valid state says of its trains

module _ (s : State) (d : Consistent s) (t : ℕ) (k : t < s.trains) where
  pub start_below : (train_of s t).route.start.0 < s.posts
  start_below = rw (route_of_lem s t) at (d.line.starts t k)

  pub end_below : (train_of s t).route.end.0 < s.posts
  end_below = rw (route_of_lem s t) at (d.line.ends t k)

  pub post_below : (train_of s t).at.0 < s.posts
  post_below =
      let a = start_below in let b = end_below in ⊎_elim (λ r. omega arith) (λ r. omega arith) (d.each t k).inside

  pub next_post_below : (train_of s t).at.0 ≢ (train_of s t).route.end.0 → next_of (train_of s t) < s.posts
  next_post_below short = next_below _ _ _ (d.each t k).inside short s.posts start_below end_below

  -- an Asked train is short of its end
  pub asked_short : is_asked (train_of s t).status ≡ true → (train_of s t).at.0 ≢ (train_of s t).route.end.0
  asked_short a = (d.each t k).busy (asked_busy (train_of s t).status a)

-- "No section has two holders": whatever its number, for past the line there is nobody to hold one
pub section_one : (s : State) → Consistent s → (i : ℕ) → holders_of s i ≤ 1
section_one s d i = by_order i s.posts (d.sections i) (λ past.
    let none = count_none s.trains (λ t. holds_section (located s t) i)
    (λ t k. not_passed _ (λ h. omega (arith, low (train_of s t) h, post_below s d t k))) in
    omega (arith, of_bool_le (possessed s i)))
  where
    low : (x : Train) → holds_section (located_at s.sidings x) i ≡ true → i ≤ x.at.0
    low x h = by_cases (is_running x.status)
        (λ e. let z = eqb-true (section_of x.at.0 (next_of x)) i (rw e at h) in omega arith)
        (λ e. absurd (false≢true (sym (standing_section s.sidings _ _ i) ∙ rw e at h)))

pub one_holder : (s : State) → Consistent s → (i t u : ℕ) → t < s.trains → u < s.trains
    → holds_section (located s t) i ≡ true → holds_section (located s u) i ≡ true → t ≡ u
one_holder s d i t u kt ku =
    one_counted s.trains (λ v. holds_section (located s v) i) (omega (arith, section_one s d i)) t u kt ku
