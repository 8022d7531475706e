-- The claims of `specs/OneFrame.antt`, proved over the laws of an accepted frame and of the granting.
use mathlib.Core.Path.{◌≡◌, refl, sym, ap, ◌∙◌}
use mathlib.Core.Bool.{true, false≢true}
use mathlib.Core.Option.{Option, none, some}
use mathlib.Core.List.{List, [], ◌∷◌, append_assoc}
use Prim.Native.Nat.{ℕ, zero, suc, ◌+◌, ◌≤◌}
use native.Mathlib.Omega.{arith}
use lib.ListN.{length}
use Rattle.common.proofs.Tests.{by_equality}
use Rattle.frame.specs.Frame.{read_frame}
use Rattle.completion.specs.Configuration.{moved}
use Rattle.completion.specs.Table.{filled}
use Rattle.completion.proofs.Rule.{bit_completable, completable_bit}
use Rattle.rules.specs.State.{line_of, reached, next_move}
use Rattle.rules.specs.Valid.{consistent}
use Rattle.rules.specs.Granting.{oldest, Work, granted, proceed, grants, granting}
use Rattle.rules.specs.Answer.{most_logged, again, anew, runs_granting, answer}
use Rattle.rules.proofs.Validity.{Distinct, consistent_facts, is_consistent, valid_facts, few_logged, is_valid}
use Rattle.rules.proofs.Validity.{next_post_below, asked_short}
use Rattle.rules.proofs.FreeTrack.{free_fewer, fewer_free}
use Rattle.rules.proofs.Changes.{distinct_change, grantable_facts, is_grantable}
use Rattle.rules.proofs.Reached.{moved_within, moved_code}
use Rattle.rules.proofs.Oldest.{Oldest, oldest_none, oldest_some, earlier}
use Rattle.rules.proofs.Grants.{asked_count, Turn, granted_fewer, granted_place, none_asked, few_asked}
use Rattle.rules.proofs.Grants.{settled_next}
use Rattle.rules.proofs.Settling.{settled_settles}
use Rattle.rules.proofs.Acceptance.{Repeats, declined_before, granted_before, arrived_before, repeats_again}
use Rattle.rules.proofs.Acceptance.{new_or_again, by_verdict, refusal_leaves, paired, accepted_facts}
use Rattle.rules.proofs.Acceptance.{runs_nobody, accepted_nobody}
use Rattle.assurance.specs.Types.{Message, Fe, Record, State, Sent}
use Rattle.conduct.specs.OneFrame.{ConsistentKept, RefusalsChangeNothing, AtMostSix, BitInTable, TrackFound}
use Rattle.conduct.specs.OneFrame.{NoneLeft, First, Granting, done, next, ExactGrant, OldestFirst, RightGrant}

module _ (s : State) (table : List ℕ) (journal : List Record) (frame out : List ℕ) where
  kept : consistent s ≡ true → consistent (answer s table journal frame out).state ≡ true
  kept e = by_verdict s table journal frame out (λ a. consistent a.state ≡ true) (λ n q. e) (λ p answers r. e)
      (λ p t. is_consistent _ (accepted_facts table s p.valid_state (read_frame frame) t).valid_state)

  counted : let v = (answer s table journal frame out).state in
      (s.logged ≤ v.logged) × (v.logged ≤ s.logged + most_logged)
  counted = by_verdict s table journal frame out
      (λ a. (s.logged ≤ a.state.logged) × (a.state.logged ≤ s.logged + most_logged))
      (λ n q. (omega arith, omega arith))
      (λ p answers r. (omega arith, omega arith))
      (λ p t.
      let k = accepted_facts table s p.valid_state (read_frame frame) t in
      (omega (arith, k.counted), omega (arith, k.counted, k.few)))

pub consistent_kept : ConsistentKept
consistent_kept = record {
  kept = kept;
  counted = counted;
  valid_kept = λ s table journal frame out e few.
      is_valid _
      (consistent_facts _ (kept s table journal frame out (is_consistent s (valid_facts s e))))
      (omega (arith, few));
  in_journal = λ s table journal frame out e.
      omega (arith, (counted s table journal frame out).1, few_logged s e);
}

pub refusals_change_nothing : RefusalsChangeNothing
refusals_change_nothing = refusal_leaves

-- a repeat is answered by one frame at most
one_again : {s : State} {a : Message} {answers : List Message} → Repeats s a answers → length answers ≤ 1
one_again (declined_before m n asks) = omega arith
one_again (granted_before m n runs) = omega arith
one_again (arrived_before m known finished) = omega arith

pub at_most_six : AtMostSix
at_most_six s table journal frame out n =
    by_verdict s table journal frame out (λ a. a.verdict ≡ Sent n → n ≤ 6)
    (λ k q e. absurd (let z : ◌≡◌ {A = ℕ} 0 1 = cc in omega arith))
    (λ p answers r e.
    let same : length answers ≡ n = cc in
    omega (arith, one_again r))
    (λ p t e.
    let a = accepted_facts table s p.valid_state (read_frame frame) t in
    let same : length (anew table s (read_frame frame)).sent ≡ n = cc in
    omega (arith, a.few, paired a))

pub bit_in_table : BitInTable
bit_in_table s t e k asks = moved_code s (consistent_facts s e) t k asks

none_left : (s : State) (table : List ℕ) (journal : List Record) (frame out : List ℕ) (n : ℕ)
    → runs_granting (read_frame frame) ≡ true → again s (read_frame frame) ≡ none
    → (answer s table journal frame out).verdict ≡ Sent n → NoneLeft table (answer s table journal frame out).state
none_left s table journal frame out n runs fresh =
    by_verdict s table journal frame out (λ a. a.verdict ≡ Sent n → NoneLeft table a.state)
    (λ k q e. absurd (let z : ◌≡◌ {A = ℕ} 0 1 = cc in omega arith))
    (λ p answers r e. absurd (new_or_again fresh (repeats_again r)))
    (λ p t e. (runs_nobody table s (read_frame frame) t runs).barred)

none_more : (s : State) (table : List ℕ) (journal : List Record) (frame out : List ℕ)
    → NoneLeft table s → NoneLeft table (answer s table journal frame out).state
none_more s table journal frame out before =
    by_verdict s table journal frame out (λ a. NoneLeft table a.state) (λ k q. before)
    (λ p answers r. before)
    (λ p t. (accepted_nobody table s (read_frame frame) t (record { barred = before })).barred)

-- ---- the chain of grants

module _ (table : List ℕ) where
  turn_first : (s : State) → Distinct s → (t : ℕ) → Oldest table s s.trains t → First table s t
  turn_first s d t f = record { known = f.known; can = f.can; first = earlier table s d t f }

  first_turn : (s : State) (t : ℕ) → First table s t → Oldest table s s.trains t
  first_turn s t f = record {
    known = f.known;
    can = f.can;
    least = λ u k g. by_equality u t (λ e. rw e (omega arith)) (λ h. omega (arith, f.first u k h g));
  }

  -- a grant takes a number away, and the others stay distinct
  granted_distinct : (w : Work) (t : ℕ) → Turn table w t → Distinct w.state → Distinct (granted w t).state
  granted_distinct w t f =
      distinct_change w.state t (granting w.state t) (w.state.logged + 1)
      (granted_place table w t f)
      (λ u k h p. absurd (false≢true p))

  chain : (n : ℕ) (w : Work) → Distinct w.state → asked_count w.state ≤ n → Granting table w (grants table n w)
  unfolding grants
  chain zero w d few = done w (none_asked table w (omega arith)).barred
  chain (suc n) w d few = at (oldest table w.state w.state.trains) refl (λ t a b. chain n (granted w t) a b)
    where
      at : (r : Option ℕ) → oldest table w.state w.state.trains ≡ r
          → ((t : ℕ) → Distinct (granted w t).state → asked_count (granted w t).state ≤ n
          → Granting table (granted w t) (grants table n (granted w t)))
          → Granting table w (proceed r w (λ t. grants table n (granted w t)))
      at none e rest = done w (oldest_none table w.state w.state.trains e).barred
      at (some t) e rest =
          let f = oldest_some table w.state w.state.trains t e in
          next w _ t (turn_first w.state d t f)
          (rest t (granted_distinct w t f d) (omega (arith, granted_fewer table w t f)))

pub exact_grant : ExactGrant
exact_grant = record {
  chain = λ table w e.
      chain table w.state.trains w (consistent_facts w.state e).distinct (few_asked table w);
  none_left = none_left;
  none_more = none_more;
}

pub oldest_first : OldestFirst
oldest_first table w t e f =
    let d = consistent_facts w.state e in
    let rest = settled_settles table (granted w t) in (
      rest.answers,
      ap (λ (v : Work). v.sent) (sym (settled_next table w t d (first_turn table w.state t f))) ∙ rest.added ∙
          append_assoc w.sent (Fe (next_move w.state t) ∷ []) rest.answers,
    )

-- ---- the free track

pub track_found : TrackFound
track_found = record {
  only = λ s t p e kp. free_fewer s (consistent_facts s e) p kp t;
  then = λ s t p e kp. fewer_free s (consistent_facts s e) p kp t;
}

-- ---- the grant, with the table of the line

pub right_grant : RightGrant
right_grant = record {
  only = λ s table t e k g.
      let d = consistent_facts s e in
      let f = grantable_facts (filled (line_of s) table) s t g in
      record {
        asks = f.asks;
        section = f.section;
        post = track_found.only s t _ e (next_post_below s d t k (asked_short s d t k f.asks)) f.track;
        completable = bit_completable (line_of s) d.line table (moved (reached s) t)
            (moved_within s d t k f.asks) f.bit;
      };
  then = λ s table t e k m.
      let d = consistent_facts s e in
      is_grantable (filled (line_of s) table) s t (record {
        asks = m.asks;
        section = m.section;
        track = track_found.then s t _ e (next_post_below s d t k (asked_short s d t k m.asks)) m.post;
        bit = completable_bit (line_of s) d.line table (moved (reached s) t) (moved_within s d t k m.asks)
            m.completable;
      });
}
