-- The Asked trains in the order of their requests: what the search for the next one finds, train by train, and what it
-- means to have tried all whose numbers are below a bound.
use mathlib.Core.Path.{◌≡◌, refl, sym, ap, ◌∙◌}
use mathlib.Core.Bool.{true, false, false≢true}
use mathlib.Core.List.{List}
use Rattle.std.specs.Prelude.{Option, None, Some}
use Prim.Native.Nat.{ℕ, suc, ◌+◌, ◌≤◌, ◌<◌}
use native.Mathlib.Nat.{not-suc-le-zero}
use native.Mathlib.Omega.{arith}
use lib.Dec.{ltb}
use borrow.Author.Tests.{ltb-true, ltb-false}
use Rattle.common.proofs.Tests.{clash, by_cases, by_order, not_passed}
use Rattle.common.proofs.Below.{below_suc}
use Rattle.journal.specs.Journal.{journal_length}
use Rattle.authority.specs.Types.{TrainNo, Status, Free, Asked, Running, State, Asker}
use Rattle.rules.specs.State.{is_asked, asked_as, train_of}
use Rattle.rules.specs.Valid.{consistent}
use Rattle.rules.specs.Granting.{grantable}
use Rattle.authority.specs.Asking.{asker, lower, elder, NextAsked, nobody, next}
use Rattle.rules.proofs.Validity.{consistent_facts}
use Rattle.rules.proofs.Changes.{grantable_facts}
use Rattle.rules.proofs.Oldest.{Nobody as NobodyLeft, Oldest}

-- ---- the search, train by train

same_asked : {w : Status} {m n : ℕ} → w ≡ Asked m → w ≡ Asked n → m ≡ n
same_asked p q = ap asked_as (sym p ∙ q)

pub next_none : (s : State) (from : ℕ) → NextAsked s from 0 None
next_none s from = nobody (λ u k. absurd (not-suc-le-zero k))

module _ (s : State) (from i : ℕ) where
  -- train i is not among those looked for
  skip : (best : Option Asker) → ((m : ℕ) → (train_of s i).status ≡ Asked m → m < from) → NextAsked s from i best
      → NextAsked s from (suc i) best
  skip best h (nobody f) = nobody (below_suc i f h)
  skip best h (next t n k e low f) =
      next t n (omega arith) e low (below_suc i f (λ m q z. absurd (let y = h m q in omega arith)))

  -- it is
  take : (n : ℕ) → (train_of s i).status ≡ Asked n → from ≤ n → (best : Option Asker) → NextAsked s from i best
      → NextAsked s from (suc i) (lower (record { 0 = i }) n best)
  take n e low best (nobody f) = next (record { 0 = i }) n (omega arith) e low
      (below_suc i (λ u l m q z. absurd (let y = f u l m q in omega arith)) (λ m q z. omega (arith, same_asked e q)))
  take n e low best (next t k j a h f) = by_cases (ltb n k)
      (λ p. rw p (next (record { 0 = i }) n (omega arith) e low
      (below_suc i (λ u l m q z. omega (arith, ltb-true n k p, f u l m q z)) (λ m q z. omega (arith, same_asked e q)))))
      (λ p. rw p (next t k (omega arith) a h (below_suc i f (λ m q z. omega (arith, ltb-false n k p, same_asked e q)))))

  pub next_more : (best : Option Asker) (w : Status) → (train_of s i).status ≡ w → NextAsked s from i best
      → NextAsked s from (suc i) (elder best (record { 0 = i }) w from)
  next_more best Free e a = skip best (λ m q. absurd (false≢true (ap is_asked (sym e ∙ q)))) a
  next_more best (Asked n) e a = by_cases (ltb n from)
      (λ p. rw p (skip best (λ m q. omega (arith, ltb-true n from p, same_asked e q)) a))
      (λ p. rw p (take n e (ltb-false n from p) best a))
  next_more best (Running k) e a = skip best (λ m q. absurd (false≢true (ap is_asked (sym e ∙ q)))) a

-- ---- the next one, if there is one

pub record Next (s : State) (from : ℕ) (t : TrainNo) (k : ℕ) : Type 0 where
  pub known : t.0 < s.trains
  pub asks : (train_of s t.0).status ≡ Asked k
  pub low : from ≤ k
  pub least : (u : ℕ) → u < s.trains → (m : ℕ) → (train_of s u).status ≡ Asked m → from ≤ m → k ≤ m

pub next_found : (s : State) (from : ℕ) (t : TrainNo) (k : ℕ) → NextAsked s from s.trains (Some (asker t k))
    → Next s from t k
next_found s from t k (next _ _ known asks low least) = record { known = known; asks = asks; low = low; least = least }

pub next_small : (s : State) (from : ℕ) (t : TrainNo) (k : ℕ) → consistent s ≡ true → s.logged ≤ journal_length
    → Next s from t k → k < journal_length
next_small s from t k v few n =
    let d = consistent_facts s v in
    let own : is_asked (train_of s t.0).status ≡ true = rw n.asks in
    let number : asked_as (train_of s t.0).status ≡ k = rw n.asks in
    omega (arith, (d.each t.0 n.known).numbered own)

-- ---- a pass over the Asked trains

asked_number : (w : Status) → is_asked w ≡ true → w ≡ Asked (asked_as w)
asked_number Free e = absurd (false≢true e)
asked_number (Asked n) e = refl
asked_number (Running k) e = absurd (false≢true e)

-- nobody whose request has a number below `from` can be granted
pub record Tried (table : List ℕ) (s : State) (from : ℕ) : Type 0 where
  pub barred : (u : ℕ) → u < s.trains → (m : ℕ) → (train_of s u).status ≡ Asked m → m < from
      → grantable table s u ≡ false

pub tried_none : (table : List ℕ) (s : State) → Tried table s 0
tried_none table s = record { barred = λ u k m e l. absurd (not-suc-le-zero l) }

module _ (table : List ℕ) (s : State) (from : ℕ) (tried : Tried table s from) where
  -- the number of a train that can be granted
  numbered : (u : ℕ) → grantable table s u ≡ true → (train_of s u).status ≡ Asked (asked_as (train_of s u).status)
  numbered u g = asked_number (train_of s u).status (grantable_facts table s u g).asks

  pub tried_all : NextAsked s from s.trains None → NobodyLeft table s s.trains
  tried_all (nobody f) = record {
    barred = λ u k. not_passed (grantable table s u)
        (λ g. clash (grantable table s u) g (tried.barred u k _ (numbered u g) (f u k _ (numbered u g))));
  }

  module _ (t : TrainNo) (k : ℕ) (n : Next s from t k) where
    pub first_oldest : grantable table s t.0 ≡ true → Oldest table s s.trains t.0
    first_oldest g = record {
      known = n.known;
      can = g;
      least = λ u l h. let e = numbered u h in by_order (asked_as (train_of s u).status) from
          (λ q. clash (grantable table s u) h (tried.barred u l _ e q))
          (λ q. rw n.asks (n.least u l _ e q));
    }

    pub tried_more : consistent s ≡ true → grantable table s t.0 ≡ false → Tried table s (k + 1)
    tried_more v b = record {
      barred = λ u l m e q. by_order m from
          (λ z. tried.barred u l m e z)
          (λ z.
          let asked : is_asked (train_of s u).status ≡ true = rw e in
          let own : is_asked (train_of s t.0).status ≡ true = rw n.asks in
          let same : asked_as (train_of s u).status ≡ asked_as (train_of s t.0).status =
          rw (e, n.asks) (omega (arith, n.least u l m e z)) in
          rw ((consistent_facts s v).distinct u t.0 l n.known asked own same) b);
    }
