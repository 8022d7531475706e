-- The granting, from a state b on: each FE is the next move of a train that was Asked in b; it makes the train Running,
-- so that none gets a second one, and a train that was Asked and is not any more has got its own.
use mathlib.Core.Path.{◌≡◌, refl, ap}
use mathlib.Core.Logic.{◌≢◌, ⊎_elim}
use mathlib.Core.Bool.{true, false, false≢true}
use mathlib.Core.List.Memᴰ
use mathlib.Core.List.{List, [], ◌∷◌, ◌++◌, Memᴰ}
use Prim.Native.Nat.{ℕ, ◌+◌, ◌<◌}
use native.Mathlib.Omega.{arith}
use lib.ListN.{length, length-append}
use Rattle.common.proofs.Tests.{clash, by_equality}
use Rattle.frame.specs.Frame.{move_of}
use Rattle.rules.specs.declared.state.Train.{Train}
use Rattle.rules.specs.State.{is_asked, next_of, train_of, next_move, one_logged}
use Rattle.rules.specs.Granting.{Work, begun, granted, settled, granting}
use Rattle.rules.proofs.Trains.{changed_own, changed_other, changed_each}
use Rattle.rules.proofs.Changes.{grantable_facts}
use Rattle.rules.proofs.Grants.{Turn, grants_keep, granted_place}
use Rattle.assurance.specs.Types.{Move, Message, Fe, Record, State}
use Rattle.assurance.proofs.Logging.{split_last}

-- the move that a train has before it, by its record
abbrev move_by : ℕ → Train → Move
move_by t x = move_of t x.at.0 (next_of x)

-- ---- the granting, from the state b on

-- train t was Asked in b, and is not any more
pub record Served (b : State) (w : Work) (m : Move) : Type 0 where
  pub known : m.train.0 < b.trains
  pub next : m ≡ next_move b m.train.0
  pub waited : is_asked (train_of b m.train.0).status ≡ true
  pub runs : is_asked (train_of w.state m.train.0).status ≡ false

pub record Serves (b : State) (w : Work) : Type 0 where
  pub trains : w.state.trains ≡ b.trains
  pub moves : (u : ℕ) → next_move w.state u ≡ next_move b u
  pub waiting : (u : ℕ) → is_asked (train_of w.state u).status ≡ true → is_asked (train_of b u).status ≡ true
  pub each : (a : Message) → Memᴰ a w.sent → (m : Move) × (a ≡ Fe m) × Served b w m
  pub once : (said : List Message) (m : Move) (rest : List Message) → w.sent ≡ said ++ Fe m ∷ rest
      → (q : Move) → Memᴰ (Fe q) said → q.train.0 ≢ m.train.0
  -- who waits no more has got its own
  pub served : (u : ℕ) → is_asked (train_of b u).status ≡ true → is_asked (train_of w.state u).status ≡ false
      → Memᴰ (Fe (next_move b u)) w.sent

pub begins : (s : State) (r : Record) → Serves (one_logged s) (begun s r)
begins s r = record {
  trains = refl;
  moves = λ u. refl;
  waiting = λ u e. e;
  each = λ c h. absurd (Memᴰ.not-nil h);
  once = λ said m rest e.
      absurd (let n = ap length e in omega (arith, length-append said (Fe m ∷ rest)));
  served = λ u e f. clash (is_asked (train_of s u).status) e f;
}

module _ (table : List ℕ) (b : State) (w : Work) (t : ℕ) (k : Serves b w) (f : Turn table w t) where
  abbrev s : State
  s = w.state

  abbrev x : Train
  x = granting s t

  abbrev new : Move
  new = next_move s t

  asks : is_asked (train_of s t).status ≡ true
  asks = (grantable_facts table s t f.can).asks

  -- who does not wait does not wait after it
  not_after : (u : ℕ) → is_asked (train_of s u).status ≡ false
      → is_asked (train_of (granted w t).state u).status ≡ false
  not_after u e = changed_each s t x (s.logged + 1)
      (λ v y. is_asked (train_of s v).status ≡ false → is_asked y.status ≡ false)
      (granted_place table w t f) (λ q. refl) u (λ h q. q) e

  own : Served b (granted w t) new
  own = record {
    known = rw (← k.trains) f.known;
    next = k.moves t;
    waited = k.waiting t asks;
    runs = rw (changed_own s t x (s.logged + 1) (granted_place table w t f));
  }

  serves_next : Serves b (granted w t)
  serves_next = record {
    trains = k.trains;
    moves = λ u. changed_each s t x (s.logged + 1) (λ v y. move_by v y ≡ next_move b v) (granted_place table w t f)
        (k.moves t) u (λ h. k.moves u);
    waiting = λ u. changed_each s t x (s.logged + 1)
        (λ v y. is_asked y.status ≡ true → is_asked (train_of b v).status ≡ true) (granted_place table w t f)
        (λ e. absurd (false≢true e)) u (λ h. k.waiting u);
    each = λ a h. ⊎_elim
        (λ q. let g = k.each a q in (
          g.0,
          g.1,
          record {
            known = g.2.known;
            next = g.2.next;
            waited = g.2.waited;
            runs = not_after g.0.train.0 g.2.runs;
          },
        ))
        (λ q. (new, Memᴰ.eq_of_singleton q, own))
        (Memᴰ.append_cases w.sent h);
    once = λ said m rest e q h. ⊎_elim
        (λ z same.
        let g = k.each (Fe q) (rw z.0 at h) in
        let is : q ≡ g.0 = let y = g.1 in cc in
        let to : m ≡ new = let y = z.1 in cc in
        clash (is_asked (train_of s t).status) asks (rw (← is, same, to) at g.2.runs))
        (λ z. k.once said m z.0 z.1 q h)
        (split_last w.sent (Fe new) said (Fe m) rest e);
    served = λ u e. by_equality u t
        (λ q g. Memᴰ.append_right w.sent (Memᴰ.head (rw (q, k.moves t))))
        (λ h. rw (changed_other s t x (s.logged + 1) u h)
        (λ g. Memᴰ.append_left (Fe new ∷ []) (k.served u e g)));
  }

pub settled_serves : (table : List ℕ) (w : Work) → Serves w.state w → Serves w.state (settled table w)
settled_serves table w =
    grants_keep table (Serves w.state) (λ v t k f. serves_next table w.state v t k f) w.state.trains w
