-- What ties the state, the journal and the observer together, and two laws for a change with one record logged: of one
-- train's record, and of the sections that gangs have.
use mathlib.Core.Path.{◌≡◌, refl, sym, ap, subst, ◌∙◌}
use mathlib.Core.Logic.{◌≢◌}
use mathlib.Core.Bool.{Bool, true, false, false≢true}
use mathlib.Core.List.{List}
use Prim.Native.Nat.{ℕ, ◌+◌, ◌≤◌, ◌<◌}
use native.Mathlib.Omega.{arith}
use native.Mathlib.Numerals.{add-one}
use lib.ListN.{length, set, length-set}
use lib.Seq.{get_or-set_same, get_or-set_other}
use borrow.Author.Tests.{ne_eqb}
use Rattle.common.specs.Below.{of_bool, count_below}
use Rattle.common.specs.Update.{update}
use Rattle.common.proofs.Tests.{by_equality}
use Rattle.common.proofs.Below.{count_cong}
use Rattle.common.proofs.Update.{update_own, update_other}
use Rattle.frame.specs.Frame.{move_of, move_in}
use Rattle.journal.specs.Journal.{journal_length, blank, record_of, record_at}
use Rattle.completion.specs.Configuration.{Configuration, Within, Completable, code}
use Rattle.completion.specs.Table.{bit_of}
use Rattle.completion.proofs.Agreement.{completable_cong}
use Rattle.rules.specs.declared.state.Status.{Status}
use Rattle.rules.specs.declared.state.Status.TheVariants.{Free, Asked, Running}
use Rattle.rules.specs.declared.state.Train.{Train}
use Rattle.rules.specs.State.{is_asked, is_running, asked_as, next_of, reached_by, train_of, line_of, possessed}
use Rattle.rules.specs.State.{reached}
use Rattle.rules.specs.State.{state_with}
use Rattle.rules.proofs.Trains.{changed, changed_own, changed_other, changed_each, changed_line}
use Rattle.rules.proofs.Validity.{Consistent}
use Rattle.assurance.specs.Types.{Line, Message, Fa, Fe, Afe, Am, La, Le, Lb, Refused, Record, State}
use Rattle.assurance.specs.Run.{like_among}
use Rattle.assurance.specs.Observer.{Claim, nothing, asked, authority, Seen, Observer}
use Rattle.assurance.specs.WholeList.{Requested, is_fe_of}
use Rattle.assurance.proofs.Logging.{later_set, requested_later}

-- what the observer has of a train, by its record
abbrev pub claim_of : Status → ℕ → ℕ → Claim
claim_of Free p q = nothing
claim_of (Asked n) p q = asked
claim_of (Running k) p q = authority p q

pub asked_claim : (w : Status) (p q : ℕ) → is_asked w ≡ true → claim_of w p q ≡ asked
asked_claim Free p q e = absurd (false≢true e)
asked_claim (Asked n) p q e = refl
asked_claim (Running k) p q e = absurd (false≢true e)

pub running_claim : (w : Status) (p q : ℕ) → is_running w ≡ true → claim_of w p q ≡ authority p q
running_claim Free p q e = absurd (false≢true e)
running_claim (Asked n) p q e = absurd (false≢true e)
running_claim (Running k) p q e = refl

abbrev pub seen_of : Train → Seen
seen_of x = record { post = x.at.0; claim = claim_of x.status x.at.0 (next_of x) }

-- train t's FE records among the first n of a journal
abbrev pub given : ℕ → List Record → ℕ → ℕ
given n j t = like_among (is_fe_of t) n j

-- train t's record x, where the journal j has n records and the observer has y
pub record Agrees (n : ℕ) (j : List Record) (y : Seen) (t : ℕ) (x : Train) : Type 0 where
  pub seen : y ≡ seen_of x
  -- the number of an Asked train is that of its FA
  pub request : is_asked x.status ≡ true
      → record_at j (asked_as x.status) ≡ record_of (Fa (move_of t x.at.0 (next_of x)))
  pub authorities : given n j t ≡ reached_by x
  -- 02, card 6: a Running train's FE is there, with its request, so that it can be sent again
  pub granted : is_running x.status ≡ true → Requested n j (move_of t x.at.0 (next_of x))

-- the table's bits are those of the line's completable configurations
pub record Right (l : Line) (table : List ℕ) : Type 0 where
  pub sound : (c : Configuration) → Within l c → bit_of table (code l c) ≡ true → Completable l c
  pub full : (c : Configuration) → Completable l c → bit_of table (code l c) ≡ true

pub record Invariant (table : List ℕ) (s : State) (j : List Record) (o : Observer) : Type 0 where
  pub valid_state : Consistent s
  pub right : Right (line_of s) table
  pub room : journal_length ≤ length j
  pub each : (t : ℕ) → t < s.trains → Agrees s.logged j (o.train t) t (train_of s t)
  -- a section has a gang where the observer counts one; the list of them has its declared length
  pub gangs : (i : ℕ) → o.gangs i ≡ of_bool (possessed s i)
  pub seven : length s.possessions ≡ 7
  -- with every Running train at its next post, all trains can still reach their ends
  pub completable : Completable (line_of s) (reached s)

-- ---- one record more

pub given_more : (n : ℕ) (j : List Record) (r : Record) (u : ℕ) → n < length j
    → given (n + 1) (set j n r) u ≡ of_bool (is_fe_of u r) + given n j u
unfolding count_below
given_more n j r u h =
    let own : record_at (set j n r) n ≡ r = get_or-set_same j n r blank h in
    let below : given n (set j n r) u ≡ given n j u =
    count_cong n _ _ (λ i k. ap (is_fe_of u) (get_or-set_other j n i r blank (λ z. omega arith))) in
    rw (add-one, own, below)

-- a message of another train gives u no authority
pub other_train : (a : Message) (u : ℕ) → u ≢ (move_in a).train.0 → is_fe_of u (record_of a) ≡ false
unfolding record_of
other_train (Fa m) u h = refl
other_train (Fe m) u h = ne_eqb m.train.0 u (λ e. h (sym e))
other_train (Afe m) u h = refl
other_train (Am m) u h = refl
other_train (La m) u h = refl
other_train (Le m) u h = refl
other_train (Lb m) u h = refl
other_train (Refused n) u h = refl

-- a train that gets no authority by the record, and is seen as before, agrees as before
still_agrees : (table : List ℕ) (s : State) (j : List Record) (o : Observer) → Invariant table s j o → (r : Record)
    → s.logged < journal_length → (u : ℕ) → u < s.trains → is_fe_of u r ≡ false → (y : Seen) → y ≡ o.train u
    → Agrees (s.logged + 1) (set j s.logged r) y u (train_of s u)
still_agrees table s j o inv r space u k plain y same =
    let v = inv.each u k in
    record {
      seen = same ∙ v.seen;
      request = λ q.
          get_or-set_other j s.logged (asked_as (train_of s u).status) r blank
          (λ z. omega (arith, (inv.valid_state.each u k).numbered q))
          ∙ v.request q;
      authorities = given_more s.logged j r u (omega (arith, inv.room))
          ∙ rw (plain, v.authorities) (omega arith);
      granted = λ q. requested_later (later_set s.logged j r) (v.granted q);
    }

-- ---- one train's change

module _ (table : List ℕ) (s : State) (j : List Record) (o o' : Observer) (t : ℕ) (r : Record) (x : Train)
    (inv : Invariant table s j o)
    (own : (u : ℕ) → u ≢ t → is_fe_of u r ≡ false) (space : s.logged < journal_length)
    (others : (u : ℕ) → u ≢ t → o'.train u ≡ o.train u) (gangs : (i : ℕ) → o'.gangs i ≡ o.gangs i)
    (place : t < length s.fleet) (route : x.route ≡ (train_of s t).route)
    (after : Consistent (changed s t x (s.logged + 1)))
    (agreed : Agrees (s.logged + 1) (set j s.logged r) (o'.train t) t x)
    (onward : Completable (line_of s) (update (reached s) t (reached_by x))) where
  same_line : line_of (changed s t x (s.logged + 1)) ≡ line_of s
  same_line = changed_line s t x (s.logged + 1) route

  agrees : (u : ℕ) → update (reached s) t (reached_by x) u ≡ reached (changed s t x (s.logged + 1)) u
  agrees u = by_equality u t
      (λ e. rw (e, changed_own s t x (s.logged + 1) place) (update_own (reached s) t (reached_by x)))
      (λ h. rw (changed_other s t x (s.logged + 1) u h) (update_other (reached s) t (reached_by x) u h))

  pub changed_kept : Invariant table (changed s t x (s.logged + 1)) (set j s.logged r) o'
  changed_kept = record {
    valid_state = after;
    right = subst (λ (l : Line). Right l table) (sym same_line) inv.right;
    room = rw length-set inv.room;
    each = λ u k.
        changed_each s t x (s.logged + 1) (λ v y. Agrees (s.logged + 1) (set j s.logged r) (o'.train v) v y)
        place agreed u (λ h. still_agrees table s j o inv r space u k (own u h) _ (others u h));
    gangs = λ i. gangs i ∙ inv.gangs i;
    seven = inv.seven;
    completable = subst (λ (l : Line). Completable l (reached (changed s t x (s.logged + 1)))) (sym same_line)
        (completable_cong (line_of s) (update (reached s) t (reached_by x)) (reached (changed s t x (s.logged + 1)))
        (λ u k. agrees u) onward);
  }

-- ---- no train's change: other possessions, and a record that is no FE

pub record_kept : (table : List ℕ) (s : State) (j : List Record) (o o' : Observer) (r : Record) (ps : List Bool) (n : ℕ)
    → Invariant table s j o → s.logged < journal_length → ((u : ℕ) → is_fe_of u r ≡ false)
    → let s' = state_with s s.fleet ps n (s.logged + 1) in
    Consistent s' → ((u : ℕ) → o'.train u ≡ o.train u) → ((i : ℕ) → o'.gangs i ≡ of_bool (possessed s' i))
    → length ps ≡ 7 → Invariant table s' (set j s.logged r) o'
record_kept table s j o o' r ps n inv space plain after trains gangs seven = record {
  valid_state = after;
  right = inv.right;
  room = rw length-set inv.room;
  each = λ u k. still_agrees table s j o inv r space u k (plain u) _ (trains u);
  gangs = gangs;
  seven = seven;
  completable = inv.completable;
}
