-- Runs under local responsibility: the claims of `specs/LocalRuns.antt`, by the cases of a frame that is taken.
use mathlib.Core.Path.{◌≡◌, refl, ap, subst, ◌∙◌}
use mathlib.Core.Bool.{true, false}
use mathlib.Core.Option.{none}
use mathlib.Core.List.{List, [], ◌∷◌}
use Prim.Native.Nat.{ℕ, ◌+◌, ◌<◌}
use native.Mathlib.Omega.{arith}
use lib.ListN.{length}
use Rattle.common.specs.Below.{of_bool}
use Rattle.common.proofs.Tests.{not_passed}
use Rattle.common.proofs.Check.{accepts}
use Rattle.frame.specs.Frame.{move_of, read_frame, bytes_of}
use Rattle.frame.specs.RoundTrip.{IsMessage}
use Rattle.frame.proofs.RoundTrip.{round_trip}
use Rattle.journal.specs.Journal.{record_of}
use Rattle.rules.specs.State.{possessed, with_possession}
use Rattle.rules.specs.Granting.{Work, begun, settled}
use Rattle.rules.specs.Answer.{gang_byte, again, anew, accepted, Answer, answered, refused, answer}
use Rattle.rules.specs.Refusals.{Handed, answer_to, Prepared}
use Rattle.rules.proofs.Changes.{grantable_facts}
use Rattle.rules.proofs.Grants.{grants_keep}
use Rattle.rules.proofs.Possessions.{others_possessed, lent_possessed, possessed_on, back_unpossessed}
use Rattle.rules.proofs.Validity.{valid_facts}
use Rattle.rules.proofs.Acceptance.{Section, Taken, request, arrival, lending, return, Passed, taken_new, repeats_again}
use Rattle.rules.proofs.Acceptance.{new_or_again, accepted_anew, by_verdict, accepted_facts}
use Rattle.rules.proofs.Taking.{taken_accepted}
use Rattle.assurance.specs.Types.{Move, Message, La, Le, Lb, State, Sent}
use Rattle.assurance.specs.Observer.{answers_of}
use Rattle.conduct.specs.LocalRuns.{section_move, MayLend, Changed, LocalRuns}
use Rattle.assurance.proofs.Exchanged.{answers_back}

-- ---- what is taken

-- a message that is taken and names a section
pub section_named : {s : State} (m : Move) → Section s m → m ≡ section_move m.from.0
section_named m q =
    ap (λ (n : ℕ). move_of n m.from.0 m.to.0) q.gang
    ∙ ap (λ (n : ℕ). move_of gang_byte m.from.0 n) q.upper

pub taken_la : (s : State) (a : Message) (m : Move) → a ≡ La m → Taken s a → Section s m × MayLend s m.from.0
taken_la s a m e (request n q free) = absurd (let z : ◌≡◌ {A = ℕ} 0 1 = cc in omega arith)
taken_la s a m e (arrival n q runs) = absurd (let z : ◌≡◌ {A = ℕ} 0 1 = cc in omega arith)
taken_la s a m e (lending n q free few) =
    let same : n ≡ m = cc in
    subst (λ (i : Move). Section s i × MayLend s i.from.0) same
    (q, record { on = omega (arith, q.on); free = omega (arith, free); few = omega arith })
taken_la s a m e (return n q held) = absurd (let z : ◌≡◌ {A = ℕ} 0 1 = cc in omega arith)

pub taken_lb : (s : State) (a : Message) (m : Move) → a ≡ Lb m → Taken s a
    → Section s m × (possessed s m.from.0 ≡ true)
taken_lb s a m e (request n q free) = absurd (let z : ◌≡◌ {A = ℕ} 0 1 = cc in omega arith)
taken_lb s a m e (arrival n q runs) = absurd (let z : ◌≡◌ {A = ℕ} 0 1 = cc in omega arith)
taken_lb s a m e (lending n q free few) = absurd (let z : ◌≡◌ {A = ℕ} 0 1 = cc in omega arith)
taken_lb s a m e (return n q held) =
    let same : n ≡ m = cc in
    subst (λ (i : Move). Section s i × (possessed s i.from.0 ≡ true)) same (q, held)

-- ---- a frame handed in

-- one that is taken is accepted
taken_sent : (h : Handed) (a : Message) → IsMessage a → Prepared h → h.frame ≡ bytes_of a → Taken h.state a
    → (answer_to h).verdict ≡ Sent (length (anew h.table h.state a).sent)
unfolding answer
taken_sent h a is p e t =
    let w = accepted h.table h.state (read_frame (bytes_of a)) in
    let passed = taken_accepted h.state h.table h.journal h.out p.valid_state p.long_table
    p.long_journal p.long_out a t in
    let new : w ≡ anew h.table h.state a =
    rw (round_trip.back a is) (accepted_anew h.table h.state a
    (taken_new h.state (valid_facts h.state p.valid_state) a t)) in
    rw e (ap (λ (b : Answer). b.verdict)
    (accepts (answered h.state.logged h.journal h.out w) (refused h.state h.journal h.out) passed)
    ∙ ap (λ (v : Work). Sent (length v.sent)) new)

-- what holds of the answer to every new frame holds of the answer to one that was not refused and repeats none
sent_taken : (h : Handed) (n : ℕ) (P : Answer → Type 0) → again h.state (read_frame h.frame) ≡ none
    → (Passed h.state h.table h.journal h.frame h.out → Taken h.state (read_frame h.frame)
    → P (answered h.state.logged h.journal h.out (anew h.table h.state (read_frame h.frame))))
    → (answer_to h).verdict ≡ Sent n → P (answer_to h)
sent_taken h n P fresh takes =
    by_verdict h.state h.table h.journal h.frame h.out (λ a. a.verdict ≡ Sent n → P a)
    (λ k q e. absurd (let z : ◌≡◌ {A = ℕ} 0 1 = cc in omega arith))
    (λ p answers r e. absurd (new_or_again fresh (repeats_again r)))
    (λ p t e. takes p t)

-- a gang's frame repeats none
la_new : (h : Handed) (m : Move) → read_frame h.frame ≡ La m → again h.state (read_frame h.frame) ≡ none
la_new h m e = ap (again h.state) e

lb_new : (h : Handed) (m : Move) → read_frame h.frame ≡ Lb m → again h.state (read_frame h.frame) ≡ none
lb_new h m e = ap (again h.state) e

-- ---- the sections

-- the granting changes none
pub settled_sections : (table : List ℕ) (w : Work) (i : ℕ)
    → possessed (settled table w).state i ≡ possessed w.state i
settled_sections table w i =
    grants_keep table (λ v. possessed v.state i ≡ possessed w.state i) (λ v t e f. e) w.state.trains w refl

pub settled_given : (table : List ℕ) (w : Work) → (settled table w).state.given ≡ w.state.given
settled_given table w =
    grants_keep table (λ v. v.state.given ≡ w.state.given) (λ v t e f. e) w.state.trains w refl

lent_changed : (table : List ℕ) (s : State) (m : Move) → length s.possessions ≡ 7 → m.from.0 < 7
    → m.from.0 + 1 < s.posts
    → Changed s m.from.0 true (s.given + 1) (anew table s (La m)).state
unfolding anew
lent_changed table s m seven low on = record {
  own = lent_possessed s m.from.0 (s.given + 1) on (rw seven low);
  others = others_possessed s m.from.0 true (s.given + 1);
  given = refl;
}

back_changed : (table : List ℕ) (s : State) (m : Move)
    → Changed s m.from.0 false s.given (anew table s (Lb m)).state
unfolding anew
back_changed table s m =
    let w = begun (with_possession s m.from.0 false s.given) (record_of (Lb m)) in
    record {
      own = settled_sections table w m.from.0 ∙ back_unpossessed s m.from.0 s.given;
      others = λ k h. settled_sections table w k ∙ others_possessed s m.from.0 false s.given k h;
      given = settled_given table w;
    }

-- ---- the claims

la_message : (m : Move) → IsMessage (La m)
unfolding IsMessage
la_message m = tt

lb_message : (m : Move) → IsMessage (Lb m)
unfolding IsMessage
lb_message m = tt

one_answer : (table : List ℕ) (s : State) (m : Move) → (anew table s (La m)).sent ≡ Le m ∷ []
unfolding anew
one_answer table s m = refl

same_fleet : (table : List ℕ) (s : State) (m : Move) → (anew table s (La m)).state.fleet ≡ s.fleet
unfolding anew
same_fleet table s m = refl

lent : (h : Handed) (m : Move) (n : ℕ) → length h.state.possessions ≡ 7
    → read_frame h.frame ≡ La m → (answer_to h).verdict ≡ Sent n
    → let a = answer_to h in
    (answers_of a.verdict a.out ≡ Le m ∷ [])
    × (Changed h.state m.from.0 true (h.state.given + 1) a.state)
    × (a.state.fleet ≡ h.state.fleet)
lent h m n seven e = sent_taken h n
    (λ a. (answers_of a.verdict a.out ≡ Le m ∷ [])
    × (Changed h.state m.from.0 true (h.state.given + 1) a.state)
    × (a.state.fleet ≡ h.state.fleet))
    (la_new h m e)
    (λ p k.
    let t = taken_la h.state (read_frame h.frame) m e k in
    let facts = accepted_facts h.table h.state p.valid_state (read_frame h.frame) k in
    let w = anew h.table h.state (read_frame h.frame) in
    let back = answers_back w.sent h.out facts.messages in
    let low : m.from.0 < 7 = omega (arith, t.0.on, p.valid_state.line.few_posts) in (
      back ∙ rw e (one_answer h.table h.state m),
      rw e (lent_changed h.table h.state m seven low t.0.on),
      rw e (same_fleet h.table h.state m),
    ))

pub local_runs_lem : LocalRuns
local_runs_lem = record {
  then = λ h i r e may.
      let m = section_move i in
      let q : Section h.state m = record { gang = refl; upper = refl; on = may.on } in
      taken_sent h (La m) (la_message m) r e (lending m q may.free may.few)
      ∙ rw (one_answer h.table h.state m);
  only = λ h m n e. sent_taken h n (λ a. (m ≡ section_move m.from.0) × MayLend h.state m.from.0)
      (la_new h m e) (λ p k.
      let t = taken_la h.state (read_frame h.frame) m e k in
      (section_named m t.0, t.1));
  lent = lent;
  blocks = λ s table t e. not_passed _ (λ g.
      omega (arith, (grantable_facts table s t g).section, ap of_bool e));
  back = λ h i r e held.
      let m = section_move i in
      let on = possessed_on h.state i held in
      let q : Section h.state m = record { gang = refl; upper = refl; on = on } in
      (_, taken_sent h (Lb m) (lb_message m) r e (return m q held));
  back_only = λ h m n e.
      sent_taken h n (λ a. (m ≡ section_move m.from.0) × (possessed h.state m.from.0 ≡ true))
      (lb_new h m e) (λ p k.
      let t = taken_lb h.state (read_frame h.frame) m e k in
      (section_named m t.0, t.1));
  freed = λ h m n e. sent_taken h n (λ a. Changed h.state m.from.0 false h.state.given a.state)
      (lb_new h m e) (λ p k.
      rw e (back_changed h.table h.state m));
}
