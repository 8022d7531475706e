-- A repeat passes the checks, and what it is answered by is all that it does: `RepeatsAnswered`.
use mathlib.Core.Path.{◌≡◌, refl, sym, ◌∙◌}
use mathlib.Core.Logic.{◌≢◌, inl, inr, ⊎_elim}
use mathlib.Core.Bool.{true, false≢true}
use mathlib.Core.Option.{some}
use mathlib.Core.List.{List}
use Prim.Native.Nat.{ℕ, ◌≤◌, ◌<◌}
use native.Mathlib.Omega.{arith}
use borrow.Author.Tests.{eq-eqb}
use Rattle.common.proofs.Check.{Refuses, clear, not_given, refusal_is, accepts}
use Rattle.line.specs.Route.{next_post}
use Rattle.line.proofs.Travel.{Between, of_between, next_up, next_down}
use Rattle.frame.specs.Frame.{read_frame}
use Rattle.rules.specs.Types.{Move, Message, Fa, Am, Last, None, Some, PostNo, RefusedBy}
use Rattle.rules.specs.State.{is_nothing, is_last, train_of}
use Rattle.rules.specs.Answer.{again, accepted, answered, refused, answer}
use Rattle.rules.specs.Refusals.{Handed, RefusedAs, NamesNext}
use Rattle.rules.specs.Repeats.{AnsweredBy, CameBy, RepeatsAnswered}
use Rattle.rules.proofs.Validity.{consistent_facts, is_last_lem, none_finished, one_finished}
use Rattle.rules.proofs.Acceptance.{NextMove, Repeats, declined_before, granted_before, repeats_again}
use Rattle.rules.proofs.Acceptance.{by_content, accepted_again, told_again_lem, by_verdict}
use Rattle.rules.proofs.Refusals.{checks, after_asking, after_finish}

-- a repeat that passes the checks is told again
again_answered : (h : Handed) (a : Message) {answers : List Message} → read_frame h.frame ≡ a
    → again h.state a ≡ some answers → Refuses (checks h) 0 → AnsweredBy h answers
unfolding answer
again_answered h a {answers} reads e passes =
    let w = accepted h.table h.state (read_frame h.frame) in
    accepts (answered h.state.logged h.journal h.out w) (refused h.state h.journal h.out)
    (refusal_is passes)
    ∙ rw (reads, accepted_again h.table h.state a e) (told_again_lem h.state h.journal h.out answers)

-- by the message and its answers
request_again : (h : Handed) (m : Move) {answers : List Message} → NamesNext h (Fa m)
    → (NextMove h.state m → Repeats h.state (Fa m) answers) → AnsweredBy h answers
request_again h m v r =
    let e = repeats_again (r (record { known = v.known; short = v.short; from = v.from; to = v.to })) in
    again_answered h (Fa m) v.reads.message e (after_asking h m v)

-- a number that no check has is given by none
pub not_a_number : (h : Handed) (n : ℕ) → 0 < n → clear n (checks h) ≡ true → RefusedAs n h → ⊥
not_a_number h n positive c =
    by_verdict h.state h.table h.journal h.frame h.out (λ a. a.verdict ≡ RefusedBy n → ⊥)
    (λ k q e. let same : k ≡ n = cc in not_given n (checks h) positive c (q ∙ same))
    (λ p answers r e. let z : ◌≡◌ {A = ℕ} 0 1 = cc in omega arith)
    (λ p t e. let z : ◌≡◌ {A = ℕ} 0 1 = cc in omega arith)

-- no move is finished: there is none
no_last : (x : Last) → is_nothing x ≡ true → x ≡ None
no_last None e = refl
no_last (Some m) e = absurd (false≢true e)

-- the post before the present one leads to it
came_by : (a p e : ℕ) → Between a p e → p ≢ a → CameBy a e p (next_post p a) p
came_by a p e b past = ⊎_elim
    (λ (r : (a ≤ p) × (p ≤ e)).
    let h : a < p = omega arith in
    record {
      to = refl;
      towards = rw (← next_down p a h) (sym (next_up _ e (omega arith)) ∙ omega arith);
      on = of_between _ _ _ (rw (← next_down p a h) (inl (omega arith)));
      short = rw (← next_down p a h) (λ z. omega arith);
    })
    (λ (r : (e ≤ p) × (p ≤ a)).
    let h : p < a = omega arith in
    record {
      to = refl;
      towards = rw (← next_up p a h) (sym (next_down _ e (omega arith)) ∙ omega arith);
      on = of_between _ _ _ (rw (← next_up p a h) (inr (omega arith)));
      short = rw (← next_up p a h) (λ z. omega arith);
    }) b

-- a train's last finished move is known by its two posts
named_last : (x : Last) (p q : PostNo) → x ≡ Some (p, q) → is_last x p.0 q.0 ≡ true
named_last x p q e = rw (e, eq-eqb p.0 p.0 refl) (eq-eqb q.0 q.0 refl)

pub repeats_answered : RepeatsAnswered
repeats_answered = record {
  declined = λ h m v e. request_again h m v (λ n. declined_before m n e);
  authorised = λ h m v e. request_again h m v (λ n. granted_before m n e);
  arrived = λ h m v known e.
      let last = named_last _ _ _ e in
      again_answered h (Am m) v.message (rw last) (after_finish h m v known last);
  ten_gone = λ h. not_a_number h 10 (omega arith) (by_content h.state (λ cs. clear 10 cs ≡ true)
      (λ m. refl) (λ m. refl) (λ m. refl) (λ m. refl) (λ m. refl) refl (read_frame h.frame));
  eleven_gone = λ h. not_a_number h 11 (omega arith) (by_content h.state (λ cs. clear 11 cs ≡ true)
      (λ m. refl) (λ m. refl) (λ m. refl) (λ m. refl) (λ m. refl) refl (read_frame h.frame));
  none_at_start = λ s t d k e. no_last _ (none_finished (train_of s t) ((consistent_facts s d).each t k).finished e);
  one_past_start = λ s t d k h.
      let v = (consistent_facts s d).each t k in (
        record { 0 = next_post (train_of s t).at.0 (train_of s t).route.start.0 },
        (train_of s t).at,
        is_last_lem _ _ _ (one_finished (train_of s t) v.finished h),
        came_by _ _ _ v.inside h,
      );
}
