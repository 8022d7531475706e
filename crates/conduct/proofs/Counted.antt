-- The records of a sort in a journal, counted: a frame adds those of its own list. So what each new frame keeps of the
-- state and of their number holds after a run.
use mathlib.Core.Path.{◌≡◌, refl, ◌∙◌}
use mathlib.Core.Bool.{Bool}
use mathlib.Core.List.{List, [], ◌∷◌, ◌++◌}
use Prim.Native.Nat.{ℕ, zero, suc, ◌+◌, ◌≤◌}
use native.Mathlib.Omega.{arith}
use lib.ListN.{length, take, length-append}
use lib.Seq.{take-suc, take_at, length-take-le}
use Rattle.common.specs.Below.{of_bool, count_below}
use Rattle.common.specs.Part.{replaced}
use Rattle.common.proofs.Part.{length_replaced}
use Rattle.frame.specs.Frame.{read_frame}
use Rattle.journal.specs.Journal.{blank, record_at}
use Rattle.rules.specs.Answer.{anew, answer}
use Rattle.rules.proofs.Validity.{Consistent}
use Rattle.rules.proofs.Acceptance.{Taken, by_verdict, accepted_facts}
use Rattle.assurance.specs.Types.{Message, Record, State}
use Rattle.assurance.specs.Run.{Input, like_among, run}
use Rattle.assurance.specs.Observer.{Observer}
use Rattle.assurance.proofs.Exchanged.{Settled, answer_kept}

module _ (like : Record → Bool) where
  -- ---- in a list

  unfoldable pub count_in : List Record → ℕ
  count_in [] = 0
  count_in (r ∷ l) = of_bool (like r) + count_in l

  count_append : (l m : List Record) → count_in (l ++ m) ≡ count_in l + count_in m
  unfolding count_in
  count_append [] m = omega arith
  count_append (r ∷ l) m = omega (arith, count_append l m)

  pub count_one : (r : Record) → count_in (r ∷ []) ≡ of_bool (like r)
  unfolding count_in
  count_one r = omega arith

  pub count_more : (l : List Record) (r : Record) → count_in (l ++ r ∷ []) ≡ count_in l + of_bool (like r)
  count_more l r = count_append l (r ∷ []) ∙ rw (count_one r)

  -- ---- in the first n places of a journal

  count_places : (n : ℕ) (j : List Record) → n ≤ length j → like_among like n j ≡ count_in (take n j)
  unfolding count_below count_in
  count_places zero j h = refl
  count_places (suc n) j h =
      rw (take-suc j n blank (omega arith), count_more (take n j) (record_at j n))
      (omega (arith, count_places n j (omega arith)))

  count_replaced : (j : List Record) (n : ℕ) (b : List Record) → n + length b ≤ length j
      → like_among like (n + length b) (replaced j n b) ≡ like_among like n j + count_in b
  unfolding replaced
  count_replaced j n b h =
      let whole : length (take n j ++ b) ≡ n + length b = rw (length-append, length-take-le n j (omega arith)) in
      count_places (n + length b) (replaced j n b) (omega (arith, length_replaced j n b h))
      ∙ rw (take_at (take n j ++ b) _ (n + length b) whole, count_append (take n j) b)
      (omega (arith, count_places n j (omega arith)))

  -- ---- after a run

  module _ (table : List ℕ) (P : State → ℕ → Type 0)
      (keeps : (s : State) → Consistent s → length s.possessions ≡ 7 → (a : Message) → Taken s a
      → (n : ℕ) → P s n → let w = anew table s a in P w.state (n + count_in w.logged)) where
    -- a refused frame and a repeat leave state and journal
    answer_keeps : (s : State) (j : List Record) (o : Observer) → Settled table s j o → (frame out : List ℕ)
        → P s (like_among like s.logged j)
        → let a = answer s table j frame out in P a.state (like_among like a.state.logged a.journal)
    answer_keeps s j o k frame out h =
        by_verdict s table j frame out (λ a. P a.state (like_among like a.state.logged a.journal))
        (λ n e. h)
        (λ p answers r. h)
        (λ p t.
        let w = anew table s (read_frame frame) in
        let facts = accepted_facts table s p.valid_state (read_frame frame) t in
        rw (facts.counted, count_replaced j s.logged w.logged (omega (arith, facts.few, p.room)))
        (keeps s p.valid_state k.kept.seven (read_frame frame) t _ h))

    pub run_keeps : (is : List Input) (s : State) (j : List Record) (o : Observer) → Settled table s j o
        → P s (like_among like s.logged j)
        → let r = run table s j is in P r.state (like_among like r.state.logged r.journal)
    unfolding run
    run_keeps [] s j o k h = h
    run_keeps (i ∷ is) s j o k h =
        run_keeps is _ _ _ (answer_kept table s j o k i.frame i.out).after
        (answer_keeps s j o k i.frame i.out h)
