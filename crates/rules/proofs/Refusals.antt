-- Which number refuses a frame: the checks before its own pass, and its own fails.
use mathlib.Core.Path.{◌≡◌, refl, sym, ap, subst}
use mathlib.Core.Logic.{◌≢◌, ◌⊎◌, ⊎_elim}
use mathlib.Core.Bool.{Bool, true, false, not, ◌&&◌, and-false, false≢true}
use mathlib.Core.Option.{none}
use mathlib.Core.List.{List, [], ◌∷◌, ◌++◌}
use Prim.Native.Nat.{ℕ, ◌+◌, ◌≤◌, ◌<◌}
use native.Mathlib.Omega.{arith}
use lib.Dec.{leb, ltb, eqb}
use lib.ListN.{length}
use borrow.Author.Tests.{eq-eqb, ne_eqb, lt-ltb, le-ltb, le-leb, lt-leb}
use Rattle.common.specs.Check.{Check, check}
use Rattle.common.proofs.Tests.{and_both, not_of_false}
use Rattle.common.proofs.Check.{Refuses, none as no-check, stop, pass, refusal_is, refuses, stop_within, pass_all}
use Rattle.line.specs.Refusal.{wrong_end, unknown_train}
use Rattle.frame.specs.Frame.{move_in, read_checks, read_frame}
use Rattle.frame.specs.RoundTrip.{IsMessage}
use Rattle.frame.proofs.Outcome.{read_passed, read_refused}
use Rattle.journal.specs.Journal.{journal_length}
use Rattle.completion.specs.Table.{table_length}
use Rattle.rules.specs.Types.{Move, Message, Fa, Fe, Afe, Am, La, Le, Lb, Refused}
use Rattle.rules.specs.State.{is_last, next_of}
use Rattle.rules.specs.Answer.{out_length, for_box, knows, move_checks, arrival_checks}
use Rattle.rules.specs.Answer.{again, of_new, content_checks, section_checks, lending_checks, return_checks}
use Rattle.rules.specs.Answer.{frame_checks, accepted, Answer, answered, refused, answer}
use Rattle.rules.specs.Refusals.{Handed, RefusedAs, Prepared, of_train, of_gang, Reads, named, NamesNext}
use Rattle.rules.specs.Refusals.{NotFinished, NamesSection, Refusals}
use Rattle.rules.proofs.Validity.{valid_facts}
use Rattle.rules.proofs.Acceptance.{arrival_new}

pub is_message : (a : Message) → for_box a ≡ true → IsMessage a
unfolding IsMessage
is_message (Fa m) e = tt
is_message (Am m) e = tt
is_message (Fe m) e = tt
is_message (Afe m) e = tt
is_message (La m) e = tt
is_message (Le m) e = tt
is_message (Lb m) e = tt
is_message (Refused n) e = absurd (false≢true e)

-- the messages of a train and of a gang are for the box
train_for_box : (a : Message) → of_train a ≡ true → for_box a ≡ true
train_for_box (Fa m) e = refl
train_for_box (Am m) e = refl
train_for_box (Fe m) e = e
train_for_box (Afe m) e = e
train_for_box (La m) e = refl
train_for_box (Le m) e = e
train_for_box (Lb m) e = refl
train_for_box (Refused n) e = e

gang_for_box : (a : Message) → of_gang a ≡ true → for_box a ≡ true
gang_for_box (La m) e = refl
gang_for_box (Lb m) e = refl
gang_for_box (Fa m) e = refl
gang_for_box (Fe m) e = e
gang_for_box (Afe m) e = e
gang_for_box (Am m) e = refl
gang_for_box (Le m) e = e
gang_for_box (Refused n) e = e

module _ (h : Handed) where
  abbrev pub checks : List Check
  checks = frame_checks h.state (length h.table) (length h.journal) h.frame (length h.out)

  -- those after the reading, of a frame that reads as a
  abbrev content : Message → List Check
  content a = check wrong_end (for_box a) ∷ content_checks h.state a

  by_number : {n : ℕ} → 0 < n → Refuses checks n → RefusedAs n h
  unfolding answer
  by_number {n = n} some r =
      let w = accepted h.table h.state (read_frame h.frame) in
      let a = answered h.state.logged h.journal h.out w in
      rw (refusal_is r)
      (ap (λ (b : Answer). b.verdict) (refuses {n = n} a (refused h.state h.journal h.out) some))

  short_store_lem : (length h.table < table_length)
      ⊎ ((length h.journal < journal_length) ⊎ (length h.out < out_length))
      → leb table_length (length h.table)
      && (leb journal_length (length h.journal) && leb out_length (length h.out)) ≡ false
  short_store_lem = ⊎_elim
      (λ e. rw (lt-leb table_length (length h.table) e))
      (⊎_elim
      (λ e. rw (lt-leb journal_length (length h.journal) e) (and-false (leb table_length (length h.table))))
      (λ e. rw (lt-leb out_length (length h.out) e, and-false (leb journal_length (length h.journal)))
      (and-false (leb table_length (length h.table)))))

  -- 1 and 2 pass
  after_stores : {n : ℕ} → Prepared h → Refuses (read_checks h.frame ++ content (read_frame h.frame)) n
      → Refuses checks n
  after_stores v r =
      let long = and_both _ _ (le-leb _ _ v.long_journal) (le-leb _ _ v.long_out) in
      pass v.valid_state (pass (and_both _ _ (le-leb _ _ v.long_table) long) r)

  -- 3 to 5 pass too
  after_reading : {n : ℕ} (a : Message) → Prepared h → read_frame h.frame ≡ a → IsMessage a → Refuses (content a) n
      → Refuses checks n
  after_reading {n = n} a v e k r = after_stores v (pass_all (read_checks h.frame) refl
      (read_passed h.frame (subst IsMessage (sym e) k))
      (subst (λ (b : Message). Refuses (content b) n) (sym e) r))

  module _ (a : Message) where
    -- 6 passes too
    after_kind : {n : ℕ} {whose : Message → Bool} → Reads whose h a → for_box a ≡ true
        → Refuses (content_checks h.state a) n → Refuses checks n
    after_kind v k r = after_reading a v.prepared v.message (is_message a k) (pass k r)

    -- what of an FA and an AM is checked first, and what comes next of one that is no AM of the last finished move,
    -- whatever is checked after it
    by_train : {n : ℕ} → Reads of_train h a
        → ((cs : List Check) → Refuses (check unknown_train (knows h.state (move_in a)) ∷ cs) n) → Refuses checks n
    by_train {n = n} v r = after_kind v (train_for_box a v.kind) (at a v.kind r)
      where
        at : (b : Message) → of_train b ≡ true
            → ((cs : List Check) → Refuses (check unknown_train (knows h.state (move_in b)) ∷ cs) n)
            → Refuses (content_checks h.state b) n
        at (Fa m) e f = f _
        at (Am m) e f = f _
        at (Fe m) e f = absurd (false≢true e)
        at (Afe m) e f = absurd (false≢true e)
        at (La m) e f = absurd (false≢true e)
        at (Le m) e f = absurd (false≢true e)
        at (Lb m) e f = absurd (false≢true e)
        at (Refused k) e f = absurd (false≢true e)

    by_move : {n : ℕ} → Reads of_train h a → (move_in a).train.0 < h.state.trains → NotFinished h a
        → ((cs : List Check) → Refuses (move_checks (named h a) (move_in a) ++ cs) n) → Refuses checks n
    by_move {n = n} v known other r =
        after_kind v (train_for_box a v.kind) (at a v.kind (lt-ltb _ _ known) other r)
      where
        at : (b : Message) → of_train b ≡ true → knows h.state (move_in b) ≡ true → NotFinished h b
            → ((cs : List Check) → Refuses (move_checks (named h b) (move_in b) ++ cs) n)
            → Refuses (content_checks h.state b) n
        at (Fa m) e k o f = pass k (f [])
        at (Am m) e k o f =
            let onward = move_checks (named h (Am m)) m ++ arrival_checks (named h (Am m)) in
            let rest : Refuses (of_new (again h.state (Am m)) onward) n = rw (o m refl) (f _) in
            pass k rest
        at (Fe m) e k o f = absurd (false≢true e)
        at (Afe m) e k o f = absurd (false≢true e)
        at (La m) e k o f = absurd (false≢true e)
        at (Le m) e k o f = absurd (false≢true e)
        at (Lb m) e k o f = absurd (false≢true e)
        at (Refused k) e l o f = absurd (false≢true e)

    -- the same of an LA and an LB
    by_section : {n : ℕ} → Reads of_gang h a
        → ((cs : List Check) → Refuses (section_checks h.state (move_in a) ++ cs) n) → Refuses checks n
    by_section {n = n} v r = after_kind v (gang_for_box a v.kind) (at a v.kind r)
      where
        at : (b : Message) → of_gang b ≡ true
            → ((cs : List Check) → Refuses (section_checks h.state (move_in b) ++ cs) n)
            → Refuses (content_checks h.state b) n
        at (La m) e f = f _
        at (Lb m) e f = f _
        at (Fa m) e f = absurd (false≢true e)
        at (Fe m) e f = absurd (false≢true e)
        at (Afe m) e f = absurd (false≢true e)
        at (Am m) e f = absurd (false≢true e)
        at (Le m) e f = absurd (false≢true e)
        at (Refused k) e f = absurd (false≢true e)

    -- 8 and 9 pass too
    after_posts_lem : {n : ℕ} (cs : List Check) → NamesNext h a → Refuses cs n
        → Refuses (move_checks (named h a) (move_in a) ++ cs) n
    after_posts_lem cs v r =
        pass (not_of_false _ (ne_eqb _ _ v.short))
        (pass (and_both _ _ (eq-eqb _ _ v.from) (eq-eqb _ _ v.to)) r)

    other_posts : ((move_in a).from.0 ≢ (named h a).at.0) ⊎ ((move_in a).to.0 ≢ next_of (named h a))
        → eqb (move_in a).from.0 (named h a).at.0 && eqb (move_in a).to.0 (next_of (named h a)) ≡ false
    other_posts = ⊎_elim
        (λ e. rw (ne_eqb (move_in a).from.0 (named h a).at.0 e))
        (λ e.
        let wrong = ne_eqb (move_in a).to.0 (next_of (named h a)) e in
        rw wrong (and-false (eqb (move_in a).from.0 (named h a).at.0)))

    -- 7 and 9 pass too
    after_section : {n : ℕ} (cs : List Check) → NamesSection h a → Refuses cs n
        → Refuses (section_checks h.state (move_in a) ++ cs) n
    after_section cs v r =
        pass (eq-eqb _ _ v.gang) (pass (and_both _ _ (eq-eqb _ _ v.upper) (lt-ltb _ _ v.on)) r)

    not_neighbours : ((move_in a).to.0 ≢ (move_in a).from.0 + 1) ⊎ (h.state.posts ≤ (move_in a).to.0)
        → eqb (move_in a).to.0 ((move_in a).from.0 + 1) && ltb (move_in a).to.0 h.state.posts ≡ false
    not_neighbours = ⊎_elim
        (λ e. rw (ne_eqb (move_in a).to.0 ((move_in a).from.0 + 1) e))
        (λ e. rw (le-ltb (move_in a).to.0 h.state.posts e) (and-false (eqb (move_in a).to.0 _)))

  -- an FA that names its train's next move passes, new or a repeat
  pub after_asking : (m : Move) → NamesNext h (Fa m) → Refuses checks 0
  after_asking m v =
      after_kind (Fa m) v.reads refl (pass (lt-ltb _ _ v.known) (after_posts_lem (Fa m) [] v no-check))

  -- an AM that names it is no repeat
  next_new : (m : Move) → NamesNext h (Am m) → again h.state (Am m) ≡ none
  next_new m v = arrival_new h.state (valid_facts h.state v.reads.prepared.valid_state) m
      (record { known = v.known; short = v.short; from = v.from; to = v.to })

  pub after_arriving : {n : ℕ} (m : Move) → NamesNext h (Am m) → Refuses (arrival_checks (named h (Am m))) n
      → Refuses checks n
  after_arriving m v r =
      after_kind (Am m) v.reads refl
      (pass (lt-ltb _ _ v.known) (rw (next_new m v) (after_posts_lem (Am m) _ v r)))

  -- an AM of the last finished move passes
  pub after_finish : (m : Move) → Reads of_train h (Am m) → m.train.0 < h.state.trains
      → is_last (named h (Am m)).last m.from.0 m.to.0 ≡ true → Refuses checks 0
  after_finish m v known e = after_kind (Am m) v refl (pass (lt-ltb _ _ known) (rw e no-check))

  pub after_lending : {n : ℕ} (m : Move) → NamesSection h (La m) → Refuses (lending_checks h.state m) n
      → Refuses checks n
  after_lending m v r = after_kind (La m) v.reads refl (after_section (La m) _ v r)

  pub after_return : {n : ℕ} (m : Move) → NamesSection h (Lb m) → Refuses (return_checks h.state m) n
      → Refuses checks n
  after_return m v r = after_kind (Lb m) v.reads refl (after_section (Lb m) _ v r)

pub refusals : Refusals
unfolding IsMessage
refusals = record {
  strange = λ h e. by_number h (omega arith) (stop e);
  short = λ h e l. by_number h (omega arith) (pass e (stop (short_store_lem h l)));
  unread = λ h n v e.
      let r = read_refused h.frame n e in
      by_number h r.0 (subst (Refuses (checks h)) r.1 (after_stores h v
      (stop_within (read_checks h.frame) (content h (read_frame h.frame)) (rw r.1 r.0))));
  wrong_end_lem = λ h m v. ⊎_elim
      (λ e. by_number h (omega arith) (after_reading h (Fe m) v e tt (stop refl)))
      (⊎_elim
      (λ e. by_number h (omega arith) (after_reading h (Afe m) v e tt (stop refl)))
      (λ e. by_number h (omega arith) (after_reading h (Le m) v e tt (stop refl))));
  unknown = λ h a v e. by_number h (omega arith) (by_train h a v (λ cs. stop (le-ltb _ _ e)));
  ended = λ h a v k o e. by_number h (omega arith) (by_move h a v k o (λ cs. stop (ap not (eq-eqb _ _ e))));
  other_post = λ h a v k o s e. by_number h (omega arith)
      (by_move h a v k o (λ cs. pass (not_of_false _ (ne_eqb _ _ s)) (stop (other_posts h a e))));
  idle = λ h m v e. by_number h (omega arith) (after_arriving h m v (stop e));
  unknown_gang = λ h a v e. by_number h (omega arith) (by_section h a v (λ cs. stop (ne_eqb _ _ e)));
  other_section = λ h a v k e.
      by_number h (omega arith) (by_section h a v (λ cs. pass (eq-eqb _ _ k) (stop (not_neighbours h a e))));
  section_taken_lem = λ h m v e. by_number h (omega arith) (after_lending h m v (stop (ne_eqb _ _ e)));
  twenty = λ h m v e l. by_number h (omega arith) (after_lending h m v (pass (eq-eqb _ _ e) (stop (le-ltb _ _ l))));
  not_lent = λ h m v e. by_number h (omega arith) (after_return h m v (stop e));
}
