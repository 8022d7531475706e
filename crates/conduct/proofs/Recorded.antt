-- The journal of a run, told by its exchanges: each adds its records after those that were there.
use mathlib.Core.Path.{◌≡◌, refl, sym, ap, subst, ◌∙◌}
use mathlib.Core.Logic.{⊎_elim}
use mathlib.Core.Bool.{Bool, true, false, cond}
use mathlib.Core.Option.{none}
use mathlib.Core.List.{List, [], ◌∷◌, ◌++◌, append_assoc, append-nil, map, map-append, Memᴰ}
use mathlib.Core.List.Memᴰ
use Prim.Native.Nat.{ℕ, ◌+◌, ◌-◌}
use native.Mathlib.Omega.{arith}
use lib.ListN.{length, take, drop, length-append, length-map, take-append-drop}
use lib.Seq.{take_at, drop_at, length-take-le, drop-drop, get_or-take}
use Rattle.common.specs.Part.{replaced}
use Rattle.common.proofs.Members.{member}
use Rattle.frame.specs.Frame.{read_frame}
use Rattle.journal.specs.Journal.{blank, record_of, without_track, Tracked, record_at}
use Rattle.completion.specs.Table.{filled}
use Rattle.line.specs.Book.{line_in}
use Rattle.rules.specs.State.{line_of}
use Rattle.rules.specs.Answer.{again, anew, frames_of, answered, refused, answer}
use Rattle.rules.specs.Opening.{Opening, opened_state}
use Rattle.rules.proofs.Acceptance.{Taken, Passed, repeats_again, new_or_again, by_verdict, accepted_facts}
use Rattle.assurance.specs.Types.{Line, Message, Record, State}
use Rattle.assurance.specs.Run.{Input, Exchange, new_records, run}
use Rattle.assurance.specs.Observer.{Observer, at_opening, read_frames}
use Rattle.conduct.specs.Replies.{logged_by}
use Rattle.conduct.specs.Repeats.{repeats_told}
use Rattle.conduct.specs.Recorded.{logged_in, Recorded, JournalTold}
use Rattle.assurance.proofs.Logging.{new_logged, none_logged as again-none}
use Rattle.assurance.proofs.Invariant.{Invariant}
use Rattle.assurance.proofs.Exchanged.{answers_back, Settled, answer_kept}
use Rattle.assurance.proofs.Opened.{opening_accepted, opened_line_lem, opened_settled}
use Rattle.conduct.proofs.Repeats.{repeat_told, new_told}

-- the records `new`, after those that were there
pub record Adds (s : State) (j : List Record) (u : State) (k : List Record) (new : List Record) : Type 0 where
  pub count : u.logged ≡ s.logged + length new
  pub records : take u.logged k ≡ take s.logged j ++ new
  pub rest : drop u.logged k ≡ drop u.logged j

-- the whole journal
pub all_records : {s u : State} {j k new : List Record} → Adds s j u k new
    → k ≡ take s.logged j ++ new ++ drop u.logged j
all_records {u = u} {k = k} a = sym (take-append-drop u.logged k) ∙ rw (a.records, a.rest)

-- ---- one frame

-- the records `new` are these but for the tracks, and each has a track where it is an FE's
pub record Logs (l : Line) (new due : List Record) : Type 0 where
  pub logged : map without_track new ≡ due
  pub tracked : (r : Record) → Memᴰ r new → Tracked l r

none_logged : (l : Line) → Logs l [] []
none_logged l = record { logged = refl; tracked = λ r h. absurd (Memᴰ.not-nil h) }

module _ (table : List ℕ) (s : State) (j : List Record) (frame out : List ℕ) where
  accepted_adds : Passed s table j frame out → Taken s (read_frame frame)
      → let a = answered s.logged j out (anew table s (read_frame frame)) in
      Adds s j a.state a.journal (new_records s a)
  unfolding replaced
  accepted_adds p t =
      let w = anew table s (read_frame frame) in
      let facts = accepted_facts table s p.valid_state (read_frame frame) t in
      let old : length (take s.logged j) ≡ s.logged =
      length-take-le s.logged j (omega (arith, p.long_journal, p.room)) in
      let whole : length (take s.logged j ++ w.logged) ≡ w.state.logged =
      length-append (take s.logged j) w.logged ∙ omega (arith, facts.counted) in
      let reach : s.logged + length w.logged ≡ w.state.logged = omega (arith, facts.counted) in
      let new = new_logged table s j frame out p t in
      subst (Adds s j w.state (replaced j s.logged w.logged)) (sym new) (record {
        count = facts.counted;
        records = take_at (take s.logged j ++ w.logged) _ w.state.logged whole;
        rest = drop_at (take s.logged j ++ w.logged) _ w.state.logged whole
            ∙ ap (λ n. drop n j) reach;
      })

  accepted_logs : Passed s table j frame out → Taken s (read_frame frame)
      → let a = answered s.logged j out (anew table s (read_frame frame)) in
      Logs (line_of s) (new_records s a) (logged_by a.verdict frame a.out)
  accepted_logs p t =
      let w = anew table s (read_frame frame) in
      let facts = accepted_facts table s p.valid_state (read_frame frame) t in
      let back : read_frames (length w.sent) (replaced out 0 (frames_of w.sent)) ≡ w.sent =
      answers_back w.sent out facts.messages in
      rw (new_logged table s j frame out p t) (record {
        logged = facts.written ∙ ap (λ (z : List Message). map record_of (read_frame frame ∷ z)) (sym back);
        tracked = facts.tracked;
      })

  -- a refused frame adds none, nor does a repeat
  none_new : (n : ℕ) → new_records s (refused s j out n) ≡ []
  none_new n = let none : s.logged - s.logged ≡ 0 = omega arith in rw none

  none_added : Adds s j s j []
  none_added = record { count = omega arith; records = sym (append-nil (take s.logged j)); rest = refl }

  pub answer_adds : let a = answer s table j frame out in Adds s j a.state a.journal (new_records s a)
  answer_adds = by_verdict s table j frame out (λ a. Adds s j a.state a.journal (new_records s a))
      (λ n e. rw (none_new n) none_added)
      (λ p answers r. rw (again-none s j out answers) none_added)
      accepted_adds

  same_line : line_of (answer s table j frame out).state ≡ line_of s
  same_line = by_verdict s table j frame out (λ a. line_of a.state ≡ line_of s)
      (λ n e. refl)
      (λ p answers r. refl)
      (λ p t. (accepted_facts table s p.valid_state (read_frame frame) t).line)

  -- what a frame that repeats none is logged by
  pub answer_logs : again s (read_frame frame) ≡ none
      → let a = answer s table j frame out in
      Logs (line_of s) (new_records s a) (logged_by a.verdict frame a.out)
  answer_logs fresh = by_verdict s table j frame out
      (λ a. Logs (line_of s) (new_records s a) (logged_by a.verdict frame a.out))
      (λ n e. rw (none_new n) (none_logged (line_of s)))
      (λ p answers r. absurd (new_or_again fresh (repeats_again r)))
      accepted_logs

  -- and what any frame is, as the observer tells it
  told_logs : (o : Observer) → Invariant table s j o
      → let a = answer s table j frame out in
      Logs (line_of s) (new_records s a)
      (cond (repeats_told o (read_frame frame)) [] (logged_by a.verdict frame a.out))
  told_logs o inv = by_verdict s table j frame out
      (λ a. Logs (line_of s) (new_records s a)
      (cond (repeats_told o (read_frame frame)) [] (logged_by a.verdict frame a.out)))
      (λ n e. rw (none_new n, neither (repeats_told o (read_frame frame))) (none_logged (line_of s)))
      (λ p answers r. rw (again-none s j out answers, repeat_told table s j o inv (read_frame frame) answers r)
      (none_logged (line_of s)))
      (λ p t. rw (new_told table s j o inv (read_frame frame) t) (accepted_logs p t))
    where
      neither : (b : Bool) → ◌≡◌ {A = List Record} (cond b [] []) []
      neither true = refl
      neither false = refl

-- ---- a run

-- the records of a list of exchanges
unfoldable new_in : List Exchange → List Record
new_in [] = []
new_in (e ∷ es) = e.records ++ new_in es

run_adds : (table : List ℕ) (inputs : List Input) (s : State) (j : List Record)
    → let r = run table s j inputs in Adds s j r.state r.journal (new_in r.exchanges)
unfolding run new_in
run_adds table [] s j =
    record { count = omega arith; records = sym (append-nil (take s.logged j)); rest = refl }
run_adds table (i ∷ is) s j =
    let a = answer s table j i.frame i.out in
    let f = answer_adds table s j i.frame i.out in
    let r = run_adds table is a.state a.journal in
    let new = new_records s a in
    let more = new_in (run table a.state a.journal is).exchanges in
    let end = (run table a.state a.journal is).state.logged in
    record {
      count = r.count ∙ omega (arith, f.count, length-append new more);
      records = r.records ∙ ap (λ (z : List Record). z ++ more) f.records
          ∙ append_assoc (take s.logged j) new more;
      rest =
          let later : end ≡ a.state.logged + length more = r.count in
          r.rest
          ∙ rw later (sym (drop-drop (length more) a.state.logged a.journal)
          ∙ ap (λ (z : List Record). drop (length more) z) f.rest
          ∙ drop-drop (length more) a.state.logged j);
    }

-- what is logged for each
run_logged : (table : List ℕ) (inputs : List Input) (s : State) (j : List Record) (o : Observer) → Settled table s j o
    → let es = (run table s j inputs).exchanges in map without_track (new_in es) ≡ logged_in o es
unfolding run new_in logged_in
run_logged table [] s j o k = refl
run_logged table (i ∷ is) s j o k =
    let a = answer s table j i.frame i.out in
    let after = (answer_kept table s j o k i.frame i.out).after in
    map-append without_track (new_records s a) (new_in (run table a.state a.journal is).exchanges)
    ∙ rw (
      (told_logs table s j i.frame i.out o k.kept).logged,
      run_logged table is a.state a.journal _ after,
    )

run_tracked : (table : List ℕ) (inputs : List Input) (s : State) (j : List Record) (o : Observer) → Settled table s j o
    → (r : Record) → Memᴰ r (new_in (run table s j inputs).exchanges) → Tracked (line_of s) r
unfolding run new_in
run_tracked table [] s j o k r h = absurd (Memᴰ.not-nil h)
run_tracked table (i ∷ is) s j o k r h =
    let a = answer s table j i.frame i.out in
    let after = (answer_kept table s j o k i.frame i.out).after in
    ⊎_elim
    ((told_logs table s j i.frame i.out o k.kept).tracked r)
    (λ q. subst (λ (l : Line). Tracked l r) (same_line table s j i.frame i.out)
    (run_tracked table is a.state a.journal _ after r q))
    (Memᴰ.append_cases (new_records s a) h)

recorded : (l : Line) (table : List ℕ) (inputs : List Input) (s : State) (journal : List Record)
    → Settled table s journal (at_opening l) → line_of s ≡ l → s.logged ≡ 0
    → Recorded l journal (run table s journal inputs)
recorded l table inputs s journal k line empty =
    let r = run table s journal inputs in
    let f = run_adds table inputs s journal in
    let logged = run_logged table inputs s journal (at_opening l) k in
    let all : take r.state.logged r.journal ≡ new_in r.exchanges = f.records ∙ rw empty in
    let size : length (new_in r.exchanges) ≡ r.state.logged = omega (arith, f.count) in
    record {
      count = sym size ∙ sym (length-map (new_in r.exchanges) without_track) ∙ ap length logged;
      records = ap (map without_track) all ∙ logged;
      tracked = λ i h.
          let at : record_at r.journal i ≡ record_at (new_in r.exchanges) i =
          sym (get_or-take r.state.logged r.journal i blank h) ∙ ap (λ (l : List Record). record_at l i) all in
          rw at (subst (λ (z : Line). Tracked z (record_at (new_in r.exchanges) i)) line
          (run_tracked table inputs s journal (at_opening l) k _ (member blank (new_in r.exchanges) i (omega arith))));
      rest = f.rest;
    }

pub journal_told : JournalTold
journal_told book table journal inputs e =
    let l = line_in book in
    let a = opening_accepted book table journal e in
    subst (λ (o : Opening). Recorded l journal (run o.table o.state journal inputs)) (sym a.0)
    (recorded l (filled l table) inputs (opened_state l) journal
    (opened_settled l table journal a.1 (opened_line_lem book)) (opened_line_lem book) refl)
