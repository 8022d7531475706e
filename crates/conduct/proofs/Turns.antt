-- Turns by order of asking. The numbers of the Asked trains stand in the order in which the frames came (`Order`), so
-- that the oldest that can be granted is the one that asked first of those that could go.
use mathlib.Core.Path.{◌≡◌, refl, sym, ap, subst, ◌∙◌}
use mathlib.Core.Logic.{⊎_elim}
use mathlib.Core.Bool.{false}
use mathlib.Core.List.{List, [], ◌∷◌, ◌++◌}
use Prim.Native.Nat.{ℕ, ◌+◌, ◌≤◌, ◌<◌}
use native.Mathlib.Nat.{zero-add}
use native.Mathlib.Omega.{arith}
use lib.ListN.{length, length-append}
use Rattle.common.specs.Part.{replaced}
use Rattle.common.specs.Update.{update}
use Rattle.common.proofs.Tests.{clash, by_cases}
use Rattle.line.specs.Book.{line_in}
use Rattle.frame.specs.Frame.{read_frame}
use Rattle.journal.specs.Journal.{journal_length, record_of}
use Rattle.completion.specs.Table.{filled}
use Rattle.rules.specs.declared.state.Status.TheVariants.{Asked}
use Rattle.rules.specs.State.{is_asked, train_of, line_of, next_move, with_status, arrived_next, with_possession}
use Rattle.rules.specs.Granting.{Work, begun, granted, settled, granting}
use Rattle.rules.specs.Answer.{taken, declined, anew, Answer, answer}
use Rattle.rules.specs.Opening.{opened_state}
use Rattle.rules.proofs.Trains.{free_idle, changed_line}
use Rattle.rules.proofs.Changes.{grantable_facts, short_place}
use Rattle.rules.proofs.Oldest.{earlier}
use Rattle.rules.proofs.Grants.{Turn, grants_keep, granted_place, granted_line}
use Rattle.rules.proofs.Acceptance.{RoomLeft, Taken, request, arrival, lending, return, by_verdict, accepted_facts}
use Rattle.assurance.specs.Types.{Line, Move, Message, Fa, Fe, Afe, Am, Le, Lb, Record, State}
use Rattle.assurance.specs.Run.{Input, run}
use Rattle.assurance.specs.Observer.{Observer, at_opening, note_frame, note_answers, answers_of, observe}
use Rattle.conduct.specs.Repeats.{repeats_told}
use Rattle.conduct.specs.Turns.{Turns, turn_by, turn_in, turns_from, turns, InTurn, TurnByTurn}
use Rattle.assurance.proofs.Invariant.{Invariant}
use Rattle.conduct.proofs.Repeats.{repeat_told, new_told}
use Rattle.conduct.proofs.Order.{InOrder, no_more_asked, asks_last}
use Rattle.assurance.proofs.Logging.{split_last}
use Rattle.assurance.proofs.Steps.{request_kept, arrival_kept, return_kept}
use Rattle.assurance.proofs.Accept.{Room, Worked, not_fe, granted_worked, begun_worked}
use Rattle.assurance.proofs.Exchanged.{Settled, answers_back, answer_kept}
use Rattle.assurance.proofs.Opened.{opening_accepted, opened_line_lem, opened_settled}
use Rattle.assurance.proofs.Told.{at_post, asked_told, next_told_lem}
use Rattle.conduct.proofs.Waiting.{could_granted, granted_could}
use Rattle.assurance.proofs.WholeList.{opened_run}

-- ---- the answers to one frame

-- each FE among the answers goes to the train whose turn it is; o is the observer once it has heard the frame
abbrev GivenInTurn : Line → Turns → Observer → List Message → Type 0
GivenInTurn l k o answers = (said : List Message) (m : Move) (rest : List Message) → answers ≡ said ++ Fe m ∷ rest
    → InTurn l k (note_answers o said) m

-- one answer more
given_more : (l : Line) (k : Turns) (o : Observer) (answers : List Message) (a : Message) → GivenInTurn l k o answers
    → ((m : Move) → Fe m ≡ a → InTurn l k (note_answers o answers) m) → GivenInTurn l k o (answers ++ a ∷ [])
given_more l k o answers a given own said m rest e = ⊎_elim
    (λ h. rw h.0 (own m h.1))
    (λ h. given said m h.0 h.1)
    (split_last answers a said (Fe m) rest e)

given_none : (l : Line) (k : Turns) (o : Observer) → GivenInTurn l k o []
given_none l k o said m rest e = absurd (let n = ap length e in omega (arith, length-append said (Fe m ∷ rest)))

module _ (table : List ℕ) (c : ℕ) (j : List Record) (o : Observer) (long : journal_length ≤ length j) (l : Line) (n : ℕ)
    (k : Turns) where
  record Turned (w : Work) : Type 0 where
    worked : Worked table c j o w × Room w
    line : line_of w.state ≡ l
    ordered : InOrder w.state n k
    given : GivenInTurn l k o w.sent

  -- a grant to the oldest, as the observer tells it
  module _ (w : Work) (t : ℕ) (h : Turned w) (f : Turn table w t) where
    abbrev s : State
    s = w.state

    inv : Invariant table s (replaced j c w.logged) (note_answers o w.sent)
    inv = h.worked.0.kept

    turn : InTurn (line_of s) k (note_answers o w.sent) (next_move s t)
    turn = record {
      known = f.known;
      next = rw (next_told_lem table s _ _ inv t f.known, at_post table s _ _ inv t f.known);
      could = granted_could table s _ _ inv t f.known f.can;
      first = λ u ku other could.
          let g = could_granted table s _ _ inv u ku could in
          h.ordered.order t u f.known ku (grantable_facts table s t f.can).asks
          (grantable_facts table s u g).asks
          (earlier table s inv.valid_state.distinct t f u ku other g);
    }

    granted_turned : Turned (granted w t)
    granted_turned = record {
      worked = granted_worked table c j o long w t h.worked f;
      line = granted_line table w t f ∙ h.line;
      ordered = no_more_asked s t (granting s t) (s.logged + 1) n k (granted_place table w t f)
          refl h.ordered;
      given = given_more l k o w.sent (Fe (next_move s t)) h.given (λ m e.
          let same : m ≡ next_move s t = cc in
          rw same (subst (λ (z : Line). InTurn z k (note_answers o w.sent) (next_move s t)) h.line turn));
    }

  settled_turned : (w : Work) → Turned w → Turned (settled table w)
  settled_turned w = grants_keep table Turned granted_turned w.state.trains w

-- what a new frame leaves
record Kept (l : Line) (n : ℕ) (k : Turns) (o : Observer) (w : Work) : Type 0 where
  ordered : InOrder w.state n k
  given : GivenInTurn l k o w.sent

declined_kept : (table : List ℕ) (c : ℕ) (j : List Record) (o : Observer) (long : journal_length ≤ length j) (l : Line)
    (n : ℕ) (k : Turns) (m : Move) (w : Work) → Turned table c j o long l n k w → Kept l n k o (declined m w)
unfolding record_of
declined_kept table c j o long l n k m w h = by_cases (is_asked (train_of w.state m.train.0).status)
    (λ e. rw e (record {
      ordered = record { before = h.ordered.before; order = h.ordered.order };
      given = given_more l k o w.sent (Afe m) h.given (λ q z. absurd (not_fe (Afe m) (λ u. refl) q z));
    }))
    (λ e. rw e (record { ordered = h.ordered; given = h.given }))

module _ (table : List ℕ) (s : State) (j : List Record) (o : Observer) (inv : Invariant table s j o) (n : ℕ) (k : Turns)
    (h : InOrder s n k) where
  -- a frame that is no request leaves the order as it was
  later : InOrder s (n + 1) k
  later = record { before = λ u ku e. omega (arith, h.before u ku e); order = h.order }

  accepted_turned : RoomLeft s → (a : Message) → Taken s a
      → Kept (line_of s) (n + 1) (turn_by n k a) (note_frame o a) (anew table s a)
  unfolding anew note_answers record_of
  accepted_turned room a (request m q free) =
      let t = m.train.0 in
      let x = with_status (train_of s t) (Asked s.logged) in
      let w = taken s (Fa m) x in
      declined_kept table s.logged j (note_frame o (Fa m)) inv.room (line_of s) (n + 1) (update k t n) m
      (settled table w)
      (settled_turned table s.logged j (note_frame o (Fa m)) inv.room (line_of s) (n + 1) (update k t n) w (record {
        worked = begun_worked table s.logged j (note_frame o (Fa m)) inv.room _ _ refl room
            (request_kept table s j o inv m q room (free_idle (train_of s t).status free));
        line = changed_line s t x (s.logged + 1) refl;
        ordered = asks_last s inv.valid_state t (s.logged + 1) n k (short_place s t q.short) h;
        given = given_none (line_of s) (update k t n) (note_frame o (Fa m));
      }))
  accepted_turned room a (arrival m q runs) =
      let t = m.train.0 in
      let x = arrived_next s.sidings (train_of s t) in
      let w = taken s (Am m) x in
      let v =
      settled_turned table s.logged j (note_frame o (Am m)) inv.room (line_of s) (n + 1) k w (record {
        worked = begun_worked table s.logged j (note_frame o (Am m)) inv.room _ _ refl room
            (arrival_kept table s j o inv m q room runs);
        line = changed_line s t x (s.logged + 1) refl;
        ordered = no_more_asked s t x (s.logged + 1) (n + 1) k (short_place s t q.short) refl later;
        given = given_none (line_of s) k (note_frame o (Am m));
      }) in
      record { ordered = v.ordered; given = v.given }
  accepted_turned room a (lending m q free few) = record {
    ordered = record { before = later.before; order = later.order };
    given = given_more (line_of s) k o [] (Le m) (given_none (line_of s) k o)
        (λ r z. absurd (not_fe (Le m) (λ u. refl) r z));
  }
  accepted_turned room a (return m q held) =
      let w = begun (with_possession s m.from.0 false s.given) (record_of (Lb m)) in
      let v =
      settled_turned table s.logged j (note_frame o (Lb m)) inv.room (line_of s) (n + 1) k w (record {
        worked = begun_worked table s.logged j (note_frame o (Lb m)) inv.room _ _ refl room
            (return_kept table s j o inv m q.on (omega (arith, room)) held);
        line = refl;
        ordered = record { before = later.before; order = later.order };
        given = given_none (line_of s) k (note_frame o (Lb m));
      }) in
      record { ordered = v.ordered; given = v.given }

-- ---- one frame of a list

record Exchanges (s : State) (o : Observer) (n : ℕ) (k : Turns) (frame : List ℕ) (a : Answer) : Type 0 where
  ordered : InOrder a.state (n + 1) (turn_in n o k frame a.verdict)
  given : repeats_told o (read_frame frame) ≡ false
      → GivenInTurn (line_of s) (turn_in n o k frame a.verdict) (note_frame o (read_frame frame))
      (answers_of a.verdict a.out)

answer_turned : (table : List ℕ) (s : State) (j : List Record) (o : Observer) → Invariant table s j o → (n : ℕ)
    (k : Turns) → InOrder s n k → (frame out : List ℕ) → Exchanges s o n k frame (answer s table j frame out)
answer_turned table s j o inv n k h frame out = by_verdict s table j frame out (Exchanges s o n k frame)
    (λ c e. record {
      ordered = later table s j o inv n k h;
      given = λ new. given_none (line_of s) k (note_frame o (read_frame frame));
    })
    (λ p answers r.
    let told = repeat_told table s j o inv (read_frame frame) answers r in
    record {
      ordered = rw told (later table s j o inv n k h);
      given = λ new. clash (repeats_told o (read_frame frame)) told new;
    })
    (λ p t.
    let v = accepted_turned table s j o inv n k h p.room (read_frame frame) t in
    let facts = accepted_facts table s inv.valid_state (read_frame frame) t in
    let fresh = new_told table s j o inv (read_frame frame) t in
    record {
      ordered = rw fresh v.ordered;
      given = rw (fresh, answers_back (anew table s (read_frame frame)).sent out facts.messages)
          (λ new. v.given);
    })

run_ordered : (table : List ℕ) (is : List Input) (s : State) (j : List Record) (o : Observer) → Settled table s j o
    → (n : ℕ) (k : Turns) → InOrder s n k
    → let r = run table s j is in InOrder r.state (n + length is) (turns_from n o k r.exchanges)
unfolding run turns_from
run_ordered table [] s j o e n k h = record { before = λ u ku a. omega (arith, h.before u ku a); order = h.order }
run_ordered table (i ∷ is) s j o e n k h =
    let a = answer s table j i.frame i.out in
    let f = answer_turned table s j o e.kept n k h i.frame i.out in
    let r =
    run_ordered table is a.state a.journal _ (answer_kept table s j o e i.frame i.out).after (n + 1) _
    f.ordered in
    record { before = λ u ku b. omega (arith, r.before u ku b); order = r.order }

pub turn_by_turn : TurnByTurn
turn_by_turn book table journal inputs e =
    let l = line_in book in
    let b = opening_accepted book table journal e in
    let s = opened_state l in
    let k = opened_settled l table journal b.1 (opened_line_lem book) in
    let after = opened_run book table journal inputs e in
    let r = run (filled l table) s journal inputs in
    let o = observe (at_opening l) r.exchanges in
    let none : (t : ℕ) → t < s.trains → is_asked (train_of s t).status ≡ false =
    λ t kt. sym (asked_told (filled l table) s journal (at_opening l) k.kept t kt) in
    let first : InOrder s 0 (λ t. 0) =
    record {
      before = λ t kt a. clash (is_asked (train_of s t).status) a (none t kt);
      order = λ t u kt ku a. clash (is_asked (train_of s t).status) a (none t kt);
    } in
    let now = rw zero-add at (run_ordered (filled l table) inputs s journal (at_opening l) k 0 (λ t. 0) first) in
    rw b.0 (λ i said m fe.
    let a = answer r.state (filled l table) r.journal i.frame i.out in
    subst
    (λ (z : Line).
    repeats_told o (read_frame i.frame) ≡ false
    → GivenInTurn z (turn_in (length inputs) o (turns l r.exchanges) i.frame a.verdict)
    (note_frame o (read_frame i.frame)) (answers_of a.verdict a.out))
    (after.line ∙ opened_line_lem book)
    (answer_turned (filled l table) r.state r.journal o after.after.kept (length inputs)
    (turns l r.exchanges) now i.frame i.out).given
    fe.new said m fe.rest fe.parts)
