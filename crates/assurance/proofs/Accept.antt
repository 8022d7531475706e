-- The work on a new frame, message by message: it keeps the invariant, and each FE among the answers has its
-- request in the journal.
use mathlib.Core.Path.{◌≡◌, refl, sym, ap, ◌∙◌}
use mathlib.Core.Logic.{⊎_elim}
use mathlib.Core.Bool.{true}
use mathlib.Core.List.Memᴰ
use mathlib.Core.List.{List, [], ◌∷◌, ◌++◌, Memᴰ}
use Prim.Native.Nat.{ℕ, ◌+◌, ◌≤◌, ◌<◌}
use native.Mathlib.Omega.{arith}
use lib.ListN.{length, set, length-append}
use Rattle.common.specs.Part.{replaced}
use Rattle.common.proofs.Part.{replaced_more}
use Rattle.common.proofs.Tests.{clash, by_cases}
use Rattle.common.proofs.Below.{count_le, count_some}
use Rattle.journal.specs.Journal.{journal_length, record_of}
use Rattle.rules.specs.declared.state.Status.TheVariants.{Asked}
use Rattle.rules.specs.State.{is_asked, train_of, holders_of, next_move, with_status, with_train, with_possession}
use Rattle.rules.specs.State.{one_logged}
use Rattle.rules.specs.Valid.{most_given}
use Rattle.rules.specs.Granting.{Work, begun, sends, granted, settled, granting}
use Rattle.rules.specs.Answer.{most_logged, taken, declined, anew}
use Rattle.rules.proofs.Trains.{free_idle}
use Rattle.rules.proofs.Grants.{asked_count, Turn, grants_keep, granted_fewer}
use Rattle.rules.proofs.Settling.{settled_settles}
use Rattle.rules.proofs.Acceptance.{RoomLeft, Section, Taken, request, arrival, lending, return}
use Rattle.assurance.specs.Types.{Line, Move, Message, Fa, Fe, Afe, Am, La, Le, Lb, Record, State}
use Rattle.assurance.specs.Observer.{Observer, note_frame, note_answer, note_answers}
use Rattle.assurance.specs.WholeList.{Requested, is_fe_of}
use Rattle.assurance.proofs.Invariant.{Invariant}
use Rattle.assurance.proofs.Logging.{replaced_one, later_set, requested_later, heard_more}
use Rattle.assurance.proofs.Steps.{own_authority, NoFe, grant_requested, grant_kept, request_kept, arrival_kept}
use Rattle.assurance.proofs.Steps.{logged_kept, lent_kept, return_kept}

-- room in the journal for a record of each Asked train
abbrev pub Room : Work → Type 0
Room w = w.state.logged + asked_count w.state ≤ journal_length

-- the work so far on a frame that found n records in the journal j; o is the observer once it has heard the frame
pub record Worked (table : List ℕ) (n : ℕ) (j : List Record) (o : Observer) (w : Work) : Type 0 where
  pub counted : w.state.logged ≡ n + length w.logged
  pub kept : Invariant table w.state (replaced j n w.logged) (note_answers o w.sent)
  pub requested : (m : Move) → Memᴰ (Fe m) w.sent → Requested w.state.logged (replaced j n w.logged) m

-- a message whose record gives no authority is no FE
pub not_fe : (a : Message) → NoFe a → (m : Move) → Fe m ≡ a → ⊥
not_fe a plain m e =
    clash (is_fe_of m.train.0 (record_of a))
    (ap (λ (b : Message). is_fe_of m.train.0 (record_of b)) (sym e) ∙ own_authority m) (plain m.train.0)

module _ (table : List ℕ) (n : ℕ) (j : List Record) (o : Observer) (long : journal_length ≤ length j) where
  -- ---- one message more, logged by r

  worked_more : (w : Work) → Worked table n j o w → (s : State) (r : Record) (a : Message)
      → s.logged ≡ w.state.logged → w.state.logged < journal_length
      → (let after = set (replaced j n w.logged) w.state.logged r in
      Invariant table (one_logged s) after (note_answer (note_answers o w.sent) a)
      → ((m : Move) → Fe m ≡ a → Requested (s.logged + 1) after m)
      → Worked table n j o (sends s w r a))
  worked_more w k s r a same space inv own =
      let size = length-append w.logged (r ∷ []) in
      let before = replaced j n w.logged in
      let written : replaced j n (w.logged ++ r ∷ []) ≡ set before w.state.logged r =
      replaced_more j n w.logged r (omega (arith, k.counted)) ∙ rw k.counted in
      record {
        counted = omega (arith, k.counted);
        kept = rw (written, heard_more o w.sent a) inv;
        requested = rw written (λ m h. ⊎_elim
            (λ q. rw same (requested_later (later_set w.state.logged before r) (k.requested m q)))
            (λ q. own m (Memᴰ.eq_of_singleton q))
            (Memᴰ.append_cases w.sent h));
      }

  -- ---- grants

  pub granted_worked : (w : Work) (t : ℕ) → Worked table n j o w × Room w → Turn table w t
      → Worked table n j o (granted w t) × Room (granted w t)
  granted_worked w t (k, room) f =
      let s = w.state in
      let less = granted_fewer table w t f in
      let space : s.logged < journal_length = omega arith in (
        worked_more w k (with_train s t (granting s t)) _ (Fe (next_move s t)) refl space
            (grant_kept table s _ _ k.kept t f.known space f.can)
            (λ m e.
            let same : m ≡ next_move s t = cc in
            rw same (grant_requested table s _ _ k.kept t f.known space f.can)),
        omega arith,
      )

  settled_worked : (w : Work) → Worked table n j o w × Room w
      → Worked table n j o (settled table w) × Room (settled table w)
  settled_worked w k = grants_keep table (λ v. Worked table n j o v × Room v) granted_worked w.state.trains w k

  -- ---- the frame, and the AFE

  pub begun_worked : (s : State) (r : Record) → s.logged ≡ n → n + most_logged ≤ journal_length
      → Invariant table (one_logged s) (set j n r) o → Worked table n j o (begun s r) × Room (begun s r)
  unfolding note_answers
  begun_worked s r same space inv =
      let few = count_le s.trains (λ t. is_asked (train_of s t).status) in (
        record {
          counted = omega arith;
          kept = rw (replaced_one j n r (omega arith)) inv;
          requested = λ m h. absurd (Memᴰ.not-nil h);
        },
        omega (arith, inv.valid_state.line.few_trains),
      )

  declined_worked : (m : Move) (w : Work) → m.train.0 < w.state.trains → Worked table n j o w × Room w
      → Worked table n j o (declined m w)
  unfolding record_of
  declined_worked m w known (k, room) = by_cases (is_asked (train_of w.state m.train.0).status)
      (λ e. rw e (
      let one = count_some w.state.trains (λ t. is_asked (train_of w.state t).status) m.train.0 known e in
      let space : w.state.logged < journal_length = omega arith in
      worked_more w k w.state _ (Afe m) refl space
      (logged_kept table w.state _ _ k.kept (Afe m) (λ u. refl) space)
      (λ q z. absurd (not_fe (Afe m) (λ u. refl) q z))))
      (λ e. rw e k)

  -- ---- a section that is lent

  lent_worked : (s : State) (m : Move) → s.logged ≡ n → n + most_logged ≤ journal_length → Invariant table s j o
      → Section s m → holders_of s m.from.0 ≡ 0 → s.given < most_given
      → let w = begun s (record_of (La m)) in
      Worked table n j o
      (sends (with_possession w.state m.from.0 true (s.given + 1)) w (record_of (Le m)) (Le m))
  unfolding record_of note_answers
  lent_worked s m same space inv q free few =
      let w = begun s (record_of (La m)) in
      let asked : Invariant table (one_logged s) (set j n (record_of (La m))) o =
      rw (← same) (logged_kept table s j o inv (La m) (λ u. refl) (omega arith)) in
      let k = (begun_worked s (record_of (La m)) same space asked).0 in
      worked_more w k (with_possession w.state m.from.0 true (s.given + 1)) (record_of (Le m)) (Le m) refl
      (omega arith)
      (lent_kept table w.state _ o k.kept m q.on (omega arith) free few)
      (λ r z. absurd (not_fe (Le m) (λ u. refl) r z))

pub accepted_worked : (table : List ℕ) (s : State) (j : List Record) (o : Observer) → Invariant table s j o
    → RoomLeft s → (a : Message) → Taken s a
    → Worked table s.logged j (note_frame o a) (anew table s a)
unfolding anew
accepted_worked table s j o inv room a (request m q free) =
    let w = taken s (Fa m) (with_status (train_of s m.train.0) (Asked s.logged)) in
    let k = settled_worked table s.logged j (note_frame o (Fa m)) inv.room w
    (begun_worked table s.logged j (note_frame o (Fa m)) inv.room _ _ refl room
    (request_kept table s j o inv m q room (free_idle (train_of s m.train.0).status free))) in
    let known : m.train.0 < (settled table w).state.trains =
    rw (ap (λ (l : Line). l.trains) (settled_settles table w).line) q.known in
    declined_worked table s.logged j (note_frame o (Fa m)) inv.room m (settled table w) known k
accepted_worked table s j o inv room a (arrival m q runs) =
    (settled_worked table s.logged j (note_frame o (Am m)) inv.room _
    (begun_worked table s.logged j (note_frame o (Am m)) inv.room _ _ refl room
    (arrival_kept table s j o inv m q room runs))).0
accepted_worked table s j o inv room a (lending m q free few) =
    lent_worked table s.logged j o inv.room s m refl room inv q free few
accepted_worked table s j o inv room a (return m q held) =
    (settled_worked table s.logged j (note_frame o (Lb m)) inv.room _
    (begun_worked table s.logged j (note_frame o (Lb m)) inv.room _ _ refl room
    (return_kept table s j o inv m q.on (omega (arith, room)) held))).0
