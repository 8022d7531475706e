-- The work on a frame as the code holds it: the state, and the batch of what was logged. The granting turn by turn.
use mathlib.Core.Path.{◌≡◌, refl, sym, ap, subst, ◌∙◌}
use mathlib.Core.Bool.{true}
use mathlib.Core.List.{List, [], ◌∷◌, ◌++◌}
use Prim.Native.Nat.{ℕ, ◌+◌, ◌≤◌, ◌<◌}
use native.Mathlib.Omega.{arith}
use Rattle.common.proofs.Below.{count_le}
use Rattle.journal.specs.Journal.{journal_length, record_on, empty_batch, with_record}
use Rattle.authority.specs.Types.{TrackNo, Message, Fe, Record, Batch, Running, State, Progress}
use Rattle.rules.specs.State.{is_asked, next_of, train_of, free_track, next_move, with_status, with_train, one_logged}
use Rattle.rules.specs.Valid.{consistent}
use Rattle.rules.specs.Granting.{Work, begun, sends, granted, settled}
use Rattle.rules.specs.Answer.{most_logged}
use Rattle.authority.specs.Progress.{add_records, batch_of, progress_of, progress_with, progress_to}
use Rattle.rules.proofs.Validity.{consistent_facts, is_consistent}
use Rattle.rules.proofs.Oldest.{Nobody, Oldest}
use Rattle.rules.proofs.Grants.{asked_count, granted_fewer, settled_stop, settled_next}
use Rattle.rules.proofs.Settling.{Roomy, roomy_next}

-- a record more
records_more : (b : Batch) (l : List Record) (r : Record)
    → with_record (add_records b l) r ≡ add_records b (l ++ r ∷ [])
unfolding add_records
records_more b [] r = refl
records_more b (c ∷ l) r = records_more (with_record b c) l r

pub sent_more : (s : State) (w : Work) (r : Record) (a : Message)
    → progress_with s (batch_of w.logged) r ≡ progress_of (sends s w r a)
sent_more s w r a = rw (records_more empty_batch w.logged r)

-- a grant, by the track that is free
pub granted_to : (p : Progress) (t : ℕ) (k : TrackNo) → k.0 ≡ free_track p.state t (next_of (train_of p.state t))
    → progress_with (with_train p.state t (with_status (train_of p.state t) (Running k))) p.batch
    (record_on k.0 (Fe (next_move p.state t))) ≡ progress_to p t
granted_to p t k e = ap (λ (n : ℕ).
    progress_with (with_train p.state t (with_status (train_of p.state t) (Running (record { 0 = n })))) p.batch
    (record_on n (Fe (next_move p.state t)))) e

-- ---- the granting that began with the work w, when the code holds p

pub record Working (table : List ℕ) (w : Work) (p : Progress) : Type 0 where
  pub work : Work
  pub held : p ≡ progress_of work
  pub roomy : Roomy work
  pub ends : settled table work ≡ settled table w

-- a frame is logged, and its own change made, which leaves a consistent state with room for the answers
pub begun_roomy : (s : State) (r : Record) → consistent (one_logged s) ≡ true → s.logged + most_logged ≤ journal_length
    → Roomy (begun s r)
begun_roomy s r v room =
    let d = consistent_facts (one_logged s) v in
    record {
      valid_state = d;
      room = omega (arith, count_le s.trains (λ t. is_asked (train_of s t).status), d.line.few_trains);
    }

pub working_start : (table : List ℕ) (s : State) (r : Record) (p : Progress) → consistent (one_logged s) ≡ true
    → s.logged + most_logged ≤ journal_length
    → p ≡ progress_with s empty_batch r → Working table (begun s r) p
unfolding add_records
working_start table s r p v room e = record { work = begun s r; held = e; roomy = begun_roomy s r v room; ends = refl }

module _ (table : List ℕ) (w : Work) (p : Progress) (g : Working table w p) where
  state : g.work.state ≡ p.state
  state = ap (λ (q : Progress). q.state) (sym g.held)

  pub working_valid : consistent p.state ≡ true
  working_valid =
      subst (λ (s : State). consistent s ≡ true) state (is_consistent g.work.state g.roomy.valid_state)

  pub working_room : p.state.logged ≤ journal_length
  working_room = rw (← state) (omega (arith, g.roomy.room))

  pub working_end : Nobody table p.state p.state.trains → p ≡ progress_of (settled table w)
  working_end h =
      let none : Nobody table g.work.state g.work.state.trains =
      subst (λ (s : State). Nobody table s s.trains) (sym state) h in
      g.held ∙ ap progress_of (sym (settled_stop table g.work none) ∙ g.ends)

  module _ (t : ℕ) (f : Oldest table p.state p.state.trains t) where
    turn : Oldest table g.work.state g.work.state.trains t
    turn = subst (λ (s : State). Oldest table s s.trains t) (sym state) f

    module _ (q : Progress) (e : q ≡ progress_to p t) where
      after : q ≡ progress_of (granted g.work t)
      after = e ∙ ap (λ (r : Progress). progress_to r t) g.held ∙ sent_more _ g.work _
          (Fe (next_move g.work.state t))

      pub working_next : Working table w q
      working_next = record {
        work = granted g.work t;
        held = after;
        roomy = roomy_next table g.work t g.roomy turn;
        ends = settled_next table g.work t g.roomy.valid_state turn ∙ g.ends;
      }

      pub working_less : asked_count q.state < asked_count p.state
      working_less = rw (after, g.held) (omega (arith, granted_fewer table g.work t turn))
