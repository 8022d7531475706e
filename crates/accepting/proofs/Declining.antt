-- An accepted frame, as the code works on it: the frame's own change before the granting, and the asker's AFE after it.
use mathlib.Core.Path.{◌≡◌, sym, ap, ◌∙◌}
use mathlib.Core.Bool.{Bool, true, false}
use mathlib.Core.List.{List}
use Prim.Native.Nat.{ℕ, ◌+◌, ◌≤◌, ◌<◌}
use native.Mathlib.Omega.{arith}
use Rattle.frame.specs.Frame.{move_in}
use Rattle.journal.specs.Journal.{journal_length, record_of}
use Rattle.rules.specs.State.{is_asked, train_of, with_train, one_logged}
use Rattle.rules.specs.Valid.{consistent}
use Rattle.rules.specs.Granting.{Work, begun, sends, settled}
use Rattle.rules.specs.Answer.{most_logged, taken, declined}
use Rattle.rules.proofs.Validity.{consistent_facts}
use Rattle.rules.proofs.Settling.{settled_roomy}
use Rattle.authority.specs.Progress.{progress_of, progress_with}
use Rattle.authority.proofs.Working.{begun_roomy, sent_more}
use Rattle.accepting.specs.Types.{Move, Message, Afe, Record, Train, State, Progress}
use Rattle.accepting.specs.Acceptable.{Ready}

-- what the granting asks of the state c, of the same in other words
pub settle_ready : (b c : State) → b ≡ c → consistent (one_logged c) ≡ true → c.logged + most_logged ≤ journal_length
    → (consistent (one_logged b) ≡ true) × (b.logged + most_logged ≤ journal_length)
settle_ready b c e valid room = rw e (valid, room)

module _ (s : State) (a : Message) (x : Train) (r : Ready s a x) where
  pub ready_train : (move_in a).train.0 < 6
  ready_train = omega (arith, r.0, (consistent_facts (taken s a x).state r.2).line.few_trains)

  -- with other words for the new record of the train and for that of the frame, as the code has them
  pub ready_take : (y : Train) → y ≡ x → consistent (one_logged (with_train s (move_in a).train.0 y)) ≡ true
  ready_take y e = rw e r.2

  pub taken_with : (table : List ℕ) (y : Train) → y ≡ x → (entry : Record) → entry ≡ record_of a
      → progress_of (settled table (begun (with_train s (move_in a).train.0 y) entry))
      ≡ progress_of (settled table (taken s a x))
  taken_with table y e entry is = rw (e, is)

  pub ready_logged : (table : List ℕ) → (settled table (taken s a x)).state.logged ≤ journal_length
  ready_logged table =
      let start = begun_roomy (with_train s (move_in a).train.0 x) (record_of a) r.2 r.1 in
      omega (arith, (settled_roomy table (taken s a x) start).room)

-- the code holds the work w
module _ (w : Work) (p : Progress) (held : p ≡ progress_of w) where
  -- one message more is sent, and logged by r
  pub sends_held : (r : Record) (a : Message)
      → progress_with p.state p.batch r ≡ progress_of (sends w.state w r a)
  sends_held r a =
      ap (λ (q : Progress). progress_with q.state q.batch r) held ∙ sent_more w.state w r a

  module _ (m : Move) where
    abbrev asks : State → Bool
    asks s = is_asked (train_of s m.train.0).status

    same : asks w.state ≡ asks p.state
    same = ap (λ (q : Progress). asks q.state) (sym held)

    pub declined_asker : asks p.state ≡ true
        → progress_with p.state p.batch (record_of (Afe m)) ≡ progress_of (declined m w)
    declined_asker e = sends_held (record_of (Afe m)) (Afe m) ∙ rw (same ∙ e)

    pub granted_asker : asks p.state ≡ false → p ≡ progress_of (declined m w)
    granted_asker e = held ∙ rw (same ∙ e)
