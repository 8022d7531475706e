-- The work on one frame as the code holds it: a batch where the definitions have a list of records. The frames that are
-- sent are those of the batch, so that the messages have no place of their own.
use Rattle.std.specs.Prelude.{List, [], ◌∷◌, ℕ}
use Rattle.journal.specs.Journal.{empty_batch, with_record}
use Rattle.rules.specs.State.{with_train, one_logged}
use Rattle.rules.specs.Granting.{Work, granting, grant_record}
use Rattle.authority.specs.Types.{Record, Batch, State, Progress}

-- some records, added to a batch one by one
unfoldable pub add_records : Batch → List Record → Batch
add_records b [] = b
add_records b (r ∷ l) = add_records (with_record b r) l

abbrev pub batch_of : List Record → Batch
batch_of l = add_records empty_batch l

abbrev pub progress_of : Work → Progress
progress_of w = record { state = w.state; batch = batch_of w.logged }

-- nothing is logged yet
abbrev pub unlogged : State → Progress
unlogged s = record { state = s; batch = empty_batch }

-- a record more is logged: by `begun` or `sends` of the work
abbrev pub progress_with : State → Batch → Record → Progress
progress_with s b r = record { state = one_logged s; batch = with_record b r }

-- train t becomes Running, on its way to the track that is free for it, and its FE is logged: `granted` of the work
abbrev pub progress_to : Progress → ℕ → Progress
progress_to p t =
    let s = p.state in
    progress_with (with_train s t (granting s t)) p.batch (grant_record s t)
