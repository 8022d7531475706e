-- `opening::empty_state` meets its contract.
use Rattle.common.specs.Tabulate.{values_from}
use Rattle.rules.specs.Opening.{start_tracks}
use Rattle.opening.proofs.opening.empty_state.Goals as goal

pub returns : goal.returns
unfolding values_from start_tracks
returns c = rw c.no_train.ensures
