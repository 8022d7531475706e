-- `quangevit_running_time` meets its contract: there is no room for a time, or the question is refused, or its time is
-- written.
use native.Mathlib.Omega.{arith}
use Rattle.calls.proofs.PlanningSteps.{not_timed, timed}
use Rattle.quangevit.proofs.planning.quangevit_running_time.Goals as goal

pub returns-in-Ok : goal.returns-in-Ok
returns-in-Ok c =
    timed _ _ _ _ _ (omega arith) c.running_time.result c.running_time.ensures _ c.in-Ok.is _ c.put_time.ensures _
    c.word_of-in-Ok.ensures

pub returns-in-Err : goal.returns-in-Err
returns-in-Err c =
    not_timed _ _ _ _ _ (omega arith) c.running_time.result c.running_time.ensures _ c.in-Err.is _
    c.word_of-in-Err.ensures
