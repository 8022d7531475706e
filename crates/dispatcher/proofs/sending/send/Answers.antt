-- `send` meets its contract. The loop's invariant: the frames of the answers passed are in their places, and the rest
-- of the buffer is as it was.
use native.Mathlib.Omega.{arith}
use Rattle.dispatcher.proofs.Sent.{written_none, written_more}
use Rattle.dispatcher.proofs.sending.send.Goals as goal

pub loop-sent-init : goal.loop-sent-init
loop-sent-init c = (omega arith, written_none _ _ c.requires.1)

pub loop-sent-preserved : goal.loop-sent-preserved
loop-sent-preserved c = (
  omega arith,
  written_more _ _ _ _ c.requires.0 c.loop-sent.invariant.1 c.loop-sent-test.true _ c.frame_of.ensures _
      c.place.ensures.out_after,
)
