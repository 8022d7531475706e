-- `send` meets its contract. The loop's invariant: the frames of the answers passed are in their places, and the rest
-- of the buffer is as it was.
use Prim.Native.Nat.{◌≤◌}
use lib.ListN.{length}
use Rattle.dispatcher.proofs.Sent.{Written}
use Rattle.dispatcher.proofs.sending.send.Given as goal

abbrev pub invariant-loop-sent : goal.invariant-loop-sent
invariant-loop-sent l = (l.sent ≤ length l.answers) × Written l.initial.out l.answers l.out l.sent
