-- `put_ending` meets its contract. The loop's invariant: the sections passed are in their places, and all else is as it
-- was.
use Prim.Native.Nat.{◌+◌, ◌≤◌}
use Rattle.common.specs.Part.{replaced}
use Rattle.encoding.specs.StateBytes.{ending_bytes, possessions_at}
use Rattle.placing.proofs.Filled.{Filled}
use Rattle.storing.proofs.state_bytes.put_ending.Given as goal

abbrev pub invariant-loop-i : goal.invariant-loop-i
invariant-loop-i l =
    (l.i ≤ 7)
    × Filled l.initial.to (replaced l.initial.to possessions_at (ending_bytes l.state)) l.to (possessions_at + l.i)
