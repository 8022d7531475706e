-- Each turn takes some bytes more, and then the input ends.
use Rattle.console.specs.Console.{desk_of}
use Rattle.descriptor.specs.Reading.{TakesOf}
use Rattle.descriptor.proofs.Parts.{takes_none, takes_read, takes_more, then_ends}
use Rattle.descriptor.proofs.reading.read_all.Goals as goal
use Rattle.descriptor.proofs.reading.read_all.Goals.{else-loop-test, then-loop-test+then-n-eq0}

pub loop-init : goal.loop-init
loop-init g c = takes_none _ _

pub loop-preserved : goal.loop-preserved
loop-preserved g c =
    takes_more _ _ _ _ _ _ c.loop.invariant
    (takes_read _ _ _ _ _ _ _ c.read.ensures.bytes c.unwrap_or-n.ensures c.take-console.ensures)

pub returns : goal.returns
returns g c =
    let took : TakesOf (g.R.Read.remaining c.args.input.now) (g.R.Read.remaining c.loop-test.input)
    (desk_of c.fresh-console.result c.args.table.now) (desk_of c.loop-test.console c.loop-test.table) =
    elim c.loop-test.branch [
      | else-loop-test w ↦ rw (w.input-is, w.table-is, w.console-is) c.loop.invariant
      | then-loop-test+then-n-eq0 w ↦
          rw (w.input-is, w.table-is, w.console-is)
          (takes_more _ _ _ _ _ _ c.loop.invariant
          (takes_read _ _ _ _ _ _ _ w.read.ensures.bytes w.unwrap_or-n.ensures w.take-console.ensures))
    ] in
    let all = then_ends _ _ _ _ _ _ c.fresh-console.ensures took c.finish.ensures in
    record { ends = all.whole; given = all }
