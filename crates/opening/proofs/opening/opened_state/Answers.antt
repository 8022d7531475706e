-- `opening::opened_state` meets its contract. The loop's invariant: the trains passed stand at their starts,
-- on their tracks.
use mathlib.Core.Path.{◌≡◌, ap, ◌∙◌}
use mathlib.Core.List.{List}
use Prim.Native.Nat.{ℕ}
use native.Mathlib.Omega.{arith}
use lib.ListN.{get_or}
use Rattle.common.proofs.Tabulate.{at_tabulate, padded_none, padded_more}
use Rattle.rules.specs.State.{no_train}
use Rattle.rules.specs.Opening.{opened_track}
use Rattle.rules.proofs.OpeningCases.{opened_fleet}
use Rattle.opening.proofs.opening.opened_state.Goals as goal

pub loop-t-init : goal.loop-t-init
loop-t-init c = rw c.no_train-fleet.ensures (padded_none 6 _ no_train)

pub loop-t-preserved : goal.loop-t-preserved
loop-t-preserved c =
    let t = c.loop-t.t in
    let track : get_or c.start_tracks-starts.result t 0 ≡ opened_track c.args.line t =
    ap (λ (ks : List ℕ). get_or ks t 0) c.start_tracks-starts.ensures ∙ at_tabulate 6 _ t 0 (omega arith) in
    rw (c.loop-t.invariant, c.fresh.ensures, track) (padded_more 6 _ no_train t (omega arith))

pub returns : goal.returns
returns c =
    let all : c.loop-t.t ≡ 6 = omega arith in
    rw ((rw all at c.loop-t.invariant) ∙ opened_fleet c.args.line)
