-- `holders_of` meets its contract. The loop's invariant: the sets have the holders among the trains passed.
use mathlib.Core.Path.{◌≡◌, sym, ◌∙◌}
use mathlib.Core.Bool.{false}
use Prim.Native.Nat.{◌*◌, ◌%◌, ◌^◌}
use native.Mathlib.Omega.{arith}
use Rattle.std.proofs.lemmas.Nat.{one_shl}
use Rattle.rules.specs.State.{is_running, train_of}
use Rattle.holding.specs.Types.{State, Train}
use Rattle.holding.specs.Holders.{PlacedAt}
use Rattle.holding.proofs.HolderSets.{sets_none, sets_standing, sets_stabled, sets_running}
use Rattle.holding.proofs.holding.holders_of.Goals as goal
use Rattle.holding.proofs.holding.holders_of.Goals.{then-is_running, else-is_running+then-not-stabled}
use Rattle.holding.proofs.holding.holders_of.Goals.{else-is_running+else-not-stabled}

pub loop-t-init : goal.loop-t-init
loop-t-init c = sets_none _

pub loop-t-preserved : goal.loop-t-preserved
loop-t-preserved c =
    let given : State = c.args.state in
    let own-bit : 1 * 2 ^ c.loop-t.t % 2 ^ 8 ≡ 2 ^ c.loop-t.t = one_shl c.loop-t.t 8 (omega (arith, c.requires.0)) in
    let train : Train = train_of given c.loop-t.t in
    let placed : PlacedAt train = c.requires.1 c.loop-t.t (omega arith) in
    elim c.if-is_running.branch [
      | then-is_running w ↦
          rw (w.posts-is, w.sections-is, w.tracks-is)
          (sets_running given c.loop-t.t _ own-bit c.loop-t.posts c.loop-t.sections
          c.loop-t.tracks c.loop-t.invariant placed
          (sym c.is_running.ensures ∙ w.if-is_running.true) _ _ _
          w.next_post-next.ensures w.section-i.ensures
          w.track_ahead.ensures _ _ w.with_track.ensures w.with_track-then-is_running.ensures)
      | else-is_running+then-not-stabled w ↦
          let idle : is_running train.status ≡ false = sym c.is_running.ensures ∙ w.if-is_running.false in
          rw (w.posts-is, w.sections-is, w.tracks-is)
          (sets_standing given c.loop-t.t _ own-bit c.loop-t.posts c.loop-t.sections
          c.loop-t.tracks c.loop-t.invariant placed idle
          (sym w.stabled.ensures ∙ w.if-not-stabled.true) _ w.with_track-then-not-stabled.ensures)
      | else-is_running+else-not-stabled w ↦
          let idle : is_running train.status ≡ false = sym c.is_running.ensures ∙ w.if-is_running.false in
          rw (w.posts-is, w.sections-is, w.tracks-is)
          (sets_stabled given c.loop-t.t _ own-bit c.loop-t.posts c.loop-t.sections
          c.loop-t.tracks c.loop-t.invariant placed idle
          (sym w.stabled.ensures ∙ w.if-not-stabled.false))
    ]
