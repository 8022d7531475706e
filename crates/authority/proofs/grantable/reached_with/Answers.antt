-- `reached_with` meets its contract. The loop's invariant: the posts of the trains passed are stored.
use mathlib.Core.Path.{◌≡◌}
use Prim.Native.Nat.{◌≤◌, ◌<◌}
use native.Mathlib.Omega.{arith}
use Rattle.authority.proofs.GrantTest.{few_trains, few_reached, Stored}
use Rattle.authority.proofs.GrantTest.{stored_moved}
use Rattle.authority.proofs.grantable.reached_with.Goals as goal

pub overflow_add-travelled : goal.overflow_add-travelled
overflow_add-travelled c =
    let asker = c.args.t.0 in
    let all : c.loop-u.u ≡ c.args.state.trains = omega arith in
    let stored : Stored c.args.state c.args.state.trains c.loop-u.travelled = rw all at c.loop-u.invariant.1 in
    omega (arith, stored.each asker c.requires.1, few_reached c.args.state c.requires.0 asker c.requires.1)

pub returns : goal.returns
returns c =
    let few : c.args.state.trains ≤ 6 = few_trains _ c.requires.0 in
    let small : c.args.t.0 < 6 = omega (arith, few, c.requires.1) in
    let all : c.loop-u.u ≡ c.args.state.trains = omega arith in
    let stored : Stored c.args.state c.args.state.trains c.loop-u.travelled = rw all at c.loop-u.invariant.1 in
    stored_moved _ _ stored _ small c.requires.1
