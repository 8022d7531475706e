-- `reached` meets its contract: from the last post down, none that is passed over has been reached, and post 0 is left
-- where no other is.
use mathlib.Core.Path.{◌≡◌}
use Prim.Native.Nat.{◌-◌, ◌≤◌}
use Rattle.place.specs.Locating.{last_reached}
use Rattle.locating.proofs.locating.reached.Given as goal

abbrev pub invariant-loop-p : goal.invariant-loop-p
invariant-loop-p l =
    (l.p ≤ l.posts) × (last_reached l.positions l.x (l.posts - 1) ≡ last_reached l.positions l.x (l.p - 1))
