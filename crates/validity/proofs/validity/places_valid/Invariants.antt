-- `places_valid` meets its contract. The loop's invariant: the posts passed, and the sections after them, have no more
-- holders than they may, each on a track of its own.
use Rattle.common.proofs.Below.{Passing}
use Rattle.validity.specs.Tests.{place_valid}
use Rattle.validity.proofs.validity.places_valid.Given as goal

abbrev pub invariant-loop-p : goal.invariant-loop-p
invariant-loop-p l = Passing l.state.posts (place_valid l.state) l.p
