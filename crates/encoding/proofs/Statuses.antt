-- Laws of which bytes encode a state.
use mathlib.Core.Path.{◌≡◌}
use mathlib.Core.Logic.{◌≢◌}
use mathlib.Core.Bool.{true, false, ◌&&◌}
use mathlib.Core.List.{List}
use Prim.Native.Nat.{ℕ}
use lib.Dec.{eqb}
use lib.ListN.{length}
use borrow.Author.Tests.{eq-eqb, ne_eqb, eqb-true}
use Rattle.common.proofs.Tests.{and_left, and_right}
use Rattle.encoding.specs.StateBytes.{state_length, encodes_trains, encodes_possessions, encodes_state}

module _ (b : List ℕ) where
  pub other_length : length b ≢ state_length → false ≡ encodes_state b
  unfolding encodes_state
  other_length h = rw (ne_eqb (length b) state_length h)

  module _ (size : length b ≡ state_length) where
    pub other_trains : encodes_trains b ≡ false → false ≡ encodes_state b
    unfolding encodes_state
    other_trains h = rw (eq-eqb (length b) state_length size, h)

    pub by_possessions : encodes_trains b ≡ true → encodes_possessions b ≡ encodes_state b
    unfolding encodes_state
    by_possessions h = rw (eq-eqb (length b) state_length size, h)

  module _ (h : encodes_state b ≡ true) where
    sized : eqb (length b) state_length && encodes_trains b ≡ true
    unfolding encodes_state
    sized = and_left (eqb (length b) state_length && encodes_trains b) (encodes_possessions b) h

    pub encoded_length : length b ≡ state_length
    encoded_length = eqb-true (length b) state_length (and_left (eqb (length b) state_length) (encodes_trains b) sized)

    pub encoded_trains : encodes_trains b ≡ true
    encoded_trains = and_right (eqb (length b) state_length) (encodes_trains b) sized

    pub encoded_possessions : encodes_possessions b ≡ true
    unfolding encodes_state
    encoded_possessions = and_right (eqb (length b) state_length && encodes_trains b) (encodes_possessions b) h
