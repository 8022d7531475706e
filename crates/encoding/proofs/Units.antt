-- Laws of the bytes of a unit: which bytes encode one, and how many they are.
use mathlib.Core.Path.{◌≡◌, refl}
use mathlib.Core.Logic.{◌≢◌}
use mathlib.Core.Bool.{true, false}
use mathlib.Core.List.{List}
use Prim.Native.Nat.{ℕ}
use lib.Dec.{eqb, leb}
use lib.ListN.{length}
use borrow.Author.Tests.{eq-eqb, ne_eqb, eqb-true}
use Rattle.common.proofs.Tests.{and_left}
use Rattle.line.specs.Book.{byte_at}
use Rattle.encoding.specs.Types.{Unit}
use Rattle.encoding.specs.UnitBytes.{unit_length, unit_bytes, encodes_unit}

module _ (b : List ℕ) where
  pub other_length : length b ≢ unit_length → false ≡ encodes_unit b
  unfolding encodes_unit
  other_length h = rw (ne_eqb (length b) unit_length h)

  pub by_phase : length b ≡ unit_length → leb (byte_at b 4) 5 ≡ encodes_unit b
  unfolding encodes_unit
  by_phase h = rw (eq-eqb (length b) unit_length h)

  pub encoded_length : encodes_unit b ≡ true → length b ≡ unit_length
  unfolding encodes_unit
  encoded_length h = eqb-true (length b) unit_length (and_left (eqb (length b) unit_length) (leb (byte_at b 4) 5) h)

pub five_bytes : (u : Unit) → length (unit_bytes u) ≡ unit_length
unfolding unit_bytes
five_bytes u = refl
