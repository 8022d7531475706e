-- `possessions_in` meets its contract: a gang has each section whose byte is 1.
use Prim.Native.Nat.{◌+◌}
use lib.Dec.{eqb}
use borrow.Author.Rules.{rules}
use Rattle.line.specs.Book.{byte_at}
use Rattle.encoding.specs.StateBytes.{possessions_at}
use Rattle.decoding.proofs.Lists.{made}
use Rattle.decoding.proofs.state_bytes.possessions_in.Goals as goal

pub returns : goal.returns
returns c =
    made _ (λ i. eqb (byte_at c.args.bytes.now (possessions_at + i)) 1) _ (λ i y q k. search rules) _ 7
    c.from_fn.ensures.items
