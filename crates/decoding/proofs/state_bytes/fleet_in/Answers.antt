-- `fleet_in` meets its contract: each train is read from its bytes.
use borrow.Author.Rules.{rules}
use Rattle.encoding.specs.StateBytes.{train_at, train_in}
use Rattle.decoding.proofs.Lists.{made}
use Rattle.decoding.proofs.state_bytes.fleet_in.Goals as goal

pub returns : goal.returns
returns c =
    made _ (λ t. train_in c.args.bytes.now (train_at t)) _ (λ t y q k. search rules) _ 6 c.from_fn.ensures.items
