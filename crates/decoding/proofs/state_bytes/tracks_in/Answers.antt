-- `tracks_in` meets its contract: the count of each post is its byte.
use Prim.Native.Nat.{◌+◌}
use borrow.Author.Rules.{rules}
use Rattle.line.specs.Book.{byte_at}
use Rattle.encoding.specs.Parts.{tracks_byte}
use Rattle.decoding.proofs.Lists.{made}
use Rattle.decoding.proofs.state_bytes.tracks_in.Goals as goal

pub returns : goal.returns
returns c =
    made _ (λ p. byte_at c.args.bytes.now (tracks_byte + p)) _ (λ p y q k. search rules) _ 8 c.from_fn.ensures.items
