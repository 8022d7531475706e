-- `put_time` meets its contract: the eight bytes are the whole buffer.
use Rattle.placing.proofs.Copying.{is_put}
use Rattle.encoding.specs.TimeBytes.{time_bytes}
use borrow.Author.Rules.{rules}
use Rattle.codec.proofs.time_bytes.put_time.Goals as goal

pub returns : goal.returns
unfolding time_bytes
returns c =
    is_put _ _ _ _ (search rules) c.seconds_and_rest-bytes.ensures
    c.put.ensures.to_after
