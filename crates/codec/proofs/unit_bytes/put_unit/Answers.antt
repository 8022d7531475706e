-- `put_unit` meets its contract: the five bytes are the whole buffer.
use Rattle.placing.proofs.Copying.{is_put}
use Rattle.encoding.specs.UnitBytes.{unit_bytes}
use borrow.Author.Rules.{rules}
use Rattle.codec.proofs.unit_bytes.put_unit.Goals as goal

pub returns : goal.returns
unfolding unit_bytes
returns c =
    is_put _ _ _ _ (search rules) c.bytes_of.ensures
    c.put.ensures.to_after
