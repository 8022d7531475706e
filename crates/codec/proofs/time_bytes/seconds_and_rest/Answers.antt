-- `seconds_and_rest` meets its contract: the four bytes of each number, one after the other.
use Rattle.encoding.specs.TimeBytes.{time_bytes}
use Rattle.codec.proofs.time_bytes.seconds_and_rest.Goals as goal

pub returns : goal.returns
unfolding time_bytes
returns c = rw (c.long_word_bytes-s.ensures, c.long_word_bytes-r.ensures)
