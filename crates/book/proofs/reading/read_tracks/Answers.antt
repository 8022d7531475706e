-- `read_tracks` meets its contract: the counts are copied over the first places.
use native.Mathlib.Omega.{arith}
use Rattle.book.proofs.Copied.{copied}
use Rattle.book.proofs.reading.read_tracks.Goals as goal

pub returns : goal.returns
returns c =
    let after = c.copy_from_slice.ensures.after in
    copied 8 c.args.posts c.args.book.now 4 _ _ after (omega arith) (omega arith) (omega arith)
