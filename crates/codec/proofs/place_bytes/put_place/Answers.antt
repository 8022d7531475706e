-- `put_place` meets its contract: the three bytes are the whole buffer.
use mathlib.Core.Path.{sym, ◌∙◌}
use Rattle.placing.proofs.Copying.{is_put}
use Rattle.encoding.proofs.RoundTrip.{round_trip}
use Rattle.codec.proofs.place_bytes.put_place.Goals as goal

pub returns : goal.returns
returns c =
    is_put _ _ _ _ (c.requires ∙ sym (round_trip.place_length_lem c.args.place))
    c.sort_and_numbers-bytes.ensures
    c.put.ensures.to_after
