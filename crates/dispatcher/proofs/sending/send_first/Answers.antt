-- `send_first` meets its contract: the frame fits.
use mathlib.Core.Path.{refl}
use Rattle.dispatcher.proofs.Sent.{sent_first}
use Rattle.dispatcher.proofs.sending.send_first.Goals as goal

pub returns : goal.returns
returns c =
    (refl, sent_first _ _ c.requires _ c.write.ensures _ c.place.ensures.out_after)
