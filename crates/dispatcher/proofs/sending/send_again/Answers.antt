-- `send_again` meets its contract: the one frame is written at the beginning.
use mathlib.Core.Path.{ap}
use Rattle.dispatcher.specs.Step.{messages_of}
use Rattle.dispatcher.proofs.Sent.{sent_one}
use Rattle.dispatcher.proofs.sending.send_again.Goals as goal

pub returns-in-Told : goal.returns-in-Told
returns-in-Told c = sent_one _ _ _ (ap messages_of c.in-Told.is) _ _ c.send_first.ensures
