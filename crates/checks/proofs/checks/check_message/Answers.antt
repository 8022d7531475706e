-- `check_message` meets its contract: each arm has the checks of its message.
use Rattle.rules.proofs.Validity.{valid_facts}
use Rattle.checks.proofs.checks.check_message.Goals as goal

pub check_request-requires : goal.check_request-requires
check_request-requires c = (valid_facts _ c.requires).line.few_trains

pub check_arrival-requires : goal.check_arrival-requires
check_arrival-requires c = (valid_facts _ c.requires).line.few_trains

pub check_return-requires : goal.check_return-requires
check_return-requires c = (valid_facts _ c.requires).line.few_posts
