use Rattle.exchange.proofs.one_outcome.Goals as goal
use Rattle.exchange.proofs.Alike.{one_outcome_only}

pub returns : goal.returns
returns c = one_outcome_only
