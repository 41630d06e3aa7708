use Rattle.exchange.proofs.worked_cases.Goals as goal
use Rattle.exchange.proofs.Written.{cases_hold}

pub returns : goal.returns
returns c = cases_hold
