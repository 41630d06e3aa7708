use Rattle.exchange.proofs.payouts_covered.Goals as goal
use Rattle.exchange.proofs.Conserve.{payouts_covered}

pub returns : goal.returns
returns c = payouts_covered
