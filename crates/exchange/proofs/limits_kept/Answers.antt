use Rattle.exchange.proofs.limits_kept.Goals as goal
use Rattle.exchange.proofs.Conserve.{limits_kept}

pub returns : goal.returns
returns c = limits_kept
