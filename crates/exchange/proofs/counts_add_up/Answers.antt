use Rattle.exchange.proofs.counts_add_up.Goals as goal
use Rattle.exchange.proofs.Counts.{counts_add_up}

pub returns : goal.returns
returns c = counts_add_up
