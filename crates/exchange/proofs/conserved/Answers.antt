use Rattle.exchange.proofs.conserved.Goals as goal
use Rattle.exchange.proofs.Conserve.{life_conserves}

pub returns : goal.returns
returns c = life_conserves
