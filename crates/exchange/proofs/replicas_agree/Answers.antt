use Rattle.exchange.proofs.replicas_agree.Goals as goal
use Rattle.exchange.proofs.Agree.{replicas_agree}

pub returns : goal.returns
returns c = replicas_agree
