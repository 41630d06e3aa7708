use Rattle.exchange.proofs.order_free.Goals as goal
use Rattle.exchange.proofs.Alike.{order_free}

pub returns : goal.returns
returns c = order_free
