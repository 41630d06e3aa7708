use Rattle.exchange.proofs.founding_order_free.Goals as goal
use Rattle.exchange.proofs.Alike.{founding_order_free}

pub returns : goal.returns
returns c = founding_order_free
