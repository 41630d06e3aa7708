use Rattle.std.proofs.Common.{◌*◌, ap, arith}
use Rattle.judging_prices.proofs.Worths.{small}
use Rattle.judging_prices.proofs.worth.Goals as goal

pub returns : goal.returns
returns c = record { is = ap (λ n. c.args.v.amount * n) c.price.ensures; small = small c.args.v.amount c.price.result (omega arith) (omega arith) }
