use Rattle.std.proofs.Common.{◌-◌, ◌^◌, arith}
use Rattle.sha256.proofs.Choice.{chosen}
use Rattle.sha256.proofs.compress.choose.Goals as goal

pub returns : goal.returns
returns c = chosen 32 c.args.x (2 ^ 32 - 1 - c.args.x) c.args.y c.args.z (omega arith) (omega arith)
