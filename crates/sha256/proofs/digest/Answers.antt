use Rattle.std.proofs.Common.{[], arith}
use Rattle.sha256.proofs.digest.Goals as goal

pub returns : goal.returns
returns c =
    let bytes = c.args.bytes.now in
    (omega arith, c.finish.ensures.digest bytes (c.update.ensures [] c.new-hasher.ensures))
