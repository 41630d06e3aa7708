use Rattle.std.proofs.Common.{◌*◌}
use Rattle.sha256.specs.Streaming.{Holds}
use Rattle.vectors.specs.Letters.{letters}
use Rattle.vectors.proofs.million.Given as goal

abbrev pub invariant-loop-i : goal.invariant-loop-i
invariant-loop-i l = Holds l.hasher (letters (999 * l._i))
