use Rattle.std.proofs.Common.{◌≡◌, length}
use Rattle.hash.proofs.main.Given as goal

abbrev pub invariant-loop : goal.invariant-loop
invariant-loop l = length l.buffer ≡ 65536
