use Rattle.std.proofs.Common.{◌-◌, length}
use Rattle.inspect.proofs.show_all.Given as goal

abbrev pub decreases-loop-start : goal.decreases-loop-start
decreases-loop-start l = length l.bytes - l.start
