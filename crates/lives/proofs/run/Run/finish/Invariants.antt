use Rattle.std.proofs.Common.{vec_len}
use Rattle.lives.proofs.run.Run.finish.Given as goal

abbrev pub decreases-loop-slot : goal.decreases-loop-slot
decreases-loop-slot g l = vec_len l.held
