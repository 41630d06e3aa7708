use Rattle.std.proofs.Common.{take}
use Rattle.tally.specs.Least.{LeastPlace}
use Rattle.tally.proofs.rules.least.Given as goal

abbrev pub invariant-loop-x : goal.invariant-loop-x
invariant-loop-x g l = g.R.Rule.ready l.rule → LeastPlace g.X.Placed.first g.X.Placed.second (g.R.Rule.broken l.rule) (take l.x-index l.xs) l.best
