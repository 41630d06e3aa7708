use Rattle.std.proofs.Common.{◌-◌, List, length}
use Rattle.commands.specs.Format.{Cmd}
use Rattle.commands.specs.Extent.{Stand, Unended}
use Rattle.commands.proofs.extent.length.Given as goal

abbrev pub invariant-loop-kind : goal.invariant-loop-kind
invariant-loop-kind l = (cs : List Cmd) × Stand l.bytes 0 cs l.at × Unended cs

abbrev pub decreases-loop-kind : goal.decreases-loop-kind
decreases-loop-kind l = length l.bytes - l.at
