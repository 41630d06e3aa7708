use Rattle.std.proofs.Common.{◌-◌, ◌≤◌, List, length}
use Rattle.commands.specs.Format.{Cmd}
use Rattle.blocks.proofs.Walking.{Gathered}
use Rattle.blocks.proofs.walk.read_founding.Given as goal

abbrev pub invariant-loop-reading : goal.invariant-loop-reading
invariant-loop-reading l = (length l.bytes ≤ 40000) × (cs : List Cmd) × Gathered l.bytes cs l.at l.grants.items

abbrev pub decreases-loop-reading : goal.decreases-loop-reading
decreases-loop-reading l = length l.bytes - l.at
