use Rattle.std.proofs.Common.{◌-◌, ◌≤◌, List, length}
use Rattle.commands.specs.Format.{Cmd}
use Rattle.blocks.proofs.Walking.{Walked}
use Rattle.blocks.proofs.walk.read_block.Given as goal

abbrev pub invariant-loop-reading : goal.invariant-loop-reading
invariant-loop-reading l = (length l.bytes ≤ 40000) × (cs : List Cmd) × Walked l.bytes cs l.at l.stage l.draft

abbrev pub decreases-loop-reading : goal.decreases-loop-reading
decreases-loop-reading l = length l.bytes - l.at
