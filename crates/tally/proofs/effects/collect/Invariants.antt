use Rattle.std.proofs.Common.{◌≡◌, ◌*◌, ◌≤◌, take, length}
use Rattle.std.specs.List.{flat_map}
use Rattle.tally.proofs.effects.collect.Given as goal

abbrev pub invariant-loop-x : goal.invariant-loop-x
invariant-loop-x g l =
    (length l.effects.items ≤ 2 * l.x-index)
    × (l.effects.items ≡ flat_map (g.G.Gather.gives l.from) (take l.x-index l.xs))
