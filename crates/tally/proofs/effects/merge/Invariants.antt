use Rattle.std.proofs.Common.{◌≤◌, take, length}
use Rattle.std.specs.List.{AllByRecursion}
use Rattle.tally.specs.Tally.{Tallied, Ahead}
use Rattle.tally.proofs.effects.merge.Given as goal

abbrev pub invariant-loop-e : goal.invariant-loop-e
invariant-loop-e g l =
    (length l.nets.items ≤ l.e-index)
    × Tallied g.K.SortKey.rank (take l.e-index l.effects) l.nets.items
    × AllByRecursion (Ahead g.K.SortKey.rank l.effects l.e-index) l.nets.items
