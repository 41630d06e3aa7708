use Rattle.std.proofs.Common.{length, vec_items}
use Rattle.twins.specs.Paired.{Paired}
use Rattle.twins.proofs.streams.add_pieces.Given as goal

abbrev pub invariant-loop-one : goal.invariant-loop-one
invariant-loop-one g l =
    Paired (vec_items l.initial.twins.first) (vec_items l.initial.twins.second) → Paired (vec_items l.twins.first) (vec_items l.twins.second)

abbrev pub decreases-loop-one : goal.decreases-loop-one
decreases-loop-one g l = length l.one
