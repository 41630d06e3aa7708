use Rattle.std.proofs.Common.{length, vec_items}
use Rattle.listing.proofs.Streaming.{Going}
use Rattle.listing.proofs.stream.take_blocks.Given as goal

abbrev pub invariant-loop-rest : goal.invariant-loop-rest
invariant-loop-rest g l = Going l.initial.replica l.bytes (vec_items l.initial.lines) l.replica l.rest (vec_items l.lines)

abbrev pub decreases-loop-rest : goal.decreases-loop-rest
decreases-loop-rest g l = length l.rest
