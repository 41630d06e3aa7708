use Rattle.std.proofs.Common.{◌≡◌, min, take, sum_by}
use Rattle.ordered.proofs.sums.total.Given as goal

abbrev pub invariant-loop-x : goal.invariant-loop-x
invariant-loop-x g l = l.sum ≡ min (sum_by (λ x. g.R.Amounts.amount x l.by) (take l.x-index l.records)) 18446744073709551615
