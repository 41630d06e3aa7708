use Rattle.std.proofs.Common.{◌-◌, ◌≤◌, length}
use Rattle.terms.specs.Order.{Rising}
use Rattle.ordered.proofs.Cuts.{Window}
use Rattle.ordered.proofs.table.lower_bound.Given as goal

abbrev pub invariant-loop-low : goal.invariant-loop-low
invariant-loop-low g l =
    (l.low ≤ l.high)
    × (l.high ≤ length l.records)
    × (Rising (λ x. g.R.Id.SortKey.rank (g.R.Keyed.key x)) l.records
    → Window (λ x. g.R.Id.SortKey.rank (g.R.Keyed.key x)) l.records (g.R.Id.SortKey.rank l.key) l.low l.high)

abbrev pub decreases-loop-low : goal.decreases-loop-low
decreases-loop-low g l = l.high - l.low
