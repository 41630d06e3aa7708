use Rattle.std.proofs.Common.{ℕ, List, subst}
use Rattle.terms.specs.Order.{Rising}
use Rattle.ordered.specs.Places.{Sought}
use Rattle.ordered.proofs.table.Table.search.Goals as goal

pub returns : goal.returns
returns g c =
    let rank : g.row.R.Denot → List ℕ = λ x. g.R.Id.SortKey.rank (g.R.Keyed.key x) in
    subst (λ xs. Rising rank xs → Sought rank xs (g.R.Id.SortKey.rank c.args.key) c.search.result) c.records.ensures c.search.ensures.found
