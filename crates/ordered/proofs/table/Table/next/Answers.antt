use Rattle.std.proofs.Common.{◌≡◌, ℕ, ◌<◌, ◌≤◌, List, length, get_or, sym, ap, ◌∙◌, subst, rules}
use Rattle.terms.specs.Order.{Rising, above}
use Rattle.ordered.specs.Places.{told}
use Rattle.ordered.proofs.Rising.{above_at, past_all}
use Rattle.ordered.proofs.table.Table.next.Goals as goal

pub returns-in_err-x : goal.returns-in_err-x
returns-in_err-x g c =
    let rank : g.row.R.Denot → List ℕ = λ x. g.R.Id.SortKey.rank (g.R.Keyed.key x) in
    let k : List ℕ = g.R.Id.SortKey.rank c.args.key in
    let ge : length c.records-all.result.now ≤ c.upper_bound.result = search rules in
    subst (λ xs. Rising rank xs → told g.R.Id.SortKey.rank c.from_residual.result ≡ above rank xs k) c.records-all.ensures
    (λ up. ap (told g.R.Id.SortKey.rank) c.from_residual.ensures ∙ sym (past_all rank c.records-all.result.now k c.upper_bound.result (c.upper_bound.ensures up) ge))

pub returns : goal.returns
returns g c =
    let rank : g.row.R.Denot → List ℕ = λ x. g.R.Id.SortKey.rank (g.R.Keyed.key x) in
    let k : List ℕ = g.R.Id.SortKey.rank c.args.key in
    let lt : c.upper_bound.result < length c.records-all.result.now = search rules in
    let is : c.in_ok-x.x.now ≡ get_or c.records-all.result.now c.upper_bound.result c.in_ok-x.x.now = search rules in
    subst (λ xs. Rising rank xs → g.R.Id.SortKey.rank c.key.result ≡ above rank xs k) c.records-all.ensures
    (λ up.
    let p = c.upper_bound.ensures up in
    ap g.R.Id.SortKey.rank c.key.ensures ∙ ap rank is ∙ sym (above_at rank c.records-all.result.now k c.upper_bound.result c.in_ok-x.x.now lt p.low (p.next lt c.in_ok-x.x.now)))
