use Rattle.std.proofs.Common.{min, sum_by, ap, ◌∙◌, arith}
use Rattle.std.proofs.lemmas.List.{take_all}
use Rattle.std.proofs.lemmas.List.Sums.{sum_by_more}
use Rattle.ordered.proofs.sums.total.Goals as goal

pub loop-x-preserved : goal.loop-x-preserved
loop-x-preserved g c =
    let step = sum_by_more (λ x. g.R.Amounts.amount x c.args.by) c.args.records.now c.loop-x.x-index c.x-item.result (omega arith) in
    let item = ap (λ x. g.R.Amounts.amount x c.args.by) c.x-item.is in
    omega (arith, step, item, c.amount.ensures, c.saturating_add-sum.ensures, c.loop-x.invariant)

pub returns : goal.returns
returns g c =
    c.loop-x.invariant ∙ ap (λ l. min (sum_by (λ x. g.R.Amounts.amount x c.args.by) l) 18446744073709551615) (take_all c.loop-x.x-index c.args.records.now (omega arith))
