use Rattle.std.proofs.Common.{◌≡◌, ◌<◌, true, false, length, get_or, rules}
use Rattle.terms.specs.Order.{lower}
use Rattle.ordered.proofs.Cuts.{gap_here, at_here}
use Rattle.ordered.proofs.table.search.Goals as goal

pub returns-in-Some-clause-found : goal.returns-in-Some-clause-found
returns-in-Some-clause-found g c =
    let below : c.lower_bound-i.result < length c.args.records.now = search rules in
    let is : c.in-Some.x.now ≡ get_or c.args.records.now c.lower_bound-i.result c.in-Some.x.now = search rules in
    let here : lower (g.R.Id.SortKey.rank c.args.key) (g.R.Id.SortKey.rank (g.R.Keyed.key c.in-Some.x.now)) ≡ false = search rules in
    λ up. at_here _ c.args.records.now _ up c.lower_bound-i.result c.in-Some.x.now (c.lower_bound-i.ensures.cut up) below is here

pub returns-in_default-clause-found : goal.returns-in_default-clause-found
returns-in_default-clause-found g c =
    let below : c.lower_bound-i.result < length c.args.records.now = search rules in
    let is : c.in-Some.x.now ≡ get_or c.args.records.now c.lower_bound-i.result c.in-Some.x.now = search rules in
    let here : lower (g.R.Id.SortKey.rank c.args.key) (g.R.Id.SortKey.rank (g.R.Keyed.key c.in-Some.x.now)) ≡ true = search rules in
    λ up. gap_here _ c.args.records.now _ up c.lower_bound-i.result c.in-Some.x.now (c.lower_bound-i.ensures.cut up) below is here
