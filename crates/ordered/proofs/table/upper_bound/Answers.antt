use Rattle.std.proofs.Common.{◌≡◌, ◌<◌, ◌≤◌, true, false, length, get_or, rules}
use Rattle.terms.specs.Order.{lower}
use Rattle.ordered.proofs.Cuts.{past_here, past_step, past_end}
use Rattle.ordered.proofs.table.upper_bound.Goals as goal

pub returns-in-Some : goal.returns-in-Some
returns-in-Some g c =
    let below : c.lower_bound-i.result < length c.args.records.now = search rules in
    let is : c.in-Some.x.now ≡ get_or c.args.records.now c.lower_bound-i.result c.in-Some.x.now = search rules in
    let here : lower (g.R.Id.SortKey.rank c.args.key) (g.R.Id.SortKey.rank (g.R.Keyed.key c.in-Some.x.now)) ≡ false = search rules in
    λ up. past_step _ c.args.records.now _ up c.lower_bound-i.result c.in-Some.x.now (c.lower_bound-i.ensures.cut up) below is here

pub returns-in_default : goal.returns-in_default
returns-in_default g c =
    let below : c.lower_bound-i.result < length c.args.records.now = search rules in
    let is : c.in-Some.x.now ≡ get_or c.args.records.now c.lower_bound-i.result c.in-Some.x.now = search rules in
    let here : lower (g.R.Id.SortKey.rank c.args.key) (g.R.Id.SortKey.rank (g.R.Keyed.key c.in-Some.x.now)) ≡ true = search rules in
    λ up. past_here _ c.args.records.now _ up c.lower_bound-i.result c.in-Some.x.now (c.lower_bound-i.ensures.cut up) below is here

pub returns-in_default-2 : goal.returns-in_default-2
returns-in_default-2 g c =
    let ge : length c.args.records.now ≤ c.lower_bound-i.result = search rules in
    λ up. past_end _ c.args.records.now _ c.lower_bound-i.result (c.lower_bound-i.ensures.cut up) ge
