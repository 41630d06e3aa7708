use Rattle.std.proofs.Common.{◌≡◌, eqb, length, count_by, rules, ◌∙◌}
use Rattle.terms.specs.Asked.{created}
use Rattle.judging_room.proofs.Asked.{one_each, created_once}
use Rattle.judging_room.proofs.openings.Goals as goal

pub returns : goal.returns
returns c =
    let n : c.count.result ≡ count_by (λ t. eqb (length (created t)) 1) c.args.transactions.now = search rules in
    n ∙ one_each created c.args.transactions.now created_once
