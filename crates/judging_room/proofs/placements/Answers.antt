use Rattle.std.proofs.Common.{◌≡◌, eqb, length, count_by, rules, ◌∙◌}
use Rattle.terms.specs.Asked.{placed}
use Rattle.judging_room.proofs.Asked.{one_each, placed_once}
use Rattle.judging_room.proofs.placements.Goals as goal

pub returns : goal.returns
returns c =
    let n : c.count.result ≡ count_by (λ t. eqb (length (placed t)) 1) c.args.transactions.now = search rules in
    n ∙ one_each placed c.args.transactions.now placed_once
