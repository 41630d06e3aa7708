use Rattle.std.proofs.Common.{◌≡◌, eqb, length, count_by, rules, ◌∙◌}
use Rattle.terms.specs.Asked.{cancelled}
use Rattle.judging_room.proofs.Asked.{one_each, cancelled_once}
use Rattle.judging_room.proofs.cancellations.Goals as goal

pub returns : goal.returns
returns c =
    let n : c.count.result ≡ count_by (λ t. eqb (length (cancelled t)) 1) c.args.transactions.now = search rules in
    n ∙ one_each cancelled c.args.transactions.now cancelled_once
