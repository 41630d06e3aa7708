use Rattle.std.proofs.Common.{◌∙◌, arith}
use Rattle.std.proofs.lemmas.Bool.Decides.{nat_tests}
use Rattle.terms.specs.Order.{words}
use Rattle.exchange.specs.Trade.{cancelled}
use Rattle.judging_rules.proofs.Tells.{told_any}
use Rattle.judging_repeats.proofs.Counted.{times}
use Rattle.judging_repeats.proofs.cancelled_once.Goals as goal

pub returns-clause-row : goal.returns-clause-row
returns-clause-row c =
    let ts = c.args.transactions.now in
    let t = c.in_ok-nets.ensures.1 in
    λ _.
    told_any _ _ _ ts 17 c.report.result
    (λ k e. let o = t.plus (words k) ∙ times words cancelled ts (words k) in grind (arith, nat_tests))
    (λ k e. let o = t.plus (words k) ∙ times words cancelled ts (words k) in grind (arith, nat_tests))
    (c.report.ensures t.rising)
