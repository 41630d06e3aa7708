use Rattle.std.proofs.Common.{[], ◌∷◌, ◌∙◌, arith}
use Rattle.std.proofs.lemmas.Bool.Decides.{nat_tests}
use Rattle.exchange.specs.Trade.{created}
use Rattle.judging_rules.specs.Rows.{bundle}
use Rattle.judging_rules.proofs.Tells.{told_any}
use Rattle.judging_repeats.proofs.Counted.{times, times_created}
use Rattle.judging_repeats.proofs.openings_good.Goals as goal

pub returns-clause-row : goal.returns-clause-row
returns-clause-row g c =
    let ts = c.args.transactions.now in
    let t = c.in_ok-nets.ensures.1 in
    λ _.
    told_any _ _ _ ts 15 c.report.result
    (λ k e. let o = t.plus (k ∷ []) ∙ times (λ m. m ∷ []) created ts (k ∷ []) ∙ times_created (bundle ts) k in grind (arith, nat_tests))
    (λ k e. let o = t.plus (k ∷ []) ∙ times (λ m. m ∷ []) created ts (k ∷ []) ∙ times_created (bundle ts) k in grind (arith, nat_tests))
    (c.report.ensures t.rising)
