use Rattle.std.proofs.Common.{arith}
use Rattle.std.proofs.lemmas.Bool.Decides.{nat_tests}
use Rattle.judging_rules.proofs.Tells.{told_any}
use Rattle.judging_rules.proofs.receivers_stand.Goals as goal

pub returns : goal.returns
returns g c = told_any _ _ _ c.args.transactions.now 14 c.report.result (λ x e. grind (arith, nat_tests)) (λ x e. grind (arith, nat_tests)) (c.report.ensures tt)
