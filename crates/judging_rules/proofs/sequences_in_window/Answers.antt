use Rattle.std.proofs.Common.{arith}
use Rattle.std.proofs.lemmas.Bool.Decides.{nat_tests}
use Rattle.judging_rules.proofs.Tells.{told_plain}
use Rattle.judging_rules.proofs.sequences_in_window.Goals as goal

pub returns : goal.returns
returns g c = told_plain _ _ c.args.transactions.now 12 c.report.result (λ x e. grind (arith, nat_tests)) (λ x e. grind (arith, nat_tests)) (c.report.ensures tt)
