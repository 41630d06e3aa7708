use Rattle.std.proofs.Common.{arith}
use Rattle.std.proofs.lemmas.Bool.Decides.{nat_tests}
use Rattle.judging_prices.proofs.Worths.{told_assets}
use Rattle.judging_prices.proofs.prices_clear.Goals as goal

pub returns : goal.returns
returns c = record {
  row = λ few. told_assets _ _ 10 c.report.result (λ x e. grind (arith, nat_tests)) (λ x e. grind (arith, nat_tests)) (c.report.ensures tt);
  many = λ h. absurd (omega arith);
}
