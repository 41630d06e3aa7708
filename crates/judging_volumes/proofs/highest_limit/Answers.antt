use Rattle.std.proofs.Common.{◌≡◌, ◌*◌, ◌/◌, leb, ◌∙◌, ap₂, arith}
use Rattle.std.proofs.lemmas.Bool.Decides.{nat_tests}
use Rattle.judging_volumes.proofs.Supply.{limits}
use Rattle.judging_volumes.proofs.highest_limit.Goals as goal

pub returns : goal.returns
returns c = λ l h.
    let all : leb l c.min.result ≡ leb l (c.price.result * 65536 / c.price-unit.result) = grind (arith, nat_tests) in
    all
    ∙ limits c.price.result c.price-unit.result l (omega arith)
    ∙ ap₂ (λ p q. leb (l * q) (p * 65536)) c.price.ensures c.price-unit.ensures
