use Rattle.std.proofs.Common.{◌+◌, ◌-◌, ap, ◌∙◌, arith}
use Rattle.commands.specs.Format.{balances}
use Rattle.commands.proofs.Fields.{balances_part}
use Rattle.commands.proofs.parser.found.Goals as goal

pub returns : goal.returns
returns c =
    let at = c.args.at in
    let e = ap (λ bs. balances bs 0) c.part.ensures ∙ balances_part c.args.bytes.now (at + 5) (at + 5 + 64 - (at + 5)) (omega arith) in
    λ i. Rattle.commands.specs.Format.found (record { account = c.word.ensures i; balances = e i })
