use Rattle.std.proofs.Common.{ap, ◌∙◌}
use Rattle.clearing_store.specs.Changes.{moved_to}
use Rattle.clearing_store.proofs.Changing.{nothing_applied, one_applied}
use Rattle.clearing_store.proofs.apply.Goals as goal

pub returns-then-net : goal.returns-then-net
returns-then-net g c = nothing_applied c.args.net _ c.if-net.true

pub returns : goal.returns
returns g c =
    one_applied c.args.net _ _ c.in-Some.value c.if-net.false
    (c.in-Some.ensures ∙ ap (λ h. moved_to h c.args.net.plus c.args.net.minus) c.balance-had.ensures)
    c.set_balance.result c.set_balance.ensures.answer c.set_balance.ensures.after
