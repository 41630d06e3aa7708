use Rattle.std.proofs.Common.{◌≡◌, not, eqb, sym, subst}
use Rattle.terms.specs.Holdings.{standing}
use Rattle.exchange.specs.Trade.{pays}
use Rattle.judging_rules.specs.Rows.{any}
use Rattle.judging_rules.proofs.Tells.{stands_not}
use Rattle.judging_rules.proofs.ReceiverRuleTransaction.breaks.Goals as goal

pub returns-in-Pay : goal.returns-in-Pay
returns-in-Pay g c = λ _.
    let st = (g.S.AccountStore.store c.args.self.now.store.now) in
    subst (λ a. not c.stands.result ≡ any (λ p. eqb (standing st p.receiver) 0) (pays c.args.t.source a)) (sym c.in-Pay.is)
    (stands_not c.stands.result (standing st c.in-Pay.receiver) c.stands.ensures)
