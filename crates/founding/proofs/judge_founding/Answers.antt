use Rattle.std.proofs.Common.{subst}
use Rattle.blocks.specs.Decoded.{grants_of}
use Rattle.exchange.specs.Faults.{FoundingVerdict}
use Rattle.tally.specs.Least.{fault_of}
use Rattle.founding.proofs.Verdicts.{few, by_accounts, by_room, by_amounts}
use Rattle.founding.proofs.judge_founding.Goals as goal

pub returns-in_err-accounts_good : goal.returns-in_err-accounts_good
returns-in_err-accounts_good g c =
    let st = (g.S.AccountStore.store c.args.store.now) in
    let gs = c.grants-grants in
    let short = few gs.result.now (grants_of c.args.founding.now) gs.ensures c.args.founding.now.ranges in
    let r = c.from_residual in
    subst (λ l. FoundingVerdict st l (fault_of r.result)) gs.ensures
    (by_accounts st gs.result.now _ r.result r.ensures.1 (c.in_err-accounts_good.ensures.row short))

pub returns-in_err-accounts_fit : goal.returns-in_err-accounts_fit
returns-in_err-accounts_fit g c =
    let st = (g.S.AccountStore.store c.args.store.now) in
    let gs = c.grants-grants in
    let short = few gs.result.now (grants_of c.args.founding.now) gs.ensures c.args.founding.now.ranges in
    let r = c.from_residual-in_err-accounts_fit in
    subst (λ l. FoundingVerdict st l (fault_of r.result)) gs.ensures
    (by_room st gs.result.now (c.in_ok-accounts_good.ensures.row short) _ r.result r.ensures.1 c.in_err-accounts_fit.ensures)

pub returns : goal.returns
returns g c =
    let st = (g.S.AccountStore.store c.args.store.now) in
    let gs = c.grants-grants in
    let short = few gs.result.now (grants_of c.args.founding.now) gs.ensures c.args.founding.now.ranges in
    let r = c.amounts_fit in
    subst (λ l. FoundingVerdict st l (fault_of r.result)) gs.ensures
    (by_amounts st gs.result.now (c.in_ok-accounts_good.ensures.row short) c.in_ok-accounts_fit.ensures r.result (r.ensures st))
