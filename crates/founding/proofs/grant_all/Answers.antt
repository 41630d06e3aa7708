use Rattle.std.proofs.Common.{◌≡◌, true, None, sym, ◌∙◌, subst}
use Rattle.std.proofs.lemmas.List.{take_all}
use Rattle.blocks.specs.Readable.{fit_grants}
use Rattle.exchange.specs.Faults.{FoundingVerdict}
use Rattle.founding.specs.Granting.{GrantedAll}
use Rattle.founding.proofs.Openings.{none_granted, never_refused, granted_more}
use Rattle.founding.proofs.grant_all.Goals as goal

pub loop-grant-init : goal.loop-grant-init
loop-grant-init g c = λ _ _. none_granted _

pub loop-grant-preserved : goal.loop-grant-preserved
loop-grant-preserved g c empty clean =
    let gs = c.grants-grants.result.now in
    let fit = subst (λ l. fit_grants l ≡ true) (sym c.grants-grants.ensures) c.args.founding.now.ranges in
    granted_more (g.S.AccountStore.store c.args.store.now) gs fit empty clean _ c.loop-grant.grant-index _ c.loop-grant-test.true (c.loop-grant.invariant empty clean)
    (g.S.AccountStore.store c.open_with.new.store) c.in_ok-open_with.ensures.after

pub returns-in_err-open_with : goal.returns-in_err-open_with
returns-in_err-open_with g c empty clean =
    let s = (g.S.AccountStore.store c.args.store.now) in
    let gs = c.grants-grants.result.now in
    let fit = subst (λ l. fit_grants l ≡ true) (sym c.grants-grants.ensures) c.args.founding.now.ranges in
    let fine = subst (λ l. FoundingVerdict s l None) (sym c.grants-grants.ensures) clean in
    never_refused s gs fit empty fine _ c.loop-grant.grant-index _ c.loop-grant-test.true (c.loop-grant.invariant empty fine) _ c.in_err-open_with.ensures.answer _ _ _

pub returns : goal.returns
returns g c empty clean =
    let s = (g.S.AccountStore.store c.args.store.now) in
    let fine = subst (λ l. FoundingVerdict s l None) (sym c.grants-grants.ensures) clean in
    subst (λ l. GrantedAll s l (g.S.AccountStore.store c.loop-grant.store))
    (take_all c.loop-grant.grant-index c.grants-grants.result.now c.loop-grant-test.false ∙ c.grants-grants.ensures) (c.loop-grant.invariant empty fine)
