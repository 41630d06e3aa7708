use Rattle.std.proofs.Common.{◌≡◌, ◌∙◌, rules}
use Rattle.terms.specs.Holdings.{balance_at}
use Rattle.accounts.proofs.Eights.{listed}
use Rattle.accounts.proofs.balances.Goals as goal

-- each call of the closure gave a balance
pub returns : goal.returns
returns g c =
    let st = g.S.AccountStore.store c.args.store.now in
    let n = c.args.number in
    let e0 = c.map.ensures.items.each in
    let e1 = e0.6 in
    let e2 = e1.6 in
    let e3 = e2.6 in
    let e4 = e3.6 in
    let e5 = e4.6 in
    let e6 = e5.6 in
    let e7 = e6.6 in
    listed c.map.result _ _ _ _ _ _ _ _ c.map.ensures.items.long
    (e0.4.1 0 ∙ (let y : e0.2 ≡ balance_at st n 0 = search (rules, e0.5) in y))
    (e1.4.1 0 ∙ (let y : e1.2 ≡ balance_at st n 1 = search (rules, e1.5) in y))
    (e2.4.1 0 ∙ (let y : e2.2 ≡ balance_at st n 2 = search (rules, e2.5) in y))
    (e3.4.1 0 ∙ (let y : e3.2 ≡ balance_at st n 3 = search (rules, e3.5) in y))
    (e4.4.1 0 ∙ (let y : e4.2 ≡ balance_at st n 4 = search (rules, e4.5) in y))
    (e5.4.1 0 ∙ (let y : e5.2 ≡ balance_at st n 5 = search (rules, e5.5) in y))
    (e6.4.1 0 ∙ (let y : e6.2 ≡ balance_at st n 6 = search (rules, e6.5) in y))
    (e7.4.1 0 ∙ (let y : e7.2 ≡ balance_at st n 7 = search (rules, e7.5) in y))
