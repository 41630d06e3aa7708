use Rattle.std.proofs.Common.{◌≡◌, sym, ◌∙◌}
use Rattle.accounts.proofs.Sound.{store_parts}
use Rattle.accounts.proofs.Eights.{own, own_balances}
use Rattle.listing.proofs.standing.account.Goals as goal

pub returns : goal.returns
returns g c = λ a has is.
    let st = c.args.replica.now.store in
    let ok = store_parts st c.requires in
    let floor : c.floor.result ≡ a.floor = c.floor.ensures.value ∙ own st c.args.number a ok has is (λ b. b.floor) in
    let balances = c.balances.ensures.value ∙ own_balances st c.args.number a ok has is in
    λ i. record { number = sym is i; floor = floor i; balances = balances i }
