use Rattle.std.proofs.Common.{ap}
use Rattle.listing.specs.declared.line.Line.TheVariants as line
use Rattle.listing.proofs.Adding.{four}
use Rattle.listing.proofs.standing.push_state.Goals as goal

pub returns : goal.returns
returns g c = λ founded.
    four _ _ _ _ _ _ _ _ _ _ _ c.in_ok-push.ensures.items c.in_ok-push_accounts.ensures c.in_ok-push_offers.ensures c.in_ok-push-2.ensures.items
    (ap line.Remainders (c.remainders.ensures (c.digest-digest.ensures.steady founded).owned.ordered.remainders)) (ap line.Digest c.digest-digest.ensures.value)
