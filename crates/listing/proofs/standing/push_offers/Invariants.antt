use Rattle.std.proofs.Common.{◌≡◌, ◌++◌, map, length, vec_items}
use Rattle.terms.specs.Order.{place, words}
use Rattle.state_digest.specs.Rest.{rest}
use Rattle.listing.specs.declared.line.Line.TheVariants as line
use Rattle.listing.proofs.standing.push_offers.Given as goal

abbrev pub invariant-loop-key : goal.invariant-loop-key
invariant-loop-key g l =
    vec_items l.lines ++ map line.Offer (rest place l.replica.book.offers (words l.at))
    ≡ vec_items l.initial.lines ++ map line.Offer l.replica.book.offers

abbrev pub decreases-loop-key : goal.decreases-loop-key
decreases-loop-key g l = length (rest place l.replica.book.offers (words l.at))
