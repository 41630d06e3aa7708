use Rattle.std.proofs.Common.{◌≡◌, [], ◌∷◌, ◌++◌, map, length, vec_items}
use Rattle.terms.specs.Order.{name}
use Rattle.state_digest.specs.Rest.{rest}
use Rattle.listing.specs.declared.line.Line.TheVariants as line
use Rattle.listing.proofs.standing.push_accounts.Given as goal

abbrev pub invariant-loop-number : goal.invariant-loop-number
invariant-loop-number g l =
    vec_items l.lines ++ map line.Account (rest name l.replica.store.accounts (l.at ∷ []))
    ≡ vec_items l.initial.lines ++ map line.Account l.replica.store.accounts

abbrev pub decreases-loop-number : goal.decreases-loop-number
decreases-loop-number g l = length (rest name l.replica.store.accounts (l.at ∷ []))
