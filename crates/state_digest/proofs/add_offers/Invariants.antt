use Rattle.std.proofs.Common.{◌≡◌, ℕ, List, ◌++◌, length}
use Rattle.std.specs.List.{flat_map}
use Rattle.terms.specs.Order.{place, words}
use Rattle.sha256.specs.Streaming.{Holds}
use Rattle.exchange.specs.Commit.{offer_bytes}
use Rattle.state_digest.specs.Rest.{rest}
use Rattle.state_digest.proofs.add_offers.Given as goal

abbrev pub invariant-loop-key : goal.invariant-loop-key
invariant-loop-key g l =
    (m : List ℕ) → Holds l.initial.hasher m
    → (w : List ℕ) × Holds l.hasher w
    × (w ++ flat_map offer_bytes (rest place (g.B.OfferBook.book l.book).offers (words l.at))
    ≡ m ++ flat_map offer_bytes (g.B.OfferBook.book l.book).offers)

abbrev pub decreases-loop-key : goal.decreases-loop-key
decreases-loop-key g l = length (rest place (g.B.OfferBook.book l.book).offers (words l.at))
