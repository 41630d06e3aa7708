use Rattle.std.proofs.Common.{◌≡◌, ℕ, List, [], ◌∷◌, ◌++◌, length}
use Rattle.std.specs.List.{flat_map}
use Rattle.terms.specs.Order.{name}
use Rattle.sha256.specs.Streaming.{Holds}
use Rattle.exchange.specs.Commit.{account_bytes}
use Rattle.state_digest.specs.Rest.{rest}
use Rattle.state_digest.proofs.add_accounts.Given as goal

abbrev pub invariant-loop-number : goal.invariant-loop-number
invariant-loop-number g l =
    (m : List ℕ) → Holds l.initial.hasher m
    → (w : List ℕ) × Holds l.hasher w
    × (w ++ flat_map account_bytes (rest name (g.S.AccountStore.store l.store).accounts (l.at ∷ []))
    ≡ m ++ flat_map account_bytes (g.S.AccountStore.store l.store).accounts)

abbrev pub decreases-loop-number : goal.decreases-loop-number
decreases-loop-number g l = length (rest name (g.S.AccountStore.store l.store).accounts (l.at ∷ []))
