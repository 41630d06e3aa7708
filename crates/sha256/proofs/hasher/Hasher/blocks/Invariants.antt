use Rattle.std.proofs.Common.{◌≡◌, ℕ, ◌%◌, List, ◌++◌, take}
use Rattle.std.specs.List.{flat_map}
use Rattle.sha256.specs.Streaming.{Holds}
use Rattle.sha256.proofs.hasher.Hasher.blocks.Given as goal

abbrev pub invariant-loop-block : goal.invariant-loop-block
invariant-loop-block l =
    (l.self.count % 64 ≡ l.initial.self.count % 64)
    × ((m : List ℕ) → Holds l.initial.self m → Holds l.self (m ++ flat_map (λ block. block) (take l.block-index l.blocks)))
