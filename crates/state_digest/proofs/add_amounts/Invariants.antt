use Rattle.std.proofs.Common.{ℕ, List, ◌++◌, take}
use Rattle.std.specs.List.{flat_map}
use Rattle.terms.specs.Bytes.{bytes_of}
use Rattle.sha256.specs.Streaming.{Holds}
use Rattle.state_digest.proofs.add_amounts.Given as goal

abbrev pub invariant-loop-amount : goal.invariant-loop-amount
invariant-loop-amount l = (m : List ℕ) → Holds l.initial.hasher m → Holds l.hasher (m ++ flat_map (bytes_of 8) (take l.amount-index l.amounts))
