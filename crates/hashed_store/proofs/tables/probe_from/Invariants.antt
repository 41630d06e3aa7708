use Rattle.std.proofs.Common.{◌≡◌, ℕ, ◌<◌, ◌≤◌, [], ◌++◌, map, length, get_or, take, drop}
use Rattle.hashed_store.specs.Index.{number}
use Rattle.hashed_store.specs.Probing.{turned, seen}
use Rattle.hashed_store.proofs.tables.probe_from.Given as goal

abbrev pub invariant-loop-j : goal.invariant-loop-j
invariant-loop-j l =
    (seen l.number (drop l.j (map number l.buckets) ++ take l.h (map number l.buckets)) ≡ seen l.number (turned l.h (map number l.buckets)))
    × ((i : ℕ) → l.h ≤ i → i < l.j → 0 < get_or (map number l.buckets) i 0)

abbrev pub invariant-loop-k : goal.invariant-loop-k
invariant-loop-k l =
    (seen l.number (drop l.k (take l.h (map number l.buckets)) ++ []) ≡ seen l.number (turned l.h (map number l.buckets)))
    × ((i : ℕ) → l.h ≤ i → i < length (map number l.buckets) → 0 < get_or (map number l.buckets) i 0)
    × ((i : ℕ) → i < l.k → 0 < get_or (map number l.buckets) i 0)
