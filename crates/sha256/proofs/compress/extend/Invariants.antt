use Rattle.std.proofs.Common.{◌≡◌, ℕ, ◌+◌, ◌-◌, List, length, take}
use Rattle.sha256.specs.Compression.{schedule}
use Rattle.sha256.proofs.compress.extend.Given as goal

abbrev pub invariant-loop-t : goal.invariant-loop-t
invariant-loop-t l =
    (length l.w ≡ 64)
    × ((first : List ℕ) → take (l.n + 16) l.initial.w ≡ schedule l.n first → take l.t l.w ≡ schedule (l.t - 16) first)
