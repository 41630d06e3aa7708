use Rattle.std.proofs.Common.{◌≡◌, ℕ, ◌+◌, ◌<◌, length, get_or, take}
use Rattle.clearing.specs.Remainders.{sold_of}
use Rattle.clearing.proofs.remainders.add_volumes.Given as goal

abbrev pub invariant-loop-v : goal.invariant-loop-v
invariant-loop-v l =
    (length l.remainders ≡ 8)
    × ((x : ℕ) → x < 8 → get_or l.initial.remainders x 0 + sold_of l.volumes x < 18446744073709551616
    → get_or l.remainders x 0 ≡ get_or l.initial.remainders x 0 + sold_of (take l.v-index l.volumes) x)
