use Rattle.std.proofs.Common.{◌≡◌, ℕ, ◌-◌, ◌<◌, cond, ltb, length, get_or}
use Rattle.clearing.proofs.remainders.take_off.Given as goal

abbrev pub invariant-loop-x : goal.invariant-loop-x
invariant-loop-x l =
    (length l.remainders ≡ 8)
    × ((x : ℕ) → x < 8
    → get_or l.remainders x 0 ≡ cond (ltb x l.x) (get_or l.initial.remainders x 0 - get_or l.paid x 0) (get_or l.initial.remainders x 0))
