use Rattle.std.proofs.Common.{ℕ, ◌<◌, ◌≤◌}
use Rattle.exchange.specs.Faults.{granted}
use Rattle.founding.proofs.amounts_fit.Given as goal

abbrev pub invariant-loop-asset : goal.invariant-loop-asset
invariant-loop-asset l = (k : ℕ) → k < l.asset → granted l.grants k ≤ 68719476735
