use Rattle.std.proofs.Common.{◌≡◌, drop}
use Rattle.terms.specs.Ranges.{every, is_balance}
use Rattle.terms.proofs.ranges.are_balances.Given as goal

abbrev pub invariant-loop-balance : goal.invariant-loop-balance
invariant-loop-balance l = every is_balance l.balances ≡ every is_balance (drop l.balance-index l.balances)
