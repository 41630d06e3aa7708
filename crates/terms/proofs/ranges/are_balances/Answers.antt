use Rattle.std.proofs.Common.{◌≡◌, ◌+◌, true, false, ◌&&◌, get_or, drop, sym, ap, ◌∙◌, arith}
use Rattle.std.proofs.lemmas.List.{at_drop_more, at_drop_all}
use Rattle.std.proofs.lemmas.Bool.Decides.{nat_tests}
use Rattle.terms.specs.Ranges.{every, is_balance}
use Rattle.terms.proofs.ranges.are_balances.Goals as goal

pub loop-balance-preserved : goal.loop-balance-preserved
loop-balance-preserved c =
    let xs = c.args.balances.now in
    let i = c.loop-balance.balance-index in
    let e = at_drop_more (every is_balance) xs i 0 c.loop-balance-test.true in
    let t : is_balance (get_or xs i 0) ≡ true = grind (arith, nat_tests) in
    c.loop-balance.invariant ∙ (e ∙ ap (λ b. b && every is_balance (drop (i + 1) xs)) t)

pub returns : goal.returns
returns c = sym (c.loop-balance.invariant ∙ at_drop_all (every is_balance) c.args.balances.now c.loop-balance.balance-index c.loop-balance-test.false)

pub returns-then-balance-gt-MAX_BALANCE : goal.returns-then-balance-gt-MAX_BALANCE
returns-then-balance-gt-MAX_BALANCE c =
    let xs = c.args.balances.now in
    let i = c.loop-balance.balance-index in
    let e = at_drop_more (every is_balance) xs i 0 c.loop-balance-test.true in
    let t : is_balance (get_or xs i 0) ≡ false = grind (arith, nat_tests) in
    sym (c.loop-balance.invariant ∙ (e ∙ ap (λ b. b && every is_balance (drop (i + 1) xs)) t))
