use Rattle.std.proofs.Common.{ℕ, ◌*◌, ◌/◌, ◌^◌, ◌<◌, ◌≤◌, mul-le-mul_right, div-le_self, arith}
use Rattle.clearing_walk.specs.Walk.{largest}
use Rattle.clearing_walk.proofs.Bounds.{balance_fits}
use Rattle.clearing_walk.proofs.settle.Goals as goal

scaled : (n p : ℕ) → n ≤ largest → p < 2 ^ 24 → n * p ≤ largest * 2 ^ 24
scaled n p h l = let a : n * p ≤ largest * p = mul-le-mul_right p h in omega arith

pub overflow_add-had : goal.overflow_add-had
overflow_add-had g c =
    let l = g.S.AccountStore.store c.args.store.now in
    let l_sound = g.met.S.AccountStore.sound c.args.store.now in
    let had = balance_fits l l_sound c.args.key.account c.args.key.bought in
    let small : c.min-sold.result ≤ largest = omega (arith, c.min-sold.ensures, c.requires) in
    let p = scaled c.min-sold.result c.args.rates.sold small c.args.rates.small in
    let q : c.min-sold.result * c.args.rates.sold / c.args.rates.bought ≤ c.min-sold.result * c.args.rates.sold =
    div-le_self (c.min-sold.result * c.args.rates.sold) c.args.rates.bought in
    omega (arith, had, p, q)
