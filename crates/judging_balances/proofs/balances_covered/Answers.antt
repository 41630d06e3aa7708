use Rattle.std.proofs.Common.{◌+◌, ◌&&◌, ltb, refl, arith}
use Rattle.std.proofs.lemmas.Bool.Decides.{nat_tests}
use Rattle.std.specs.List.{flat_map}
use Rattle.terms.specs.Holdings.{balance_at, amount_at}
use Rattle.tally.proofs.Tells.{told_by}
use Rattle.tally.proofs.Nets.{told_nets}
use Rattle.judging_balances.specs.Moves.{moves, slot_words}
use Rattle.judging_balances.proofs.Totals.{comes_in, goes_out}
use Rattle.judging_balances.proofs.balances_covered.Goals as goal

pub returns-clause-row : goal.returns-clause-row
returns-clause-row g c =
    let ts = c.args.transactions.now in
    let st = (g.S.AccountStore.store c.args.store.now) in
    let bk = (g.B.OfferBook.book c.args.book.now) in
    let t = c.in_ok-entries.ensures.1 in
    λ _.
    told_by _ _ 18 c.report.result
    (λ i j e. let p = comes_in st bk ts i j in let m = goes_out st bk ts i j in grind (arith, nat_tests))
    (λ i j e. let p = comes_in st bk ts i j in let m = goes_out st bk ts i j in grind (arith, nat_tests))
    (told_nets slot_words (λ k. k.account) (λ k. k.asset) (λ _. refl) (λ i j p m. ltb j 8 && ltb (balance_at st i j + p) m) (λ i j. grind (arith, nat_tests))
    (flat_map (moves (amount_at bk.offers)) ts) _ t 18 c.report.result (c.report.ensures tt))
