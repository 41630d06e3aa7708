use Rattle.std.proofs.Common.{◌≡◌, cond, eqb, [], sym, ◌∙◌, arith}
use Rattle.std.proofs.lemmas.Bool.{eq-eqb, ne_eqb}
use Rattle.terms.specs.Order.{same, words, place}
use Rattle.terms.specs.Holdings.{amount_at}
use Rattle.exchange.specs.Trade.{placed, cancelled, cancels_of}
use Rattle.exchange.proofs.Sums.{if_true, if_false, sum_by_joined}
use Rattle.judging_rules.specs.Rows.{scene, no_store, bundle}
use Rattle.fills.proofs.Ahead.{in_trade}
use Rattle.fills.proofs.Bounds.{all_placed_fit}
use Rattle.fills.proofs.amount_in_trade.Goals as goal

pub returns-then-cancels-gt0 : goal.returns-then-cancels-gt0
returns-then-cancels-gt0 g c =
    let bk = (g.B.OfferBook.book c.args.book.now) in
    let ts = c.args.transactions.now in
    let k = c.args.key in
    let new = c.placed_under-placed.ensures ∙ sym (sum_by_joined (λ o. cond (same (place o) (words k)) o.amount 0) placed ts) in
    let gone : c.cancels.result ≡ cancels_of (bundle ts) k = c.cancels.ensures ∙ sym (sum_by_joined (λ j. cond (same (words j) (words k)) 1 0) cancelled ts) in
    let some = if_false (eqb (cancels_of (bundle ts) k) 0) (amount_at bk.offers k) 0 (ne_eqb (cancels_of (bundle ts) k) 0 (λ z. omega (arith, gone, z))) in
    omega (arith, in_trade (scene no_store bk 0 []) (bundle ts) k, new, some)

pub returns : goal.returns
returns g c =
    let bk = (g.B.OfferBook.book c.args.book.now) in
    let ts = c.args.transactions.now in
    let k = c.args.key in
    let new = c.placed_under-placed.ensures ∙ sym (sum_by_joined (λ o. cond (same (place o) (words k)) o.amount 0) placed ts) in
    let gone : c.cancels.result ≡ cancels_of (bundle ts) k = c.cancels.ensures ∙ sym (sum_by_joined (λ j. cond (same (words j) (words k)) 1 0) cancelled ts) in
    let none = if_true (eqb (cancels_of (bundle ts) k) 0) (amount_at bk.offers k) 0 (eq-eqb (cancels_of (bundle ts) k) 0 (omega (arith, gone))) in
    omega (arith, in_trade (scene no_store bk 0 []) (bundle ts) k, new, none, c.amount.ensures)

pub overflow_add-result : goal.overflow_add-result
overflow_add-result g c =
    omega (arith, c.placed_under-placed.ensures, all_placed_fit (λ o. same (place o) (words c.args.key)) c.args.transactions.now c.requires)
