use Rattle.std.proofs.Common.{cond, [], sym, ◌∙◌, arith}
use Rattle.terms.specs.Holdings.{amount_at}
use Rattle.exchange.specs.Trade.{placed, cancelled}
use Rattle.exchange.proofs.Sums.{sum_by_joined}
use Rattle.judging_rules.specs.Rows.{scene, no_store, bundle}
use Rattle.judging_volumes.proofs.Supply.{corrected}
use Rattle.fills.specs.Ahead.{ahead}
use Rattle.fills.proofs.Bounds.{all_placed_fit}
use Rattle.fills.proofs.amount_ahead.Goals as goal

pub returns : goal.returns
returns g c once =
    let bk = (g.B.OfferBook.book c.args.book.now) in
    let ts = c.args.transactions.now in
    let k = c.args.key in
    let new = c.placed_ahead-placed.ensures ∙ sym (sum_by_joined (λ o. cond (ahead k o.key) o.amount 0) placed ts) in
    let gone = c.cancelled_ahead-cancelled.ensures ∙ sym (sum_by_joined (λ j. cond (ahead k j) (amount_at bk.offers j) 0) cancelled ts) in
    omega (arith, corrected (scene no_store bk 0 []) (bundle ts) once (ahead k), new, gone, c.standing_ahead-standing.ensures, c.saturating_sub.ensures)

pub overflow_add-placed : goal.overflow_add-placed
overflow_add-placed g c =
    omega (arith, c.placed_ahead-placed.ensures, all_placed_fit (λ o. ahead c.args.key o.key) c.args.transactions.now c.requires)
