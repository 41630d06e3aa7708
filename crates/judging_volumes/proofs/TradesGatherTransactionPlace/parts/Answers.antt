use Rattle.std.proofs.Common.{◌≡◌, [], ◌∷◌, sym, ap, ap₂, ◌∙◌, subst}
use Rattle.terms.specs.Holdings.{amount_at}
use Rattle.judging_volumes.specs.Trades.{key_for, eligible_amount, trades_by}
use Rattle.judging_volumes.proofs.TradesGatherTransactionPlace.parts.Goals as goal

pub returns-in-Cancel : goal.returns-in-Cancel
returns-in-Cancel g c =
    let f = amount_at (g.B.OfferBook.book c.args.self.now.book.now).offers in
    let ps = c.args.self.now.prices.now in
    let k = key_for c.args.t.source c.in-Cancel.sold c.in-Cancel.bought c.in-Cancel.limit c.in-Cancel.offer in
    let amount = c.eligible_amount-amount-in-Cancel.ensures ∙ ap (eligible_amount ps k) c.amount.ensures in
    subst (λ a. c.goes.result ∷ [] ≡ trades_by ps f c.args.t.source c.args.t.sequence a) (sym c.in-Cancel.is)
    (ap (λ z. z ∷ []) (c.goes.ensures ∙ ap₂ (λ p n. record { key = p; plus = 0; minus = n }) c.pair_of-in-Cancel.ensures amount))
