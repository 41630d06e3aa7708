use Rattle.std.proofs.Common.{◌≡◌, [], ◌∷◌, sym, ap, ap₂, ◌∙◌, subst, rules}
use Rattle.terms.specs.Holdings.{amount_at}
use Rattle.judging_balances.specs.Moves.{moves_by, brings, slot}
use Rattle.judging_balances.proofs.MovesGatherTransactionSlot.parts.Goals as goal

pub returns-in-Cancel : goal.returns-in-Cancel
returns-in-Cancel g c =
    let f = amount_at (g.B.OfferBook.book c.args.self.now.book.now).offers in
    let own : c.own-in-Cancel.result ≡ slot c.args.t.source c.in-Cancel.sold = search rules in
    subst (λ a. c.comes-in-Cancel.result ∷ [] ≡ moves_by f c.args.t.source a) (sym c.in-Cancel.is)
    (ap (λ z. z ∷ []) (c.comes-in-Cancel.ensures ∙ ap₂ brings own c.amount-amount.ensures))
