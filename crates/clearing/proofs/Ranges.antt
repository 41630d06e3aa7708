-- What a block in range asks for is in range. Assumes nothing.
use Rattle.std.proofs.Common.{◌≡◌, ℕ, ◌<◌, true}
use Rattle.std.specs.List.{AllByRecursion}
use Rattle.std.proofs.lemmas.Bool.{and_parts, and_from, ltb-true}
use Rattle.std.proofs.ByRecursion.{All-weaker}
use Rattle.terms.specs.declared.Action.{Action}
use Rattle.terms.specs.declared.Action.TheVariants.{Create, Pay, Place, Cancel}
use Rattle.terms.specs.declared.Transaction.{Transaction}
use Rattle.terms.specs.declared.Offer.{Offer}
use Rattle.terms.specs.Ranges.{is_asset, is_amount, is_number, is_pair, is_word, fit_key, fit_offer, fit_action, fit_transaction}
use Rattle.blocks.specs.Readable.{Block}
use Rattle.exchange.specs.Trade.{opens, pays, places, cancels, created, paying, placed, cancelled, creations, payments, placements, cancellations}
use Rattle.exchange.proofs.Sums.{all_joined}
use Rattle.exchange.proofs.Fit.{Fit}

opened_fit : (a : Action) → fit_action a ≡ true → AllByRecursion (λ n. 0 < n) (opens a)
opened_fit (Create n) e = (ltb-true 0 n (and_parts _ _ e).0, tt)
opened_fit (Pay r x n) e = tt
opened_fit (Place x y l n) e = tt
opened_fit (Cancel x y l q) e = tt

paid_fit : (s : ℕ) (a : Action) → fit_action a ≡ true → AllByRecursion (λ p. p.asset < 8) (pays s a)
paid_fit s (Create n) e = tt
paid_fit s (Pay r x n) e = (ltb-true x 8 (and_parts (is_asset x) (is_amount n) (and_parts (is_number r) _ e).1).0, tt)
paid_fit s (Place x y l n) e = tt
paid_fit s (Cancel x y l q) e = tt

placed_fit : (s q : ℕ) (a : Action) → is_number s ≡ true → is_word q ≡ true → fit_action a ≡ true → AllByRecursion (λ o. fit_offer o ≡ true) (places s q a)
placed_fit s q (Create n) i w e = tt
placed_fit s q (Pay r x n) i w e = tt
placed_fit s q (Place x y l n) i w e =
    let (p, f) = and_parts (is_pair x y) _ e in
    let (k, m) = and_parts (is_number l) (is_amount n) f in
    (and_from _ _ (and_from _ _ p (and_from _ _ k (and_from _ _ i w))) m, tt)
placed_fit s q (Cancel x y l p) i w e = tt

cancelled_fit : (s : ℕ) (a : Action) → fit_action a ≡ true → AllByRecursion (λ k. k.sold < 8) (cancels s a)
cancelled_fit s (Create n) e = tt
cancelled_fit s (Pay r x n) e = tt
cancelled_fit s (Place x y l n) e = tt
cancelled_fit s (Cancel x y l q) e = (ltb-true x 8 (and_parts (is_asset x) _ (and_parts (is_pair x y) _ e).0).0, tt)

action_fits : (t : Transaction) → fit_transaction t ≡ true → fit_action t.action ≡ true
action_fits t e = (and_parts (is_word t.sequence) (fit_action t.action) (and_parts (is_number t.source) _ e).1).1

-- the key of an offer in range
pub limit_of : (o : Offer) → fit_offer o ≡ true → 0 < o.key.limit
limit_of o e =
    let k = (and_parts (fit_key o.key) (is_amount o.amount) e).0 in
    let l = (and_parts (is_number o.key.limit) _ (and_parts (is_pair o.key.sold o.key.bought) _ k).1).0 in
    ltb-true 0 o.key.limit (and_parts _ _ l).0

pub sold_fits : (o : Offer) → fit_offer o ≡ true → o.key.sold < 8
sold_fits o e =
    let k = (and_parts (fit_key o.key) (is_amount o.amount) e).0 in
    let p = (and_parts (is_pair o.key.sold o.key.bought) _ k).0 in
    ltb-true o.key.sold 8 (and_parts (is_asset o.key.sold) _ p).0

module _ (b : Block) (fit : Fit b) where
  pub new_accounts : AllByRecursion (λ n. 0 < n) (creations b)
  new_accounts = all_joined _ created b.transactions (All-weaker _ _ (λ t e. opened_fit t.action (action_fits t e)) b.transactions fit.transactions)

  pub paid_assets : AllByRecursion (λ p. p.asset < 8) (payments b)
  paid_assets = all_joined _ paying b.transactions (All-weaker _ _ (λ t e. paid_fit t.source t.action (action_fits t e)) b.transactions fit.transactions)

  pub new_offers : AllByRecursion (λ o. fit_offer o ≡ true) (placements b)
  new_offers =
      all_joined _ placed b.transactions
      (All-weaker _ _ (λ t e. placed_fit t.source t.sequence t.action (and_parts (is_number t.source) _ e).0
      (and_parts (is_word t.sequence) _ (and_parts (is_number t.source) _ e).1).0 (action_fits t e)) b.transactions fit.transactions)

  pub cancelled_assets : AllByRecursion (λ k. k.sold < 8) (cancellations b)
  cancelled_assets = all_joined _ cancelled b.transactions (All-weaker _ _ (λ t e. cancelled_fit t.source t.action (action_fits t e)) b.transactions fit.transactions)
