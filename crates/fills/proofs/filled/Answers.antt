use Rattle.std.proofs.Common.{◌≡◌, ◌≤◌, true, [], ◌∷◌, sym, ap, ◌∙◌, subst, ap₂, arith}
use Rattle.terms.specs.declared.Key.{Key}
use Rattle.terms.specs.Order.{under}
use Rattle.terms.specs.Holdings.{amount_at}
use Rattle.blocks.specs.Readable.{pair}
use Rattle.blocks.specs.Decoded.{block_of}
use Rattle.exchange.specs.Trade.{cancels_of, eligible, trading, volume, sold, pay_for}
use Rattle.exchange.specs.Faults.Cause.{cancelled_twice}
use Rattle.exchange.proofs.Causes.{faulty}
use Rattle.exchange.proofs.Sums.{sum_by_kept}
use Rattle.judging_rules.specs.Rows.{scene, no_store, bundle, deal}
use Rattle.judging_volumes.proofs.Supply.{at_most_once}
use Rattle.fills.specs.Ahead.{sum_ahead}
use Rattle.fills.proofs.Ahead.{sold_is}
use Rattle.fills.proofs.Bounds.{ranges, pay_fits}
use Rattle.fills.proofs.filled.Goals as goal

pub overflow_cast-units : goal.overflow_cast-units
overflow_cast-units g c =
    let b = block_of c.args.block.now in
    let k = c.args.key in
    let v : c.volume_of-volume.result ≡ volume b k.sold k.bought = c.volume_of-volume.ensures ∙ sum_by_kept _ _ c.volumes.result.now ∙ ap (λ vs. under pair (λ w. w.amount) vs (k.sold ∷ k.bought ∷ [])) c.volumes.ensures in
    omega (arith, v, (ranges b c.args.block.now.ranges).volumes k.sold k.bought, c.min-units.ensures, c.saturating_sub.ensures)

pub overflow_cast-pay : goal.overflow_cast-pay
overflow_cast-pay g c =
    let b = block_of c.args.block.now in
    let k = c.args.key in
    let f = ranges b c.args.block.now.ranges in
    let v : c.volume_of-volume.result ≡ volume b k.sold k.bought = c.volume_of-volume.ensures ∙ sum_by_kept _ _ c.volumes.result.now ∙ ap (λ vs. under pair (λ w. w.amount) vs (k.sold ∷ k.bought ∷ [])) c.volumes.ensures in
    let few : c.min-units.result ≤ 68719476735 = omega (arith, v, f.volumes k.sold k.bought, c.min-units.ensures, c.saturating_sub.ensures) in
    let p = c.pay_for-pay.ensures ∙ ap (λ ps. pay_for (deal ps [] []) k.sold k.bought c.min-units.result) c.prices-prices.ensures in
    omega (arith, p, pay_fits b f k.sold k.bought c.min-units.result few)

pub returns : goal.returns
returns g c s e clean =
    let b = block_of c.args.block.now in
    let k = c.args.key in
    let ts = c.transactions-transactions in
    let met : eligible b k ≡ true = sym (c.eligible.ensures ∙ ap (λ ps. eligible (deal ps [] []) k) c.prices-prices.ensures) ∙ c.if-not-eligible.false in
    let v : c.volume_of-volume.result ≡ volume b k.sold k.bought = c.volume_of-volume.ensures ∙ sum_by_kept _ _ c.volumes.result.now ∙ ap (λ vs. under pair (λ w. w.amount) vs (k.sold ∷ k.bought ∷ [])) c.volumes.ensures in
    let a : c.amount_in_trade-amount.result ≡ amount_at (trading s b) k =
    c.amount_in_trade-amount.ensures ∙ ap₂ (λ z t. amount_at (trading (scene no_store z 0 []) (bundle t)) k) (sym e) ts.ensures in
    let once = subst (λ t. (j : Key) → cancels_of (bundle t) j ≤ 1) (sym ts.ensures) (at_most_once s b (λ i j p. clean _ (faulty s b cancelled_twice i j p))) in
    let n : c.amount_ahead-ahead.result ≡ sum_ahead k (trading s b) =
    c.amount_ahead-ahead.ensures once ∙ ap₂ (λ z t. sum_ahead k (trading (scene no_store z 0 []) (bundle t))) (sym e) ts.ensures in
    let is = sold_is s b k c.volume_of-volume.result c.amount_in_trade-amount.result c.amount_ahead-ahead.result met v a n in
    let units : c.min-units.result ≡ sold s b k = omega (arith, is, c.min-units.ensures, c.saturating_sub.ensures) in
    (units, c.pay_for-pay.ensures ∙ ap₂ (λ ps m. pay_for (deal ps [] []) k.sold k.bought m) c.prices-prices.ensures units)
