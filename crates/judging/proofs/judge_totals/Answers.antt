use Rattle.std.proofs.Common.{◌≤◌, length, sym, subst, lit<, lit≤}
use Rattle.terms.specs.declared.Key.{Key}
use Rattle.terms.specs.Order.{Rising}
use Rattle.blocks.specs.Decoded.{block_of}
use Rattle.blocks.specs.Readable.{pair}
use Rattle.exchange.specs.Trade.{cancels_of}
use Rattle.exchange.specs.Faults.Cause.{overdrawn, accounts_full, offers_full, excess_volume}
use Rattle.exchange.proofs.Fit.{fits}
use Rattle.judging_rules.specs.Rows.{scene, bundle}
use Rattle.judging.specs.Verdicts.{Stage}
use Rattle.judging.proofs.Stages.{clear_none, clear_row, first_row, last_row, broke}
use Rattle.judging.proofs.Parts.{made, few}
use Rattle.judging.proofs.judge_totals.Goals as goal

pub returns-in_err-balances_covered : goal.returns-in_err-balances_covered
returns-in_err-balances_covered g c once h d =
    let s = scene (g.S.AccountStore.store c.args.store.now) (g.B.OfferBook.book c.args.book.now) h d in
    let a = block_of c.args.block.now in
    let ts = c.transactions-transactions in
    let b = made a.height a.parent a.prices a.volumes ts.result.now in
    let short : length ts.result.now ≤ 1024 = subst (λ z. length z ≤ 1024) (sym ts.ensures) (few a c.args.block.now.ranges).1 in
    let r = c.from_residual in
    subst (λ z. Stage s z 18 22 r.result) (λ i. made a.height a.parent a.prices a.volumes (ts.ensures i))
    (broke s b 18 22 _ r.result r.ensures.1
    (first_row s b overdrawn 18 22 _ (lit≤ tt) (lit< tt) (clear_none s b 18) (c.in_err-balances_covered.ensures.row short)))

pub returns-in_err-accounts_fit : goal.returns-in_err-accounts_fit
returns-in_err-accounts_fit g c once h d =
    let s = scene (g.S.AccountStore.store c.args.store.now) (g.B.OfferBook.book c.args.book.now) h d in
    let a = block_of c.args.block.now in
    let ts = c.transactions-transactions in
    let b = made a.height a.parent a.prices a.volumes ts.result.now in
    let short : length ts.result.now ≤ 1024 = subst (λ z. length z ≤ 1024) (sym ts.ensures) (few a c.args.block.now.ranges).1 in
    let k19 = clear_row s b overdrawn 18 (clear_none s b 18) (c.in_ok-balances_covered.ensures.row short) in
    let r = c.from_residual-in_err-accounts_fit in
    subst (λ z. Stage s z 18 22 r.result) (λ i. made a.height a.parent a.prices a.volumes (ts.ensures i))
    (broke s b 18 22 _ r.result r.ensures.1
    (first_row s b accounts_full 18 22 _ (lit≤ tt) (lit< tt) k19 (c.in_err-accounts_fit.ensures.row short)))

pub returns-in_err-offers_fit : goal.returns-in_err-offers_fit
returns-in_err-offers_fit g c once h d =
    let s = scene (g.S.AccountStore.store c.args.store.now) (g.B.OfferBook.book c.args.book.now) h d in
    let a = block_of c.args.block.now in
    let ts = c.transactions-transactions in
    let b = made a.height a.parent a.prices a.volumes ts.result.now in
    let short : length ts.result.now ≤ 1024 = subst (λ z. length z ≤ 1024) (sym ts.ensures) (few a c.args.block.now.ranges).1 in
    let k19 = clear_row s b overdrawn 18 (clear_none s b 18) (c.in_ok-balances_covered.ensures.row short) in
    let k20 = clear_row s b accounts_full 18 k19 (c.in_ok-accounts_fit.ensures.row short) in
    let r = c.from_residual-in_err-offers_fit in
    subst (λ z. Stage s z 18 22 r.result) (λ i. made a.height a.parent a.prices a.volumes (ts.ensures i))
    (broke s b 18 22 _ r.result r.ensures.1
    (first_row s b offers_full 18 22 _ (lit≤ tt) (lit< tt) k20 (c.in_err-offers_fit.ensures.row short)))

pub returns : goal.returns
returns g c once h d =
    let s = scene (g.S.AccountStore.store c.args.store.now) (g.B.OfferBook.book c.args.book.now) h d in
    let a = block_of c.args.block.now in
    let ts = c.transactions-transactions in
    let b = made a.height a.parent c.prices.result.now c.volumes.result.now ts.result.now in
    let short : length ts.result.now ≤ 1024 = subst (λ z. length z ≤ 1024) (sym ts.ensures) (few a c.args.block.now.ranges).1 in
    let k19 = clear_row s b overdrawn 18 (clear_none s b 18) (c.in_ok-balances_covered.ensures.row short) in
    let k20 = clear_row s b accounts_full 18 k19 (c.in_ok-accounts_fit.ensures.row short) in
    let k21 = clear_row s b offers_full 18 k20 (c.in_ok-offers_fit.ensures.row short) in
    let single = subst (λ z. (k : Key) → cancels_of (bundle z) k ≤ 1) (sym ts.ensures) once in
    let up = subst (Rising pair) (sym c.volumes.ensures) (fits a c.args.block.now.ranges).pairs in
    subst (λ z. Stage s z 18 22 c.volumes_supplied.result) (λ i. made a.height a.parent (c.prices.ensures i) (c.volumes.ensures i) (ts.ensures i))
    (last_row s b excess_volume 18 c.volumes_supplied.result (lit≤ tt) k21 (c.volumes_supplied.ensures.row short single up))
