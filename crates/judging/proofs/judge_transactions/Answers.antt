use Rattle.std.proofs.Common.{◌≤◌, length, sym, subst, lit<, lit≤}
use Rattle.blocks.specs.Decoded.{block_of}
use Rattle.exchange.specs.Faults.Cause.{no_source, out_of_window, repeated, no_receiver, bad_account, no_offer, cancelled_twice}
use Rattle.judging_rules.specs.Rows.{scene}
use Rattle.judging.specs.Verdicts.{Stage}
use Rattle.judging.proofs.Stages.{clear_none, clear_row, first_row, last_row, broke}
use Rattle.judging.proofs.Parts.{made, few}
use Rattle.judging.proofs.judge_transactions.Goals as goal

pub returns-in_err-sources_stand : goal.returns-in_err-sources_stand
returns-in_err-sources_stand g c h d =
    let s = scene (g.S.AccountStore.store c.args.store.now) (g.B.OfferBook.book c.args.book.now) h d in
    let a = block_of c.args.block.now in
    let ts = c.transactions-transactions in
    let b = made a.height a.parent a.prices a.volumes ts.result.now in
    let r = c.from_residual in
    subst (λ z. Stage s z 11 18 r.result) (λ i. made a.height a.parent a.prices a.volumes (ts.ensures i))
    (broke s b 11 18 _ r.result r.ensures.1
    (first_row s b no_source 11 18 _ (lit≤ tt) (lit< tt) (clear_none s b 11) c.in_err-sources_stand.ensures))

pub returns-in_err-sequences_in_window : goal.returns-in_err-sequences_in_window
returns-in_err-sequences_in_window g c h d =
    let s = scene (g.S.AccountStore.store c.args.store.now) (g.B.OfferBook.book c.args.book.now) h d in
    let a = block_of c.args.block.now in
    let ts = c.transactions-transactions in
    let b = made a.height a.parent a.prices a.volumes ts.result.now in
    let k12 = clear_row s b no_source 11 (clear_none s b 11) c.in_ok-sources_stand.ensures in
    let r = c.from_residual-in_err-sequences_in_window in
    subst (λ z. Stage s z 11 18 r.result) (λ i. made a.height a.parent a.prices a.volumes (ts.ensures i))
    (broke s b 11 18 _ r.result r.ensures.1
    (first_row s b out_of_window 11 18 _ (lit≤ tt) (lit< tt) k12 c.in_err-sequences_in_window.ensures))

pub returns-in_err-tags_differ : goal.returns-in_err-tags_differ
returns-in_err-tags_differ g c h d =
    let s = scene (g.S.AccountStore.store c.args.store.now) (g.B.OfferBook.book c.args.book.now) h d in
    let a = block_of c.args.block.now in
    let ts = c.transactions-transactions in
    let b = made a.height a.parent a.prices a.volumes ts.result.now in
    let short : length ts.result.now ≤ 1024 = subst (λ z. length z ≤ 1024) (sym ts.ensures) (few a c.args.block.now.ranges).1 in
    let k12 = clear_row s b no_source 11 (clear_none s b 11) c.in_ok-sources_stand.ensures in
    let k13 = clear_row s b out_of_window 11 k12 c.in_ok-sequences_in_window.ensures in
    let r = c.from_residual-in_err-tags_differ in
    subst (λ z. Stage s z 11 18 r.result) (λ i. made a.height a.parent a.prices a.volumes (ts.ensures i))
    (broke s b 11 18 _ r.result r.ensures.1
    (first_row s b repeated 11 18 _ (lit≤ tt) (lit< tt) k13 (c.in_err-tags_differ.ensures.row short)))

pub returns-in_err-receivers_stand : goal.returns-in_err-receivers_stand
returns-in_err-receivers_stand g c h d =
    let s = scene (g.S.AccountStore.store c.args.store.now) (g.B.OfferBook.book c.args.book.now) h d in
    let a = block_of c.args.block.now in
    let ts = c.transactions-transactions in
    let b = made a.height a.parent a.prices a.volumes ts.result.now in
    let short : length ts.result.now ≤ 1024 = subst (λ z. length z ≤ 1024) (sym ts.ensures) (few a c.args.block.now.ranges).1 in
    let k12 = clear_row s b no_source 11 (clear_none s b 11) c.in_ok-sources_stand.ensures in
    let k13 = clear_row s b out_of_window 11 k12 c.in_ok-sequences_in_window.ensures in
    let k14 = clear_row s b repeated 11 k13 (c.in_ok-tags_differ.ensures.row short) in
    let r = c.from_residual-in_err-receivers_stand in
    subst (λ z. Stage s z 11 18 r.result) (λ i. made a.height a.parent a.prices a.volumes (ts.ensures i))
    (broke s b 11 18 _ r.result r.ensures.1
    (first_row s b no_receiver 11 18 _ (lit≤ tt) (lit< tt) k14 c.in_err-receivers_stand.ensures))

pub returns-in_err-openings_good : goal.returns-in_err-openings_good
returns-in_err-openings_good g c h d =
    let s = scene (g.S.AccountStore.store c.args.store.now) (g.B.OfferBook.book c.args.book.now) h d in
    let a = block_of c.args.block.now in
    let ts = c.transactions-transactions in
    let b = made a.height a.parent a.prices a.volumes ts.result.now in
    let short : length ts.result.now ≤ 1024 = subst (λ z. length z ≤ 1024) (sym ts.ensures) (few a c.args.block.now.ranges).1 in
    let k12 = clear_row s b no_source 11 (clear_none s b 11) c.in_ok-sources_stand.ensures in
    let k13 = clear_row s b out_of_window 11 k12 c.in_ok-sequences_in_window.ensures in
    let k14 = clear_row s b repeated 11 k13 (c.in_ok-tags_differ.ensures.row short) in
    let k15 = clear_row s b no_receiver 11 k14 c.in_ok-receivers_stand.ensures in
    let r = c.from_residual-in_err-openings_good in
    subst (λ z. Stage s z 11 18 r.result) (λ i. made a.height a.parent a.prices a.volumes (ts.ensures i))
    (broke s b 11 18 _ r.result r.ensures.1
    (first_row s b bad_account 11 18 _ (lit≤ tt) (lit< tt) k15 (c.in_err-openings_good.ensures.row short)))

pub returns-in_err-cancelled_stand : goal.returns-in_err-cancelled_stand
returns-in_err-cancelled_stand g c h d =
    let s = scene (g.S.AccountStore.store c.args.store.now) (g.B.OfferBook.book c.args.book.now) h d in
    let a = block_of c.args.block.now in
    let ts = c.transactions-transactions in
    let b = made a.height a.parent a.prices a.volumes ts.result.now in
    let short : length ts.result.now ≤ 1024 = subst (λ z. length z ≤ 1024) (sym ts.ensures) (few a c.args.block.now.ranges).1 in
    let k12 = clear_row s b no_source 11 (clear_none s b 11) c.in_ok-sources_stand.ensures in
    let k13 = clear_row s b out_of_window 11 k12 c.in_ok-sequences_in_window.ensures in
    let k14 = clear_row s b repeated 11 k13 (c.in_ok-tags_differ.ensures.row short) in
    let k15 = clear_row s b no_receiver 11 k14 c.in_ok-receivers_stand.ensures in
    let k16 = clear_row s b bad_account 11 k15 (c.in_ok-openings_good.ensures.row short) in
    let r = c.from_residual-in_err-cancelled_stand in
    subst (λ z. Stage s z 11 18 r.result) (λ i. made a.height a.parent a.prices a.volumes (ts.ensures i))
    (broke s b 11 18 _ r.result r.ensures.1
    (first_row s b no_offer 11 18 _ (lit≤ tt) (lit< tt) k16 c.in_err-cancelled_stand.ensures))

pub returns : goal.returns
returns g c h d =
    let s = scene (g.S.AccountStore.store c.args.store.now) (g.B.OfferBook.book c.args.book.now) h d in
    let a = block_of c.args.block.now in
    let ts = c.transactions-transactions in
    let b = made a.height a.parent a.prices a.volumes ts.result.now in
    let short : length ts.result.now ≤ 1024 = subst (λ z. length z ≤ 1024) (sym ts.ensures) (few a c.args.block.now.ranges).1 in
    let k12 = clear_row s b no_source 11 (clear_none s b 11) c.in_ok-sources_stand.ensures in
    let k13 = clear_row s b out_of_window 11 k12 c.in_ok-sequences_in_window.ensures in
    let k14 = clear_row s b repeated 11 k13 (c.in_ok-tags_differ.ensures.row short) in
    let k15 = clear_row s b no_receiver 11 k14 c.in_ok-receivers_stand.ensures in
    let k16 = clear_row s b bad_account 11 k15 (c.in_ok-openings_good.ensures.row short) in
    let k17 = clear_row s b no_offer 11 k16 c.in_ok-cancelled_stand.ensures in
    subst (λ z. Stage s z 11 18 c.cancelled_once.result) (λ i. made a.height a.parent a.prices a.volumes (ts.ensures i))
    (last_row s b cancelled_twice 11 c.cancelled_once.result (lit≤ tt) k17 (c.cancelled_once.ensures.row short))
