use Rattle.std.proofs.Common.{lit<, lit≤}
use Rattle.blocks.specs.Decoded.{block_of}
use Rattle.exchange.specs.Faults.Cause.{cancelled_twice}
use Rattle.judging_rules.specs.Rows.{scene}
use Rattle.judging.proofs.Stages.{clear_join, first_wider, stage_join, broke, verdict}
use Rattle.judging_volumes.proofs.Supply.{at_most_once}
use Rattle.judging.proofs.Parts.{judges}
use Rattle.judging.proofs.judge.Goals as goal

pub returns-in_err-judge_heading : goal.returns-in_err-judge_heading
returns-in_err-judge_heading g c =
    let st = (g.S.AccountStore.store c.args.store.now) in
    let bk = (g.B.OfferBook.book c.args.book.now) in
    let s = scene st bk c.args.height c.args.digest.now in
    let b = block_of c.args.block.now in
    let r = c.from_residual in
    judges st bk c.args.height c.args.digest.now b r.result
    (verdict s b r.result
    (broke s b 8 22 _ r.result r.ensures.1 (first_wider s b 8 11 22 _ (lit≤ tt) (c.in_err-judge_heading.ensures st bk))))

pub returns-in_err-judge_transactions : goal.returns-in_err-judge_transactions
returns-in_err-judge_transactions g c =
    let st = (g.S.AccountStore.store c.args.store.now) in
    let bk = (g.B.OfferBook.book c.args.book.now) in
    let s = scene st bk c.args.height c.args.digest.now in
    let b = block_of c.args.block.now in
    let r = c.from_residual-in_err-judge_transactions in
    judges st bk c.args.height c.args.digest.now b r.result
    (verdict s b r.result
    (stage_join s b 8 11 22 r.result (lit≤ tt) (c.in_ok-judge_heading.ensures st bk)
    (broke s b 11 22 _ r.result r.ensures.1
    (first_wider s b 11 18 22 _ (lit≤ tt) (c.in_err-judge_transactions.ensures c.args.height c.args.digest.now)))))

pub returns : goal.returns
returns g c =
    let st = (g.S.AccountStore.store c.args.store.now) in
    let bk = (g.B.OfferBook.book c.args.book.now) in
    let s = scene st bk c.args.height c.args.digest.now in
    let b = block_of c.args.block.now in
    let r = c.judge_totals in
    let k = c.in_ok-judge_heading.ensures st bk in
    let t = c.in_ok-judge_transactions.ensures c.args.height c.args.digest.now in
    let once = at_most_once s b (t cancelled_twice (lit≤ tt) (lit< tt)) in
    judges st bk c.args.height c.args.digest.now b r.result
    (verdict s b r.result
    (stage_join s b 8 18 22 r.result (lit≤ tt) (clear_join s b 8 11 18 k t) (r.ensures once c.args.height c.args.digest.now)))
