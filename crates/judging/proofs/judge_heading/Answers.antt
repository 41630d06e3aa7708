use Rattle.std.proofs.Common.{◌≤◌, length, sym, subst, lit<, lit≤}
use Rattle.blocks.specs.Decoded.{block_of}
use Rattle.exchange.specs.Faults.Cause.{wrong_height, wrong_parent, uncleared}
use Rattle.judging_rules.specs.Rows.{scene}
use Rattle.judging.specs.Verdicts.{Stage}
use Rattle.judging.proofs.Stages.{clear_none, clear_row, first_row, last_row, broke}
use Rattle.judging.proofs.Parts.{made, few}
use Rattle.judging.proofs.judge_heading.Goals as goal

pub returns-in_err-height_follows : goal.returns-in_err-height_follows
returns-in_err-height_follows c st bk =
    let s = scene st bk c.args.height c.args.digest.now in
    let a = block_of c.args.block.now in
    let b = made c.height.result a.parent a.prices a.volumes a.transactions in
    let r = c.from_residual in
    subst (λ z. Stage s z 8 11 r.result) (λ i. made (c.height.ensures i) a.parent a.prices a.volumes a.transactions)
    (broke s b 8 11 _ r.result r.ensures.1
    (first_row s b wrong_height 8 11 _ (lit≤ tt) (lit< tt) (clear_none s b 8) c.in_err-height_follows.ensures))

pub returns-in_err-parent_matches : goal.returns-in_err-parent_matches
returns-in_err-parent_matches c st bk =
    let s = scene st bk c.args.height c.args.digest.now in
    let a = block_of c.args.block.now in
    let b = made c.height.result c.parent.result.now a.prices a.volumes a.transactions in
    let r = c.from_residual-in_err-parent_matches in
    let k = clear_row s b wrong_height 8 (clear_none s b 8) c.in_ok-height_follows.ensures in
    subst (λ z. Stage s z 8 11 r.result) (λ i. made (c.height.ensures i) (c.parent.ensures i) a.prices a.volumes a.transactions)
    (broke s b 8 11 _ r.result r.ensures.1
    (first_row s b wrong_parent 8 11 _ (lit≤ tt) (lit< tt) k c.in_err-parent_matches.ensures))

pub returns : goal.returns
returns c st bk =
    let s = scene st bk c.args.height c.args.digest.now in
    let a = block_of c.args.block.now in
    let b = made c.height.result c.parent.result.now c.prices.result.now c.volumes.result.now a.transactions in
    let k = clear_row s b wrong_height 8 (clear_none s b 8) c.in_ok-height_follows.ensures in
    let l = clear_row s b wrong_parent 8 k c.in_ok-parent_matches.ensures in
    let short : length c.volumes.result.now ≤ 56 = subst (λ vs. length vs ≤ 56) (sym c.volumes.ensures) (few a c.args.block.now.ranges).0 in
    subst (λ z. Stage s z 8 11 c.prices_clear.result)
    (λ i. made (c.height.ensures i) (c.parent.ensures i) (c.prices.ensures i) (c.volumes.ensures i) a.transactions)
    (last_row s b uncleared 8 c.prices_clear.result (lit≤ tt) l (c.prices_clear.ensures.row short))
