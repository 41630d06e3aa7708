use Rattle.std.proofs.Common.{◌≡◌, ℕ, ◌+◌, ◌-◌, ◌/◌, true, false, List, arith}
use Rattle.terms.specs.Order.{lower}
use Rattle.ordered.proofs.Cuts.{told_by, window_start, window_low, window_high, window_cut}
use Rattle.ordered.proofs.table.lower_bound.Goals as goal

pub loop-low-init : goal.loop-low-init
loop-low-init g c = (omega arith, omega arith, λ up. window_start (λ x. g.R.Id.SortKey.rank (g.R.Keyed.key x)) c.args.records.now _)

pub loop-low-preserved-then-precedes : goal.loop-low-preserved-then-precedes
loop-low-preserved-then-precedes g c =
    let rank : g.row.R.Denot → List ℕ = λ x. g.R.Id.SortKey.rank (g.R.Keyed.key x) in
    let mid : ℕ = c.loop-low.low + (c.loop-low.high - c.loop-low.low) / 2 in
    let less : lower (rank c.index-records-mid.result) (g.R.Id.SortKey.rank c.args.key) ≡ true =
    told_by (λ k. lower (g.R.Id.SortKey.rank k) (g.R.Id.SortKey.rank c.args.key)) c.key.result (g.R.Keyed.key c.index-records-mid.result) true c.key.ensures c.if-precedes.ensures in (
      omega arith,
      c.loop-low.invariant.1,
      λ up. window_low rank c.args.records.now _ up c.loop-low.low _ mid c.index-records-mid.result (c.loop-low.invariant.2 up) (omega arith) c.index-records-mid.is less,
    )

pub loop-low-preserved : goal.loop-low-preserved
loop-low-preserved g c =
    let rank : g.row.R.Denot → List ℕ = λ x. g.R.Id.SortKey.rank (g.R.Keyed.key x) in
    let mid : ℕ = c.loop-low.low + (c.loop-low.high - c.loop-low.low) / 2 in
    let less : lower (rank c.index-records-mid.result) (g.R.Id.SortKey.rank c.args.key) ≡ false =
    told_by (λ k. lower (g.R.Id.SortKey.rank k) (g.R.Id.SortKey.rank c.args.key)) c.key.result (g.R.Keyed.key c.index-records-mid.result) false c.key.ensures c.if-precedes.ensures in (
      omega arith,
      omega arith,
      λ up. window_high rank c.args.records.now _ up _ c.loop-low.high mid c.index-records-mid.result (c.loop-low.invariant.2 up) (omega arith) c.index-records-mid.is less,
    )

pub returns-clause-cut : goal.returns-clause-cut
returns-clause-cut g c =
    λ up. window_cut (λ x. g.R.Id.SortKey.rank (g.R.Keyed.key x)) c.args.records.now _ c.loop-low.low c.loop-low.high (c.loop-low.invariant.2 up) (omega arith) c.loop-low.invariant.1
