use Rattle.std.proofs.Common.{◌+◌, take, sym, subst, arith}
use Rattle.std.specs.List.{AllByRecursion}
use Rattle.tally.specs.Tally.{Tallied, Ahead}
use Rattle.tally.proofs.Merge.{merged_step, small_all}
use Rattle.tally.proofs.effects.merge.Goals as goal

pub loop-e-preserved : goal.loop-e-preserved
loop-e-preserved g c =
    let es = c.args.effects.now in
    let i = c.loop-e.e-index in
    let s = merged_step g.K.SortKey.rank es i c.e-item.result c.loop-e.nets.items c.loop-e-test.true c.e-item.is c.add.ensures.fits.0 c.add.ensures.fits.1 c.requires.sorted c.loop-e.invariant.1 c.loop-e.invariant.2 in (
      omega arith,
      subst (Tallied g.K.SortKey.rank (take (i + 1) es)) (sym c.add.ensures.nets) s.0,
      subst (AllByRecursion (Ahead g.K.SortKey.rank es (i + 1))) (sym c.add.ensures.nets) s.1,
    )

pub returns-clause-small : goal.returns-clause-small
returns-clause-small g c = small_all g.K.SortKey.rank c.args.effects.now c.loop-e.e-index c.loop-e.nets.items (omega arith) c.loop-e.invariant.2
