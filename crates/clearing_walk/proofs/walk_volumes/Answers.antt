use Rattle.std.proofs.Common.{refl, ◌∙◌, length-set}
use Rattle.clearing_walk.proofs.Bounds.{no_room}
use Rattle.clearing_walk.proofs.Volumes.{start, total_is, priced, enter, leave, all_filled, fresh_walk, zeros, ended, in_pair}
use Rattle.clearing_walk.proofs.walk_volumes.Goals as goal

pub loop-v-init : goal.loop-v-init
loop-v-init g c = (refl, refl, λ s b h ready same. start s b _ ready h.fit _ _ _ zeros (fresh_walk s b _ _ same))

pub bounds-prices-v : goal.bounds-prices-v
bounds-prices-v g c = (in_pair c.args.volumes.now c.requires.fit c.loop-v.v-index c.loop-v-test.true).0

pub bounds-prices-i : goal.bounds-prices-i
bounds-prices-i g c = (in_pair c.args.volumes.now c.requires.fit c.loop-v.v-index c.loop-v-test.true).1

pub walk_pair-requires : goal.walk_pair-requires
walk_pair-requires g c = (in_pair c.args.volumes.now c.requires.fit c.loop-v.v-index c.loop-v-test.true).2

pub returns-in_err-out : goal.returns-in_err-out
returns-in_err-out g c =
    let (x, y, _) = in_pair c.args.volumes.now c.requires.fit c.loop-v.v-index c.loop-v-test.true in
    record {
      kept = no_room _ _ c.from_residual.result c.from_residual.ensures.0;
      filled = λ s b h ready same.
          absurd (c.in_err-out.ensures.walked s b _
          (priced s b _ ready _ c.args.volumes.now h c.loop-v.v-index c.loop-v-test.true _ refl refl y)
          (total_is s b _ ready _ c.args.volumes.now h c.loop-v.v-index c.loop-v-test.true)
          (enter s b _ ready _ c.args.volumes.now h c.loop-v.v-index c.loop-v-test.true _ _ c.loop-v.outs (c.loop-v.invariant.2 s b h ready same)));
    }

pub bounds-outs-i : goal.bounds-outs-i
bounds-outs-i g c = (in_pair c.args.volumes.now c.requires.fit c.loop-v.v-index c.loop-v-test.true).1

pub bounds-outs-i-in-loop-v : goal.bounds-outs-i-in-loop-v
bounds-outs-i-in-loop-v g c = (in_pair c.args.volumes.now c.requires.fit c.loop-v.v-index c.loop-v-test.true).1

pub loop-v-preserved : goal.loop-v-preserved
loop-v-preserved g c =
    let (x, y, _) = in_pair c.args.volumes.now c.requires.fit c.loop-v.v-index c.loop-v-test.true in (
      simp length-set c.loop-v.invariant.0,
      c.in_ok-out.ensures.kept ∙ c.loop-v.invariant.1,
      λ s b h ready same. rw c.saturating_add.ensures
          (leave s b _ ready _ c.args.volumes.now h c.loop-v.v-index c.loop-v-test.true _ _ c.loop-v.outs (c.loop-v.invariant.2 s b h ready same) _ _ c.in_ok-out.out y c.loop-v.invariant.0
          (c.in_ok-out.ensures.walked s b _
          (priced s b _ ready _ c.args.volumes.now h c.loop-v.v-index c.loop-v-test.true _ refl refl y)
          (total_is s b _ ready _ c.args.volumes.now h c.loop-v.v-index c.loop-v-test.true)
          (enter s b _ ready _ c.args.volumes.now h c.loop-v.v-index c.loop-v-test.true _ _ c.loop-v.outs (c.loop-v.invariant.2 s b h ready same)))),
    )

pub returns : goal.returns
returns g c =
    record {
      kept = c.loop-v.invariant.1;
      filled = λ s b h ready same. all_filled s b _ ready h.fit _ _ c.loop-v.v-index (ended b _ c.args.volumes.now h c.loop-v.v-index c.loop-v-test.false) c.loop-v.outs (c.loop-v.invariant.2 s b h ready same);
    }
