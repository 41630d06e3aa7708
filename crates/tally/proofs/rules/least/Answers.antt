use Rattle.std.proofs.Common.{◌+◌, take, sym, ◌∙◌, subst}
use Rattle.std.proofs.lemmas.List.{take_all}
use Rattle.tally.specs.Least.{LeastPlace}
use Rattle.tally.proofs.Places.{least_more_no, least_more_yes}
use Rattle.tally.proofs.rules.least.Goals as goal
use Rattle.tally.proofs.rules.least.Goals.{then-breaks, else-breaks}

pub loop-x-preserved : goal.loop-x-preserved
loop-x-preserved g c =
    λ ready.
    let p = g.R.Rule.broken c.args.rule.now in
    let ts = c.args.xs.now in
    let i = c.loop-x.x-index in
    let x = c.x-item.result in
    let f = g.X.Placed.first in
    let q = g.X.Placed.second in
    let l = c.loop-x-test.true in
    elim c.if-breaks.branch [
      | then-breaks w ↦
          subst (LeastPlace f q p (take (i + 1) ts)) (sym (w.best-is ∙ w.lesser-best.ensures))
          (least_more_yes f q p ts i x l c.x-item.is w.place.result c.loop-x.best
          w.place.ensures.0 w.place.ensures.1 (sym (c.breaks.ensures ready) ∙ w.if-breaks.true) (c.loop-x.invariant ready))
      | else-breaks w ↦
          subst (LeastPlace f q p (take (i + 1) ts)) (sym w.best-is)
          (least_more_no f q p ts i x l c.x-item.is c.loop-x.best (sym (c.breaks.ensures ready) ∙ w.if-breaks.false) (c.loop-x.invariant ready))
    ]

pub returns : goal.returns
returns g c =
    λ ready.
    subst (λ ts. LeastPlace g.X.Placed.first g.X.Placed.second (g.R.Rule.broken c.args.rule.now) ts c.loop-x.best)
    (take_all c.loop-x.x-index c.args.xs.now c.loop-x-test.false) (c.loop-x.invariant ready)
