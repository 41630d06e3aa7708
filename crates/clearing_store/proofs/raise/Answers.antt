use Rattle.std.proofs.Common.{◌<◌, ◌≤◌, subst}
use Rattle.clearing_store.proofs.Changing.{one_raised, raised_already}
use Rattle.clearing_store.proofs.raise.Goals as goal

pub returns-then-floor-t : goal.returns-then-floor-t
returns-then-floor-t g c =
    one_raised c.args.t _ _ (subst (λ n. n < c.args.t.sequence) c.floor-floor.ensures c.if-floor-t.true)
    c.set_floor.result c.set_floor.ensures.answer c.set_floor.ensures.after

pub returns : goal.returns
returns g c = raised_already c.args.t _ (subst (λ n. c.args.t.sequence ≤ n) c.floor-floor.ensures c.if-floor-t.false)
