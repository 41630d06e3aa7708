use Rattle.std.proofs.Common.{◌≡◌, Some, None, get_or, rules}
use Rattle.lives.proofs.Stepping.{reject_step}
use Rattle.lives.proofs.run.Run.reject.Goals as goal

pub returns : goal.returns
returns g c = λ gs.
    let held : get_or c.args.self.now.held.items c.args.block None ≡ Some c.in_ok-checked.checked = search rules in
    reject_step _ _ _ _ gs _ c.args.block held c.reject.ensures c.take.ensures.left
