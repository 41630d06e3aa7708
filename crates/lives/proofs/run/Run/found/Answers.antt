use Rattle.lives.proofs.Stepping.{found_step}
use Rattle.lives.proofs.run.Run.found.Goals as goal

pub returns : goal.returns
returns g c = λ gs. rw c.into.ensures (found_step _ _ c.args.self.now.held.items c.args.self.now.held.items gs _ c.found.result c.found.ensures)
