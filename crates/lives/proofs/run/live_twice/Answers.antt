use Rattle.lives.proofs.Pairs.{law}
use Rattle.lives.proofs.run.live_twice.Goals as goal

pub returns : goal.returns
returns g c = law _ _ _ _ _ _ _ _ _ _ c.live-first.ensures c.live-second.ensures
