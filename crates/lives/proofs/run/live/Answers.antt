use Rattle.lives.proofs.Going.{ran}
use Rattle.lives.proofs.run.live.Goals as goal

pub returns : goal.returns
returns g c = ran _ _ _ _ _ (c.go_on-stop.ensures _ _ c.new.ensures c.new-2.ensures.items c.new-answers.ensures.items)
