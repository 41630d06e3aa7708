use Rattle.tally.proofs.Finds.{found_at}
use Rattle.tally.proofs.effects.look_up.Goals as goal

pub returns-in-Ok-clause-plus : goal.returns-in-Ok-clause-plus
returns-in-Ok-clause-plus g c = λ up. found_at _ (λ n. n.plus) c.args.nets.now _ c.in-Ok.i c.index-nets-i.result up (c.in-Ok.ensures.found up) c.index-nets-i.is

pub returns-in-Ok-clause-minus : goal.returns-in-Ok-clause-minus
returns-in-Ok-clause-minus g c = λ up. found_at _ (λ n. n.minus) c.args.nets.now _ c.in-Ok.i c.index-nets-i.result up (c.in-Ok.ensures.found up) c.index-nets-i.is
