use Rattle.replica.proofs.Rulings.{check_early, check_more}
use Rattle.replica.proofs.life.Replica.check.Goals as goal

pub returns-then-not-self-clause-call : goal.returns-then-not-self-clause-call
returns-then-not-self-clause-call g c = rw (← c.self.view_is) (check_early _ _ _ c.into.ensures c.if-not-self.true)

pub returns-then-self-clause-call : goal.returns-then-self-clause-call
returns-then-self-clause-call g c = rw (← c.self.view_is) (check_more _ _ _ c.into-then-self.ensures c.if-not-self.false c.if-self.true)
