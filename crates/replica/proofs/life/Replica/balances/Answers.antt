use Rattle.replica.proofs.life.Replica.balances.Goals as goal

-- the replica's store is the one it was asked of
pub returns-clause-value : goal.returns-clause-value
returns-clause-value g c = rw (← c.self.view_is) c.balances.ensures
