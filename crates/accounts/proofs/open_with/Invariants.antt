use Rattle.accounts.proofs.Grants.{Filled}
use Rattle.accounts.proofs.open_with.Given as goal

abbrev pub invariant-loop-asset : goal.invariant-loop-asset
invariant-loop-asset g l =
    Filled (g.S.AccountStore.store l.initial.store) l.number l.balance-items l.asset (g.S.AccountStore.store l.store)
