use Rattle.std.proofs.Common.{take}
use Rattle.clearing_store.specs.Changes.{Raised}
use Rattle.clearing_store.proofs.raise_floors.Given as goal

abbrev pub invariant-loop-t : goal.invariant-loop-t
invariant-loop-t g l =
    Raised (take l.t-index l.transactions) (g.S.AccountStore.store l.initial.store) (g.S.AccountStore.store l.store)
