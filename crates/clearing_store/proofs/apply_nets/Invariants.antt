use Rattle.std.proofs.Common.{take}
use Rattle.clearing_store.specs.Changes.{Applied}
use Rattle.clearing_store.proofs.apply_nets.Given as goal

abbrev pub invariant-loop-net : goal.invariant-loop-net
invariant-loop-net g l =
    Applied (take l.net-index l.nets) (g.S.AccountStore.store l.initial.store) (g.S.AccountStore.store l.store)
