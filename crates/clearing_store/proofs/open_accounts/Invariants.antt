use Rattle.std.proofs.Common.{take}
use Rattle.std.specs.List.{flat_map}
use Rattle.exchange.specs.Trade.{created}
use Rattle.clearing_store.specs.Changes.{AllOpened}
use Rattle.clearing_store.proofs.open_accounts.Given as goal

abbrev pub invariant-loop-t : goal.invariant-loop-t
invariant-loop-t g l =
    AllOpened (flat_map created (take l.t-index l.transactions)) (g.S.AccountStore.store l.initial.store) (g.S.AccountStore.store l.store)
