use Rattle.std.proofs.Common.{◌≡◌, length, take, None}
use Rattle.exchange.specs.Faults.{FoundingVerdict}
use Rattle.founding.specs.Granting.{GrantedAll}
use Rattle.founding.proofs.grant_all.Given as goal

abbrev pub invariant-loop-grant : goal.invariant-loop-grant
invariant-loop-grant g l =
    length (g.S.AccountStore.store l.initial.store).accounts ≡ 0
    → FoundingVerdict (g.S.AccountStore.store l.initial.store) l.grants None
    → GrantedAll (g.S.AccountStore.store l.initial.store) (take l.grant-index l.grants) (g.S.AccountStore.store l.store)
