use Rattle.std.proofs.Common.{subst}
use Rattle.clearing_store.specs.Changes.{OpenedOr}
use Rattle.clearing_store.proofs.Changing.{one_opened}
use Rattle.clearing_store.proofs.open.Goals as goal

pub returns-in-Some : goal.returns-in-Some
returns-in-Some g c =
    subst (λ ns. OpenedOr ns (g.S.AccountStore.store c.args.store.now) (g.S.AccountStore.store c.open.new.self) c.open.result) c.in-Some.ensures
    (one_opened _ _ _ c.open.result c.open.ensures.answer c.open.ensures.after)
