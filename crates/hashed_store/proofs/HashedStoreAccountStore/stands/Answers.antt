use Rattle.std.proofs.Common.{cond, ap, ◌∙◌}
use Rattle.hashed_store.proofs.Links.{found_one}
use Rattle.hashed_store.proofs.HashedStoreAccountStore.stands.Goals as goal

pub returns : goal.returns
returns c = let s = c.args.self.now in ap (λ b. cond b 1 0) c.is_some.ensures ∙ found_one s.top s.tables.slots.now s.tables.buckets.now s.tables.order.records s.sound s.laid s.linked c.args.number c.find.result c.find.ensures
