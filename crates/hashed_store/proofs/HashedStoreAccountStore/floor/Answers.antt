use Rattle.std.proofs.Common.{rules}
use Rattle.hashed_store.proofs.Links.{found_is}
use Rattle.hashed_store.proofs.HashedStoreAccountStore.floor.Goals as goal

pub returns : goal.returns
returns c = let s = c.args.self.now in found_is s.top s.tables.slots.now s.tables.buckets.now s.tables.order.records s.sound s.laid s.linked c.args.number c.find.result c.find.ensures (λ a. a.floor) c.map_or.result (search rules)
