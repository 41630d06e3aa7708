use Rattle.std.proofs.Common.{get_or, rules}
use Rattle.hashed_store.proofs.Links.{found_is}
use Rattle.hashed_store.proofs.HashedStoreAccountStore.balance.Goals as goal

pub returns : goal.returns
returns c = let s = c.args.self.now in found_is s.top s.tables.slots.now s.tables.buckets.now s.tables.order.records s.sound s.laid s.linked c.args.number c.find.result c.find.ensures (λ a. get_or a.balances c.args.asset 0) c.map_or.result (search rules)
