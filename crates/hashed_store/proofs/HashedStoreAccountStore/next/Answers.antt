use Rattle.std.proofs.Common.{[], ◌∷◌, ◌∙◌}
use Rattle.hashed_store.proofs.Links.{up, next_is}
use Rattle.hashed_store.proofs.HashedStoreAccountStore.next.Goals as goal

pub returns : goal.returns
returns c = let s = c.args.self.now in c.next.ensures (up s.top s.tables.slots.now s.tables.buckets.now s.tables.order.records s.sound s.laid s.linked) ∙ next_is s.top s.tables.slots.now s.tables.buckets.now s.tables.order.records s.sound s.laid s.linked (c.args.number ∷ [])
