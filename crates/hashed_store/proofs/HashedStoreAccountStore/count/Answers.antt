use Rattle.std.proofs.Common.{sym, ◌∙◌}
use Rattle.std.proofs.lemmas.List.{length-map}
use Rattle.hashed_store.specs.Index.{lying}
use Rattle.hashed_store.proofs.HashedStoreAccountStore.count.Goals as goal

pub returns : goal.returns
returns c = let s = c.args.self.now in c.len.ensures ∙ sym (length-map s.tables.order.records (lying s.tables.slots.now))
