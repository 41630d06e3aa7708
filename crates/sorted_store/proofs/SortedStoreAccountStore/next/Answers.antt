use Rattle.sorted_store.proofs.Slots.{ok}
use Rattle.sorted_store.proofs.SortedStoreAccountStore.next.Goals as goal

pub returns : goal.returns
returns c = let s = c.args.self.now in c.next.ensures (ok s.table s.top s.sound).up
