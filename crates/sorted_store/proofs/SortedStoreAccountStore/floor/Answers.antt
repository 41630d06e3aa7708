use Rattle.std.proofs.Common.{rules}
use Rattle.sorted_store.proofs.Slots.{found_is}
use Rattle.sorted_store.proofs.SortedStoreAccountStore.floor.Goals as goal

pub returns : goal.returns
returns c =
    let s = c.args.self.now in
    found_is s.table s.top s.sound c.args.number c.find.result c.find.ensures (λ a. a.floor) c.map_or.result (search rules)
