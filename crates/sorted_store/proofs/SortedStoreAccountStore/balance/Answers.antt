use Rattle.std.proofs.Common.{get_or, rules}
use Rattle.sorted_store.proofs.Slots.{found_is}
use Rattle.sorted_store.proofs.SortedStoreAccountStore.balance.Goals as goal

pub returns : goal.returns
returns c =
    let s = c.args.self.now in
    found_is s.table s.top s.sound c.args.number c.find.result c.find.ensures (λ a. get_or a.balances c.args.asset 0) c.map_or.result (search rules)
