use Rattle.std.proofs.Common.{cond, ap, ◌∙◌}
use Rattle.sorted_store.proofs.Slots.{found_one}
use Rattle.sorted_store.proofs.SortedStoreAccountStore.stands.Goals as goal

pub returns : goal.returns
returns c =
    let s = c.args.self.now in
    ap (λ b. cond b 1 0) c.is_some.ensures ∙ found_one s.table s.top s.sound c.args.number c.find.result c.find.ensures
