use Rattle.std.proofs.Common.{ap, ◌∙◌, subst, arith}
use Rattle.std.specs.Result.{result_ok}
use Rattle.sorted_store.specs.Rows.{Found}
use Rattle.sorted_store.proofs.Slots.{sets_floor}
use Rattle.sorted_store.proofs.SortedStoreAccountStore.set_floor.Goals as goal

pub invariant_of-self : goal.invariant_of-self
invariant_of-self c =
    let s = c.args.self.now in
    let at = subst (Found s.table.records c.args.number) (c.ok_or.ensures.ok_part ∙ ap result_ok c.in_ok-i.was) c.find.ensures in
    record { sound = (sets_floor s.table s.top s.sound c.args.number c.args.value c.in_ok-i.i c.in_ok-i.account c.replace.new.self _ at.0 at.1 (omega arith) c.replace.ensures.after).1 }

pub returns-clause-after : goal.returns-clause-after
returns-clause-after c =
    let s = c.args.self.now in
    let at = subst (Found s.table.records c.args.number) (c.ok_or.ensures.ok_part ∙ ap result_ok c.in_ok-i.was) c.find.ensures in
    (sets_floor s.table s.top s.sound c.args.number c.args.value c.in_ok-i.i c.in_ok-i.account c.replace.new.self _ at.0 at.1 (omega arith) c.replace.ensures.after).0
