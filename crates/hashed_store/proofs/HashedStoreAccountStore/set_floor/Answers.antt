use Rattle.std.proofs.Common.{refl, ap, ◌∙◌, subst, arith}
use Rattle.std.specs.Result.{result_ok}
use Rattle.accounts.specs.Changes.{FloorSet}
use Rattle.accounts.proofs.Edits.{with_floor}
use Rattle.accounts.proofs.Replies.{floor_made}
use Rattle.hashed_store.specs.Index.{store_of, Found}
use Rattle.hashed_store.proofs.Links.{all_of_it, slot_below, sets_floor, few_entries}
use Rattle.hashed_store.proofs.Stores.{wrote}
use Rattle.hashed_store.proofs.HashedStoreAccountStore.set_floor.Goals as goal

pub write-requires : goal.write-requires
write-requires c =
    let s = c.args.self.now in
    let lies = subst (Found s.tables.slots.now s.tables.order.records c.args.number) (c.ok_or.ensures.ok_part ∙ ap result_ok c.in_ok-s.was) c.find.ensures in
    omega (arith, slot_below s.top s.tables.slots.now s.tables.buckets.now s.tables.order.records s.sound s.laid s.linked c.args.number c.in_ok-s.s c.in_ok-s.account lies, few_entries s.top s.tables.slots.now s.tables.buckets.now s.tables.order.records s.sound s.laid s.linked)

pub invariant_of-self : goal.invariant_of-self
invariant_of-self c =
    let s = c.args.self.now in
    let lies = subst (Found s.tables.slots.now s.tables.order.records c.args.number) (c.ok_or.ensures.ok_part ∙ ap result_ok c.in_ok-s.was) c.find.ensures in
    let w = wrote s.top s.tables.slots.now s.tables.buckets.now s.tables.order (record { even = s.even; roomy = s.roomy; parts = record { laid_all = s.laid; linked = s.linked; finds = s.finds; sums = s.sums; sound = s.sound } }) (FloorSet (store_of s.top s.tables.slots.now s.tables.order.records) c.args.number c.args.value) c.args.number c.in_ok-s.s c.in_ok-s.account (with_floor c.in_ok-s.account c.args.value) lies refl
    (sets_floor s.top s.tables.slots.now s.tables.buckets.now s.tables.order.records s.sound s.laid s.linked c.args.number c.in_ok-s.s c.in_ok-s.account lies c.args.value (few_entries s.top s.tables.slots.now s.tables.buckets.now s.tables.order.records s.sound s.laid s.linked) (omega arith))
    c.write.new.self.slots.now c.write.new.self.buckets.now c.write.new.self.order c.write.ensures.slots c.write.ensures.buckets c.write.ensures.order in
    record { even = w.1.even; roomy = w.1.roomy; laid = w.1.parts.laid_all; linked = w.1.parts.linked; finds = w.1.parts.finds; sums = w.1.parts.sums; sound = w.1.parts.sound }

pub returns-clause-after : goal.returns-clause-after
returns-clause-after c =
    let s = c.args.self.now in
    let lies = subst (Found s.tables.slots.now s.tables.order.records c.args.number) (c.ok_or.ensures.ok_part ∙ ap result_ok c.in_ok-s.was) c.find.ensures in
    (wrote s.top s.tables.slots.now s.tables.buckets.now s.tables.order (record { even = s.even; roomy = s.roomy; parts = record { laid_all = s.laid; linked = s.linked; finds = s.finds; sums = s.sums; sound = s.sound } }) (FloorSet (store_of s.top s.tables.slots.now s.tables.order.records) c.args.number c.args.value) c.args.number c.in_ok-s.s c.in_ok-s.account (with_floor c.in_ok-s.account c.args.value) lies refl
    (sets_floor s.top s.tables.slots.now s.tables.buckets.now s.tables.order.records s.sound s.laid s.linked c.args.number c.in_ok-s.s c.in_ok-s.account lies c.args.value (few_entries s.top s.tables.slots.now s.tables.buckets.now s.tables.order.records s.sound s.laid s.linked) (omega arith))
    c.write.new.self.slots.now c.write.new.self.buckets.now c.write.new.self.order c.write.ensures.slots c.write.ensures.buckets c.write.ensures.order).0

pub returns-clause-answer : goal.returns-clause-answer
returns-clause-answer c =
    let s = c.args.self.now in
    let lies = subst (Found s.tables.slots.now s.tables.order.records c.args.number) (c.ok_or.ensures.ok_part ∙ ap result_ok c.in_ok-s.was) c.find.ensures in
    floor_made (store_of s.top s.tables.slots.now s.tables.order.records) c.args.number (all_of_it s.top s.tables.slots.now s.tables.buckets.now s.tables.order.records s.sound s.laid s.linked c.args.number c.in_ok-s.s c.in_ok-s.account lies (λ _. 1))
