use Rattle.std.proofs.Common.{◌<◌, length, sym, ◌∙◌, subst, arith}
use Rattle.std.proofs.lemmas.List.{get_or_default}
use Rattle.hashed_store.specs.Index.{blank, Lies}
use Rattle.hashed_store.specs.Probing.{start}
use Rattle.hashed_store.proofs.Links.{none_zero, none_probed, held, slot_below, few_entries}
use Rattle.hashed_store.proofs.HashedStore.find.Goals as goal

pub returns-then-number-eq0 : goal.returns-then-number-eq0
returns-then-number-eq0 c = let s = c.args.self.now in none_zero s.top s.tables.slots.now s.tables.buckets.now s.tables.order.records s.sound s.laid s.linked c.args.number c.if-number-eq0.true

pub account-requires : goal.account-requires
account-requires c =
    let s = c.args.self.now in
    let lies = held s.top s.tables.slots.now s.tables.buckets.now s.tables.order.records s.sound s.laid s.linked c.args.number c.in-Held.j c.entry-s.result (omega arith) c.in-Held.ensures.0 c.in-Held.ensures.1 c.entry-s.ensures in
    omega (arith, slot_below s.top s.tables.slots.now s.tables.buckets.now s.tables.order.records s.sound s.laid s.linked c.args.number _ _ lies, few_entries s.top s.tables.slots.now s.tables.buckets.now s.tables.order.records s.sound s.laid s.linked)

pub returns : goal.returns
returns c =
    let s = c.args.self.now in
    let lies = held s.top s.tables.slots.now s.tables.buckets.now s.tables.order.records s.sound s.laid s.linked c.args.number c.in-Held.j c.entry-s.result (omega arith) c.in-Held.ensures.0 c.in-Held.ensures.1 c.entry-s.ensures in
    let lt : c.entry-s.result.slot < length s.tables.slots.now = omega (arith, slot_below s.top s.tables.slots.now s.tables.buckets.now s.tables.order.records s.sound s.laid s.linked c.args.number _ _ lies, few_entries s.top s.tables.slots.now s.tables.buckets.now s.tables.order.records s.sound s.laid s.linked) in
    subst (λ a. Lies s.tables.slots.now s.tables.order.records c.args.number c.entry-s.result.slot a)
    (sym (c.account.ensures ∙ get_or_default s.tables.slots.now c.entry-s.result.slot c.account.result blank lt)) lies

pub returns-in_default : goal.returns-in_default
returns-in_default c =
    let s = c.args.self.now in
    none_probed s.top s.tables.slots.now s.tables.buckets.now s.tables.order.records s.sound s.laid s.linked c.args.number (start c.args.number (length s.tables.buckets.now)) c.probe.result
    (omega arith) (s.finds c.args.number (omega arith)) c.probe.ensures c.in_default.not-Held
