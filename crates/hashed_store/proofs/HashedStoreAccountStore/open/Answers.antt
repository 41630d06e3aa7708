use Rattle.std.proofs.Common.{set, Err, sym, refl, ap, ◌∙◌, arith}
use Rattle.std.proofs.lemmas.List.{length-map}
use Rattle.accounts.proofs.Edits.{fresh}
use Rattle.accounts.proofs.Replies.{open_stands, open_full, open_made}
use Rattle.hashed_store.specs.Index.{store_of, lying}
use Rattle.hashed_store.proofs.Links.{up, none_of, one_of, none_free, not_in_order}
use Rattle.hashed_store.proofs.Stores.{entered}
use Rattle.hashed_store.proofs.HashedStoreAccountStore.open.Goals as goal

pub returns-in-Held-clause-answer : goal.returns-in-Held-clause-answer
returns-in-Held-clause-answer c =
    let s = c.args.self.now in
    let h = c.in-Held.ensures in
    ap Err c.into-in-Held.ensures ∙ open_stands (store_of s.top s.tables.slots.now s.tables.order.records) c.args.number c.if-number-eq0.false (omega arith) (one_of s.top s.tables.slots.now s.tables.buckets.now s.tables.order.records s.sound s.laid s.linked c.args.number c.in-Held.field-0 (omega arith) h.0 h.1)

pub returns-in-Full-clause-answer : goal.returns-in-Full-clause-answer
returns-in-Full-clause-answer c =
    let s = c.args.self.now in
    ap Err c.into-in-Full.ensures
    ∙ open_full (store_of s.top s.tables.slots.now s.tables.order.records) c.args.number c.if-number-eq0.false (omega arith)
    (none_of s.top s.tables.slots.now s.tables.buckets.now s.tables.order.records s.sound s.laid s.linked c.args.number (omega arith) (sym (s.finds c.args.number (omega arith)) ∙ c.in-Full.ensures.0) (λ _. 1))
    (omega (arith, none_free s.top s.tables.slots.now s.tables.buckets.now s.tables.order.records s.sound s.laid s.linked c.in-Full.ensures.1, length-map s.tables.order.records (lying s.tables.slots.now), s.roomy))

pub returns-then-n-self-clause-answer : goal.returns-then-n-self-clause-answer
returns-then-n-self-clause-answer c =
    let s = c.args.self.now in
    ap Err c.into-then-n-self.ensures
    ∙ open_full (store_of s.top s.tables.slots.now s.tables.order.records) c.args.number c.if-number-eq0.false (omega arith)
    (none_of s.top s.tables.slots.now s.tables.buckets.now s.tables.order.records s.sound s.laid s.linked c.args.number (omega arith) (sym (s.finds c.args.number (omega arith)) ∙ c.in-Free.ensures.2) (λ _. 1))
    (omega (arith, c.len-n.ensures, length-map s.tables.order.records (lying s.tables.slots.now)))

-- a number that no bucket has is not in the order
pub unreachable-requires : goal.unreachable-requires
unreachable-requires c =
    let s = c.args.self.now in
    not_in_order s.top s.tables.slots.now s.tables.buckets.now s.tables.order.records s.sound s.laid s.linked c.args.number _ (record { number = 0; slot = 0 }) (omega arith) (sym (s.finds c.args.number (omega arith)) ∙ c.in-Free.ensures.2) (c.in_default.ensures (up s.top s.tables.slots.now s.tables.buckets.now s.tables.order.records s.sound s.laid s.linked))

pub invariant_of-self : goal.invariant_of-self
invariant_of-self c =
    let s = c.args.self.now in
    let w = entered s.top s.tables.slots.now s.tables.buckets.now s.tables.order (record { even = s.even; roomy = s.roomy; parts = record { laid_all = s.laid; linked = s.linked; finds = s.finds; sums = s.sums; sound = s.sound } }) c.args.number c.in-Err.i c.in-Free.j (record { number = c.args.number; slot = c.len-n.result })
    c.enter.new.self.slots.now c.enter.new.self.buckets.now c.enter.new.self.order _ refl c.len-n.ensures (omega arith) (omega arith)
    (omega (arith, c.len-n.ensures)) (c.in-Err.ensures (up s.top s.tables.slots.now s.tables.buckets.now s.tables.order.records s.sound s.laid s.linked)) c.in-Free.ensures.0 c.in-Free.ensures.1 c.in-Free.ensures.3
    (c.enter.ensures.slots ∙ ap (λ a. set s.tables.slots.now c.len-n.result a) c.new_account.ensures ∙ ap (λ k. set s.tables.slots.now k (fresh c.args.number)) c.len-n.ensures)
    c.enter.ensures.buckets c.enter.ensures.order in
    record { even = w.1.even; roomy = w.1.roomy; laid = w.1.parts.laid_all; linked = w.1.parts.linked; finds = w.1.parts.finds; sums = w.1.parts.sums; sound = w.1.parts.sound }

pub returns-clause-answer : goal.returns-clause-answer
returns-clause-answer c =
    let s = c.args.self.now in
    open_made (store_of s.top s.tables.slots.now s.tables.order.records) c.args.number c.if-number-eq0.false (omega arith)
    (none_of s.top s.tables.slots.now s.tables.buckets.now s.tables.order.records s.sound s.laid s.linked c.args.number (omega arith) (sym (s.finds c.args.number (omega arith)) ∙ c.in-Free.ensures.2) (λ _. 1))
    (omega (arith, c.len-n.ensures, length-map s.tables.order.records (lying s.tables.slots.now)))

pub returns-clause-after : goal.returns-clause-after
returns-clause-after c =
    let s = c.args.self.now in
    (entered s.top s.tables.slots.now s.tables.buckets.now s.tables.order (record { even = s.even; roomy = s.roomy; parts = record { laid_all = s.laid; linked = s.linked; finds = s.finds; sums = s.sums; sound = s.sound } }) c.args.number c.in-Err.i c.in-Free.j (record { number = c.args.number; slot = c.len-n.result })
    c.enter.new.self.slots.now c.enter.new.self.buckets.now c.enter.new.self.order _ refl c.len-n.ensures (omega arith) (omega arith)
    (omega (arith, c.len-n.ensures)) (c.in-Err.ensures (up s.top s.tables.slots.now s.tables.buckets.now s.tables.order.records s.sound s.laid s.linked)) c.in-Free.ensures.0 c.in-Free.ensures.1 c.in-Free.ensures.3
    (c.enter.ensures.slots ∙ ap (λ a. set s.tables.slots.now c.len-n.result a) c.new_account.ensures ∙ ap (λ k. set s.tables.slots.now k (fresh c.args.number)) c.len-n.ensures)
    c.enter.ensures.buckets c.enter.ensures.order).0
