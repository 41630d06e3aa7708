use Rattle.std.proofs.Common.{◌≡◌, ◌<◌, ◌≤◌, true, cond, length, drop, Err, ap, ◌∙◌, arith}
use Rattle.std.proofs.lemmas.Bool.{cond-true, and_from, lt-ltb, le-leb}
use Rattle.std.specs.List.{insert}
use Rattle.terms.specs.declared.Account.{Account}
use Rattle.ordered.specs.Rows.{Rows}
use Rattle.accounts.proofs.Edits.{fresh}
use Rattle.accounts.proofs.Replies.{open_stands, open_full, open_made}
use Rattle.sorted_store.specs.Rows.{store_of}
use Rattle.sorted_store.proofs.Slots.{ok, one_at, none_at, opens, stays}
use Rattle.sorted_store.proofs.SortedStoreAccountStore.open.Goals as goal

pub returns-in_default-clause-answer : goal.returns-in_default-clause-answer
returns-in_default-clause-answer c =
    let s = c.args.self.now in
    ap Err c.into-in_default.ensures
    ∙ open_stands (store_of s.table s.top) c.args.number c.if-number-eq0.false (omega arith)
    (one_at s.table s.top s.sound _ _ (c.in_default.ensures (ok s.table s.top s.sound).up) (fresh 0))

pub returns-then-len-capacity-clause-answer : goal.returns-then-len-capacity-clause-answer
returns-then-len-capacity-clause-answer c =
    let s = c.args.self.now in
    let gap = c.in-Err.ensures (ok s.table s.top s.sound).up in
    let full : s.table.capacity ≤ length s.table.records = omega arith in
    ap Err c.into-then-len-capacity.ensures
    ∙ open_full (store_of s.table s.top) c.args.number c.if-number-eq0.false (omega arith) (none_at s.table s.top s.sound _ _ gap (λ _. 1)) full

pub invariant_of-self : goal.invariant_of-self
invariant_of-self c =
    let s = c.args.self.now in
    let room : length s.table.records < s.table.capacity = omega arith in
    record {
      sound = stays s.table s.top s.sound c.args.number c.in-Err.i c.insert.new.self _ c.insert.result (omega arith) (omega arith) (c.in-Err.ensures (ok s.table s.top s.sound).up) (λ _. room)
          (c.insert.ensures.after ∙ ap (λ a. cond c.insert.result (record { records = insert s.table.records c.in-Err.i a; capacity = s.table.capacity; free = drop 1 s.table.free }) s.table) c.new_account.ensures);
    }

pub returns-clause-answer : goal.returns-clause-answer
returns-clause-answer c =
    let s = c.args.self.now in
    let room : length s.table.records < s.table.capacity = omega arith in
    open_made (store_of s.table s.top) c.args.number c.if-number-eq0.false (omega arith)
    (none_at s.table s.top s.sound _ _ (c.in-Err.ensures (ok s.table s.top s.sound).up) (λ _. 1)) room

pub returns-clause-after : goal.returns-clause-after
returns-clause-after c =
    let s = c.args.self.now in
    let gap = c.in-Err.ensures (ok s.table s.top s.sound).up in
    let room : length s.table.records < s.table.capacity = omega arith in
    let to : Account → Rows Account = λ a. record { records = insert s.table.records c.in-Err.i a; capacity = s.table.capacity; free = drop 1 s.table.free } in
    (opens s.table s.top s.sound c.args.number c.in-Err.i c.insert.new.self _ (omega arith) (omega arith) gap room
    (c.insert.ensures.after ∙ cond-true c.insert.result _ _ (c.insert.ensures.done ∙ and_from _ _ (le-leb _ _ gap.within) (lt-ltb _ _ room)) ∙ ap to c.new_account.ensures)).0
