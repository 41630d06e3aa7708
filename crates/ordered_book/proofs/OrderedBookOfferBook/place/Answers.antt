use Rattle.std.proofs.Common.{◌<◌, ◌≤◌, length, Err, sym, ap, ◌∙◌, rules, arith}
use Rattle.std.proofs.lemmas.Bool.{cond-true, and_from, lt-ltb, le-leb}
use Rattle.std.proofs.lemmas.Bool.Decides.{nat_tests}
use Rattle.offers.proofs.Replies.{place_stands, place_full, place_out, place_made}
use Rattle.ordered_book.specs.Rows.{book_of}
use Rattle.ordered_book.proofs.Slots.{ok, in_range, amount_none, places}
use Rattle.ordered_book.proofs.OrderedBookOfferBook.place.Goals as goal

pub returns-in_default-clause-answer : goal.returns-in_default-clause-answer
returns-in_default-clause-answer c =
    let s = c.args.self.now in
    ap Err c.into.ensures
    ∙ place_stands (book_of s.table) c.args.key c.args.units (in_range s.table s.sound c.args.key _ (record { key = c.args.key; amount = 0 }) (c.in_default.ensures (ok s.table s.sound).up)).1

pub returns-then-is_full-clause-answer : goal.returns-then-is_full-clause-answer
returns-then-is_full-clause-answer c =
    let s = c.args.self.now in
    let full : s.table.capacity ≤ length s.table.records = grind (arith, nat_tests, c.is_full.ensures, c.if-is_full.true) in
    let told = place_full (book_of s.table) c.args.key c.args.units (amount_none s.table s.sound c.args.key _ (c.in-Err.ensures (ok s.table s.sound).up)) full in
    search (rules, told)

pub returns-then-not-in_range-clause-answer : goal.returns-then-not-in_range-clause-answer
returns-then-not-in_range-clause-answer c =
    let s = c.args.self.now in
    let room : length s.table.records < s.table.capacity = grind (arith, nat_tests, c.is_full.ensures, c.if-is_full.false) in
    ap Err c.into-then-not-in_range.ensures
    ∙ place_out (book_of s.table) c.args.key c.args.units (amount_none s.table s.sound c.args.key _ (c.in-Err.ensures (ok s.table s.sound).up)) room
    (sym c.in_range.ensures ∙ c.if-not-in_range.true)

pub invariant_of-self : goal.invariant_of-self
invariant_of-self c =
    let s = c.args.self.now in
    let gap = c.in-Err.ensures (ok s.table s.sound).up in
    let room : length s.table.records < s.table.capacity = grind (arith, nat_tests, c.is_full.ensures, c.if-is_full.false) in
    let p = places s.table s.sound c.args.key c.args.units c.in-Err.i c.insert.new.self _ (sym c.in_range.ensures ∙ c.if-not-in_range.false) gap room
    (c.insert.ensures.after ∙ cond-true c.insert.result _ _ (c.insert.ensures.done ∙ and_from _ _ (le-leb _ _ gap.within) (lt-ltb _ _ room))) in
    record { sound = p.1 }

pub returns-clause-answer : goal.returns-clause-answer
returns-clause-answer c =
    let s = c.args.self.now in
    let room : length s.table.records < s.table.capacity = grind (arith, nat_tests, c.is_full.ensures, c.if-is_full.false) in
    place_made (book_of s.table) c.args.key c.args.units (amount_none s.table s.sound c.args.key _ (c.in-Err.ensures (ok s.table s.sound).up)) room
    (sym c.in_range.ensures ∙ c.if-not-in_range.false)

pub returns-clause-after : goal.returns-clause-after
returns-clause-after c =
    let s = c.args.self.now in
    let gap = c.in-Err.ensures (ok s.table s.sound).up in
    let room : length s.table.records < s.table.capacity = grind (arith, nat_tests, c.is_full.ensures, c.if-is_full.false) in
    (places s.table s.sound c.args.key c.args.units c.in-Err.i c.insert.new.self _ (sym c.in_range.ensures ∙ c.if-not-in_range.false) gap room
    (c.insert.ensures.after ∙ cond-true c.insert.result _ _ (c.insert.ensures.done ∙ and_from _ _ (le-leb _ _ gap.within) (lt-ltb _ _ room)))).0
