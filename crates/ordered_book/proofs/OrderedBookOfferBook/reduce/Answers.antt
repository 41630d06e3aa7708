use Rattle.std.proofs.Common.{Err, ap, ◌∙◌, subst, arith}
use Rattle.std.specs.Result.{result_ok}
use Rattle.offers.proofs.Replies.{reduce_more, reduce_made}
use Rattle.ordered_book.specs.Rows.{book_of, Found}
use Rattle.ordered_book.proofs.Slots.{amount_found, in_range, shrinks, takes}
use Rattle.ordered_book.proofs.OrderedBookOfferBook.reduce.Goals as goal

pub returns-then-units-offer-clause-answer : goal.returns-then-units-offer-clause-answer
returns-then-units-offer-clause-answer c =
    let s = c.args.self.now in
    let at = subst (Found s.table.records c.args.key) (c.ok_or.ensures.ok_part ∙ ap result_ok c.in_ok-i.was) c.find.ensures in
    let a = amount_found s.table s.sound c.args.key c.in_ok-i.i c.in_ok-i.offer at.0 at.1 in
    let h = in_range s.table s.sound c.args.key c.in_ok-i.i c.in_ok-i.offer at.0 in
    ap Err c.into.ensures ∙ reduce_more (book_of s.table) c.args.key c.args.units h.1 (omega (arith, a))

pub invariant_of-self : goal.invariant_of-self
invariant_of-self c =
    let s = c.args.self.now in
    let at = subst (Found s.table.records c.args.key) (c.ok_or.ensures.ok_part ∙ ap result_ok c.in_ok-i.was) c.find.ensures in
    record { sound = (takes s.table s.sound c.args.key c.args.units c.in_ok-i.i c.in_ok-i.offer c.remove.new.self _ at.0 at.1 c.if-units-eq0.true c.remove.ensures.after).1 }

pub returns-then-units-eq0-clause-answer : goal.returns-then-units-eq0-clause-answer
returns-then-units-eq0-clause-answer c =
    let s = c.args.self.now in
    let at = subst (Found s.table.records c.args.key) (c.ok_or.ensures.ok_part ∙ ap result_ok c.in_ok-i.was) c.find.ensures in
    let h = in_range s.table s.sound c.args.key c.in_ok-i.i c.in_ok-i.offer at.0 in
    reduce_made (book_of s.table) c.args.key c.args.units h.1 (omega arith)

pub returns-then-units-eq0-clause-after : goal.returns-then-units-eq0-clause-after
returns-then-units-eq0-clause-after c =
    let s = c.args.self.now in
    let at = subst (Found s.table.records c.args.key) (c.ok_or.ensures.ok_part ∙ ap result_ok c.in_ok-i.was) c.find.ensures in
    (takes s.table s.sound c.args.key c.args.units c.in_ok-i.i c.in_ok-i.offer c.remove.new.self _ at.0 at.1 c.if-units-eq0.true c.remove.ensures.after).0

pub invariant_of-self-else-units-eq0 : goal.invariant_of-self-else-units-eq0
invariant_of-self-else-units-eq0 c =
    let s = c.args.self.now in
    let at = subst (Found s.table.records c.args.key) (c.ok_or.ensures.ok_part ∙ ap result_ok c.in_ok-i.was) c.find.ensures in
    record { sound = (shrinks s.table s.sound c.args.key c.args.units c.in_ok-i.i c.in_ok-i.offer c.replace.new.self _ at.0 at.1 (omega arith) (omega arith) c.replace.ensures.after).1 }

pub returns-else-units-eq0-clause-after : goal.returns-else-units-eq0-clause-after
returns-else-units-eq0-clause-after c =
    let s = c.args.self.now in
    let at = subst (Found s.table.records c.args.key) (c.ok_or.ensures.ok_part ∙ ap result_ok c.in_ok-i.was) c.find.ensures in
    (shrinks s.table s.sound c.args.key c.args.units c.in_ok-i.i c.in_ok-i.offer c.replace.new.self _ at.0 at.1 (omega arith) (omega arith) c.replace.ensures.after).0
