use Rattle.std.proofs.Common.{sym, ◌∙◌, subst, arith}
use Rattle.std.proofs.lemmas.Option.{get_or_from_slice_get}
use Rattle.terms.specs.Order.{place, words}
use Rattle.ordered.proofs.Cuts.{sought_some, sought_none}
use Rattle.ordered.proofs.Shift.{none_past}
use Rattle.ordered_book.specs.Rows.{Found}
use Rattle.ordered_book.proofs.Slots.{ok, amount_none}
use Rattle.ordered_book.proofs.OrderedBook.find.Goals as goal

pub returns-in_err-i : goal.returns-in_err-i
returns-in_err-i c =
    let s = c.args.self.now in
    let (i, gap) = sought_none place s.table.records (words c.args.key) c.search.result (sym c.ok.ensures.value ∙ c.in_err-i.was) (c.search.ensures (ok s.table s.sound).up) in
    subst (Found s.table.records c.args.key) (sym c.from_residual.ensures) (amount_none s.table s.sound c.args.key i gap)

-- a place that the search gave is never past the end
pub returns-in_err-offer : goal.returns-in_err-offer
returns-in_err-offer c =
    let s = c.args.self.now in
    let at = sought_some place s.table.records (words c.args.key) c.search.result c.in_ok-i.i (sym c.ok.ensures.value ∙ c.in_ok-i.was) (c.search.ensures (ok s.table s.sound).up) in
    absurd (omega (arith, at.within, none_past s.table.records c.in_ok-i.i (sym c.get.ensures ∙ c.in_err-offer.was)))

pub returns : goal.returns
returns c =
    let s = c.args.self.now in (
      sought_some place s.table.records (words c.args.key) c.search.result c.in_ok-i.i (sym c.ok.ensures.value ∙ c.in_ok-i.was) (c.search.ensures (ok s.table s.sound).up),
      sym (get_or_from_slice_get s.table.records c.in_ok-i.i c.in_ok-offer.offer c.in_ok-offer.offer (sym c.get.ensures ∙ c.in_ok-offer.was)),
    )
