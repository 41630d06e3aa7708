use Rattle.std.proofs.Common.{[], ◌∷◌, sym, ◌∙◌, subst, arith}
use Rattle.std.proofs.lemmas.Option.{get_or_from_slice_get}
use Rattle.terms.specs.Order.{name}
use Rattle.ordered.proofs.Cuts.{sought_some, sought_none}
use Rattle.ordered.proofs.Shift.{none_past}
use Rattle.sorted_store.specs.Rows.{Found}
use Rattle.sorted_store.proofs.Slots.{ok, none_at}
use Rattle.sorted_store.proofs.SortedStore.find.Goals as goal

pub returns-in_err-i : goal.returns-in_err-i
returns-in_err-i c =
    let s = c.args.self.now in
    let (i, gap) = sought_none name s.table.records (c.args.number ∷ []) c.search.result (sym c.ok.ensures.value ∙ c.in_err-i.was) (c.search.ensures (ok s.table s.top s.sound).up) in
    subst (Found s.table.records c.args.number) (sym c.from_residual.ensures) (none_at s.table s.top s.sound c.args.number i gap)

-- a place that the search gave is never past the end
pub returns-in_err-account : goal.returns-in_err-account
returns-in_err-account c =
    let s = c.args.self.now in
    let at = sought_some name s.table.records (c.args.number ∷ []) c.search.result c.in_ok-i.i (sym c.ok.ensures.value ∙ c.in_ok-i.was) (c.search.ensures (ok s.table s.top s.sound).up) in
    absurd (omega (arith, at.within, none_past s.table.records c.in_ok-i.i (sym c.get.ensures ∙ c.in_err-account.was)))

pub returns : goal.returns
returns c =
    let s = c.args.self.now in (
      sought_some name s.table.records (c.args.number ∷ []) c.search.result c.in_ok-i.i (sym c.ok.ensures.value ∙ c.in_ok-i.was) (c.search.ensures (ok s.table s.top s.sound).up),
      sym (get_or_from_slice_get s.table.records c.in_ok-i.i c.in_ok-account.account c.in_ok-account.account (sym c.get.ensures ∙ c.in_ok-account.was)),
    )
