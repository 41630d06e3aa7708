use Rattle.std.proofs.Common.{subst}
use Rattle.std.specs.List.{flat_map}
use Rattle.std.proofs.lemmas.List.{take_all}
use Rattle.std.proofs.lemmas.Result.{MatchResult-from_err}
use Rattle.terms.specs.declared.Transaction.{Transaction}
use Rattle.terms.specs.declared.Action.TheVariants.{Create}
use Rattle.exchange.specs.Trade.{cancelled}
use Rattle.clearing_book.specs.Entries.{Left, CanLeave}
use Rattle.clearing_book.proofs.Passes.{pass_more, pass_next}
use Rattle.clearing_book.proofs.Entering.{none_left, leave_next, left_more}
use Rattle.clearing_book.proofs.cancel_offers.Goals as goal

abbrev none : Transaction
none = record { source = 0; sequence = 0; action = Create 0 }

pub loop-t-init : goal.loop-t-init
loop-t-init g c = none_left _

pub loop-t-preserved : goal.loop-t-preserved
loop-t-preserved g c =
    pass_more Left left_more CanLeave leave_next cancelled c.args.transactions.now c.loop-t.t-index none c.loop-t-test.true _ _ _
    c.loop-t.invariant c.in_ok-cancel.ensures

pub returns-in_err-cancel : goal.returns-in_err-cancel
returns-in_err-cancel g c =
    MatchResult-from_err c.from_residual.result _ _ c.from_residual.ensures.0
    (λ _ can. c.in_err-cancel.ensures
    (pass_next Left left_more CanLeave leave_next cancelled c.args.transactions.now c.loop-t.t-index none c.loop-t-test.true _ _ can c.loop-t.invariant))

pub returns : goal.returns
returns g c =
    subst (λ l. Left (flat_map cancelled l) (g.B.OfferBook.book c.args.book.now) (g.B.OfferBook.book c.loop-t.book))
    (take_all c.loop-t.t-index c.args.transactions.now c.loop-t-test.false) c.loop-t.invariant
