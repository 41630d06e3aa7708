use Rattle.std.proofs.Common.{subst}
use Rattle.std.specs.List.{flat_map}
use Rattle.std.proofs.lemmas.List.{take_all}
use Rattle.std.proofs.lemmas.Result.{MatchResult-from_err}
use Rattle.terms.specs.declared.Transaction.{Transaction}
use Rattle.terms.specs.declared.Action.TheVariants.{Create}
use Rattle.exchange.specs.Trade.{placed}
use Rattle.clearing_book.specs.Entries.{Entered, CanEnter}
use Rattle.clearing_book.proofs.Passes.{pass_more, pass_next}
use Rattle.clearing_book.proofs.Entering.{none_entered, enter_next, entered_more}
use Rattle.clearing_book.proofs.place_offers.Goals as goal

abbrev none : Transaction
none = record { source = 0; sequence = 0; action = Create 0 }

pub loop-t-init : goal.loop-t-init
loop-t-init g c = none_entered _

pub loop-t-preserved : goal.loop-t-preserved
loop-t-preserved g c =
    pass_more Entered entered_more CanEnter enter_next placed c.args.transactions.now c.loop-t.t-index none c.loop-t-test.true _ _ _
    c.loop-t.invariant c.in_ok-place.ensures

pub returns-in_err-place : goal.returns-in_err-place
returns-in_err-place g c =
    MatchResult-from_err c.from_residual.result _ _ c.from_residual.ensures.0
    (λ _ can. c.in_err-place.ensures
    (pass_next Entered entered_more CanEnter enter_next placed c.args.transactions.now c.loop-t.t-index none c.loop-t-test.true _ _ can c.loop-t.invariant))

pub returns : goal.returns
returns g c =
    subst (λ l. Entered (flat_map placed l) (g.B.OfferBook.book c.args.book.now) (g.B.OfferBook.book c.loop-t.book))
    (take_all c.loop-t.t-index c.args.transactions.now c.loop-t-test.false) c.loop-t.invariant
