use Rattle.std.proofs.Common.{subst}
use Rattle.std.specs.List.{flat_map}
use Rattle.std.proofs.lemmas.List.{take_all}
use Rattle.std.proofs.lemmas.Result.{MatchResult-from_err}
use Rattle.terms.specs.declared.Transaction.{Transaction}
use Rattle.terms.specs.declared.Action.TheVariants.{Create}
use Rattle.exchange.specs.Trade.{created}
use Rattle.clearing_store.specs.Changes.{AllOpened, CanOpen}
use Rattle.clearing_book.proofs.Passes.{pass_more, pass_next}
use Rattle.clearing_store.proofs.Changing.{none_opened, open_next, opened_more}
use Rattle.clearing_store.proofs.open_accounts.Goals as goal

abbrev none : Transaction
none = record { source = 0; sequence = 0; action = Create 0 }

pub loop-t-init : goal.loop-t-init
loop-t-init g c = none_opened _

pub loop-t-preserved : goal.loop-t-preserved
loop-t-preserved g c =
    pass_more AllOpened opened_more CanOpen open_next created c.args.transactions.now c.loop-t.t-index none c.loop-t-test.true _ _ _
    c.loop-t.invariant c.in_ok-open.ensures

pub returns-in_err-open : goal.returns-in_err-open
returns-in_err-open g c =
    MatchResult-from_err c.from_residual.result _ _ c.from_residual.ensures.0
    (λ _ can. c.in_err-open.ensures
    (pass_next AllOpened opened_more CanOpen open_next created c.args.transactions.now c.loop-t.t-index none c.loop-t-test.true _ _ can c.loop-t.invariant))

pub returns : goal.returns
returns g c =
    subst (λ l. AllOpened (flat_map created l) (g.S.AccountStore.store c.args.store.now) (g.S.AccountStore.store c.loop-t.store))
    (take_all c.loop-t.t-index c.args.transactions.now c.loop-t-test.false) c.loop-t.invariant
