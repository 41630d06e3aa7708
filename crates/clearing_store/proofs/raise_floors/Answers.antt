use Rattle.std.proofs.Common.{subst}
use Rattle.std.proofs.lemmas.List.{take_all}
use Rattle.std.proofs.lemmas.Result.{MatchResult-from_err}
use Rattle.terms.specs.declared.Transaction.{Transaction}
use Rattle.terms.specs.declared.Action.TheVariants.{Create}
use Rattle.clearing_book.proofs.Passes.{each_more, each_next}
use Rattle.clearing_store.specs.Changes.{Raised, CanRaise}
use Rattle.clearing_store.proofs.Changing.{none_raised, raise_next, raised_more}
use Rattle.clearing_store.proofs.raise_floors.Goals as goal

abbrev none : Transaction
none = record { source = 0; sequence = 0; action = Create 0 }

pub loop-t-init : goal.loop-t-init
loop-t-init g c = none_raised _

pub loop-t-preserved : goal.loop-t-preserved
loop-t-preserved g c =
    each_more Raised raised_more CanRaise raise_next c.args.transactions.now c.loop-t.t-index none c.loop-t-test.true _ _ _
    c.loop-t.invariant c.in_ok-raise.ensures

pub returns-in_err-raise : goal.returns-in_err-raise
returns-in_err-raise g c =
    MatchResult-from_err c.from_residual.result _ _ c.from_residual.ensures.0
    (λ _ can. c.in_err-raise.ensures
    (each_next Raised raised_more CanRaise raise_next c.args.transactions.now c.loop-t.t-index none c.loop-t-test.true _ _ can c.loop-t.invariant))

pub returns : goal.returns
returns g c =
    subst (λ l. Raised l (g.S.AccountStore.store c.args.store.now) (g.S.AccountStore.store c.loop-t.store))
    (take_all c.loop-t.t-index c.args.transactions.now c.loop-t-test.false) c.loop-t.invariant
