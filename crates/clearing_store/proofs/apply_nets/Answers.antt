use Rattle.std.proofs.Common.{subst}
use Rattle.std.proofs.lemmas.List.{take_all}
use Rattle.std.proofs.lemmas.Result.{MatchResult-from_err}
use Rattle.tally.specs.declared.effects.Net.{Net}
use Rattle.judging_balances.specs.declared.Slot.{Slot}
use Rattle.clearing_book.proofs.Passes.{each_more, each_next}
use Rattle.clearing_store.specs.Changes.{Applied, CanApply}
use Rattle.clearing_store.proofs.Changing.{none_applied, apply_next, applied_more}
use Rattle.clearing_store.proofs.apply_nets.Goals as goal

abbrev none : Net Slot
none = record { key = record { account = 0; asset = 0 }; plus = 0; minus = 0 }

pub loop-net-init : goal.loop-net-init
loop-net-init g c = none_applied _

pub loop-net-preserved : goal.loop-net-preserved
loop-net-preserved g c =
    each_more Applied applied_more CanApply apply_next c.args.nets.now c.loop-net.net-index none c.loop-net-test.true _ _ _
    c.loop-net.invariant c.in_ok-apply.ensures

pub returns-in_err-apply : goal.returns-in_err-apply
returns-in_err-apply g c =
    MatchResult-from_err c.from_residual.result _ _ c.from_residual.ensures.0
    (λ _ can. c.in_err-apply.ensures
    (each_next Applied applied_more CanApply apply_next c.args.nets.now c.loop-net.net-index none c.loop-net-test.true _ _ can c.loop-net.invariant))

pub returns : goal.returns
returns g c =
    subst (λ l. Applied l (g.S.AccountStore.store c.args.store.now) (g.S.AccountStore.store c.loop-net.store))
    (take_all c.loop-net.net-index c.args.nets.now c.loop-net-test.false) c.loop-net.invariant
