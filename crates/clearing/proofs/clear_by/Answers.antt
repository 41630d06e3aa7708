use Rattle.std.proofs.Common.{◌≡◌, List, None, refl, ◌∙◌}
use Rattle.terms.specs.declared.Transaction.{Transaction}
use Rattle.blocks.specs.declared.decoded.DecodedBlock.{DecodedBlock}
use Rattle.blocks.specs.Decoded.{block_of}
use Rattle.exchange.specs.State.{State}
use Rattle.exchange.specs.Faults.{Verdict}
use Rattle.exchange.specs.Commit.{Sound}
use Rattle.tally.specs.declared.effects.Net.{Net}
use Rattle.judging_balances.specs.declared.Slot.{Slot}
use Rattle.clearing.specs.Clear.{Nets}
use Rattle.clearing.proofs.Clears.{Start, can_leave, can_enter, in_trade, can_apply, ready, can_raise, can_open, cleared}
use Rattle.clearing.proofs.clear_by.Goals as goal

start : (s : State) (d : DecodedBlock) (ts : List Transaction) (ns : List (Net Slot)) → ts ≡ (block_of d).transactions
    → Sound s → Verdict s (block_of d) None → Nets s (block_of d) ns → Start s (block_of d) ts ns
start s d ts ns e so clean nets = record { sound = so; clean = clean; ranges = d.ranges; reads = e; nets = nets }

pub returns-in_err-cancel_offers : goal.returns-in_err-cancel_offers
returns-in_err-cancel_offers g c = λ s so clean nets.
    let st = start _ c.args.block.now _ _ c.transactions-transactions.ensures so clean nets in
    absurd (c.in_err-cancel_offers.ensures (can_leave _ _ _ _ st))

pub returns-in_err-place_offers : goal.returns-in_err-place_offers
returns-in_err-place_offers g c = λ s so clean nets.
    let st = start _ c.args.block.now _ _ c.transactions-transactions.ensures so clean nets in
    absurd (c.in_err-place_offers.ensures (can_enter _ _ _ _ st _ c.in_ok-cancel_offers.ensures))

pub returns-in_err-apply_nets : goal.returns-in_err-apply_nets
returns-in_err-apply_nets g c = λ s so clean nets.
    let st = start _ c.args.block.now _ _ c.transactions-transactions.ensures so clean nets in
    absurd (c.in_err-apply_nets.ensures (can_apply _ _ _ _ st))

pub returns-in_err-paid : goal.returns-in_err-paid
returns-in_err-paid g c = λ s so clean nets.
    let st = start _ c.args.block.now _ _ c.transactions-transactions.ensures so clean nets in
    let applied = c.in_ok-apply_nets.ensures in
    absurd (c.in_err-paid.ensures.filled _ (ready _ _ _ _ st _ applied)
    (in_trade _ _ _ _ st _ c.in_ok-cancel_offers.ensures _ c.in_ok-place_offers.ensures))

pub returns-in_err-raise_floors : goal.returns-in_err-raise_floors
returns-in_err-raise_floors g c = λ s so clean nets.
    let st = start _ c.args.block.now _ _ c.transactions-transactions.ensures so clean nets in
    let applied = c.in_ok-apply_nets.ensures in
    let filled = c.in_ok-paid.ensures.filled _ (ready _ _ _ _ st _ applied)
    (in_trade _ _ _ _ st _ c.in_ok-cancel_offers.ensures _ c.in_ok-place_offers.ensures) in
    absurd (c.in_err-raise_floors.ensures (can_raise _ _ _ _ st _ applied _ _ _ filled))

pub returns-in_err-open_accounts : goal.returns-in_err-open_accounts
returns-in_err-open_accounts g c = λ s so clean nets.
    let st = start _ c.args.block.now _ _ c.transactions-transactions.ensures so clean nets in
    let applied = c.in_ok-apply_nets.ensures in
    let filled = c.in_ok-paid.ensures.filled _ (ready _ _ _ _ st _ applied)
    (in_trade _ _ _ _ st _ c.in_ok-cancel_offers.ensures _ c.in_ok-place_offers.ensures) in
    absurd (c.in_err-open_accounts.ensures (can_open _ _ _ _ st _ applied _ _ _ filled _ c.in_ok-raise_floors.ensures))

pub returns : goal.returns
returns g c = λ s so clean nets.
    let st = start _ c.args.block.now _ _ c.transactions-transactions.ensures so clean nets in
    let left = c.in_ok-cancel_offers.ensures in
    let entered = c.in_ok-place_offers.ensures in
    let applied = c.in_ok-apply_nets.ensures in
    let filled = c.in_ok-paid.ensures.filled _ (ready _ _ _ _ st _ applied) (in_trade _ _ _ _ st _ left _ entered) in
    cleared _ _ _ _ st _ applied _ _ _ filled _ c.in_ok-raise_floors.ensures _ _ _ _ c.in_ok-open_accounts.ensures
    (c.in_ok-paid.ensures.kept ∙ entered.capacity ∙ left.capacity) refl c.volumes.ensures c.renew.ensures
