use Rattle.std.proofs.Common.{◌≡◌, length}
use Rattle.terms.specs.declared.Key.{Key}
use Rattle.terms.specs.Holdings.{amount_at}
use Rattle.blocks.specs.Readable.{Block}
use Rattle.exchange.specs.State.{State}
use Rattle.exchange.specs.Trade.{trading}
use Rattle.clearing_walk.specs.Walk.{Ready, Holds, Passing}
use Rattle.clearing_walk.proofs.walk_volumes.Given as goal

abbrev pub invariant-loop-v : goal.invariant-loop-v
invariant-loop-v g l =
    (length l.outs ≡ 8)
    × ((g.B.OfferBook.book l.book).capacity ≡ (g.B.OfferBook.book l.initial.book).capacity)
    × ((s : State) (b : Block) → Holds b l.prices l.volumes
    → Ready s b (g.S.AccountStore.store l.initial.store)
    → ((j : Key) → amount_at (g.B.OfferBook.book l.initial.book).offers j ≡ amount_at (trading s b) j)
    → Passing s b (g.S.AccountStore.store l.initial.store) l.v-index (g.S.AccountStore.store l.store) (g.B.OfferBook.book l.book).offers l.outs)
