use Rattle.std.proofs.Common.{◌≡◌, ◌-◌, ◌*◌, ◌≤◌, [], ◌∷◌}
use Rattle.terms.specs.Holdings.{Store}
use Rattle.blocks.specs.Readable.{Block}
use Rattle.exchange.specs.State.{State}
use Rattle.exchange.specs.Trade.{volume}
use Rattle.clearing_walk.specs.Walk.{Priced, Walked, Going}
use Rattle.clearing_walk.proofs.walk_pair.Given as goal

abbrev pub invariant-loop-rest : goal.invariant-loop-rest
invariant-loop-rest g l =
    (l.rest ≤ l.initial.rest) × (l.out ≤ (l.initial.rest - l.rest) * l.rates.sold)
    × ((g.B.OfferBook.book l.book).capacity ≡ (g.B.OfferBook.book l.initial.book).capacity)
    × ((s : State) (b : Block) (first : Store) → Priced s b first l.initial.at.sold l.initial.at.bought l.rates
    → l.initial.rest ≡ volume b l.initial.at.sold l.initial.at.bought
    → Walked s b first (l.initial.at.sold ∷ l.initial.at.bought ∷ []) (g.S.AccountStore.store l.initial.store) (g.B.OfferBook.book l.initial.book).offers
    → Going s b first l.initial.at.sold l.initial.at.bought l.at l.rest l.out (g.S.AccountStore.store l.store) (g.B.OfferBook.book l.book).offers)

abbrev pub decreases-loop-rest : goal.decreases-loop-rest
decreases-loop-rest g l = l.rest
