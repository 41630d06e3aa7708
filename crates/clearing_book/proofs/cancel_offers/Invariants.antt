use Rattle.std.proofs.Common.{take}
use Rattle.std.specs.List.{flat_map}
use Rattle.exchange.specs.Trade.{cancelled}
use Rattle.clearing_book.specs.Entries.{Left}
use Rattle.clearing_book.proofs.cancel_offers.Given as goal

abbrev pub invariant-loop-t : goal.invariant-loop-t
invariant-loop-t g l =
    Left (flat_map cancelled (take l.t-index l.transactions)) (g.B.OfferBook.book l.initial.book) (g.B.OfferBook.book l.book)
