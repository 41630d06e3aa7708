use Rattle.std.proofs.Common.{take}
use Rattle.std.specs.List.{flat_map}
use Rattle.exchange.specs.Trade.{placed}
use Rattle.clearing_book.specs.Entries.{Entered}
use Rattle.clearing_book.proofs.place_offers.Given as goal

abbrev pub invariant-loop-t : goal.invariant-loop-t
invariant-loop-t g l =
    Entered (flat_map placed (take l.t-index l.transactions)) (g.B.OfferBook.book l.initial.book) (g.B.OfferBook.book l.book)
