use Rattle.std.proofs.Common.{eqb, arith}
use Rattle.offers.proofs.Sound.{part_fits}
use Rattle.ordered_book.specs.Rows.{book_of}
use Rattle.ordered_book.proofs.Slots.{ok}
use Rattle.ordered_book.proofs.OrderedBookOfferBook.offered.Goals as goal

pub returns : goal.returns
returns c =
    let s = c.args.self.now in
    omega (arith, c.sum.ensures, part_fits (book_of s.table) (λ o. eqb o.key.sold c.args.sold) (ok s.table s.sound))
