use Rattle.std.proofs.Common.{◌&&◌, eqb, leb, arith}
use Rattle.offers.proofs.Sound.{part_fits}
use Rattle.ordered_book.specs.Rows.{book_of}
use Rattle.ordered_book.proofs.Slots.{ok}
use Rattle.ordered_book.proofs.OrderedBookOfferBook.up_to.Goals as goal

pub returns : goal.returns
returns c =
    let s = c.args.self.now in
    omega (arith, c.sum.ensures, part_fits (book_of s.table) (λ o. eqb o.key.sold c.args.sold && (eqb o.key.bought c.args.bought && leb o.key.limit c.args.limit)) (ok s.table s.sound))
