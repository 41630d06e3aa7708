use Rattle.ordered_book.proofs.Slots.{ok}
use Rattle.ordered_book.proofs.OrderedBookOfferBook.next.Goals as goal

pub returns : goal.returns
returns c = let s = c.args.self.now in c.next.ensures (ok s.table s.sound).up
