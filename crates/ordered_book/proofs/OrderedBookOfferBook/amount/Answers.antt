use Rattle.std.proofs.Common.{rules}
use Rattle.ordered_book.proofs.Slots.{found_amount}
use Rattle.ordered_book.proofs.OrderedBookOfferBook.amount.Goals as goal

pub returns : goal.returns
returns c = let s = c.args.self.now in found_amount s.table s.sound c.args.key c.find.result c.find.ensures c.map_or.result (search rules)
