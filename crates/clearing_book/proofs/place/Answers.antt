use Rattle.std.proofs.Common.{subst}
use Rattle.clearing_book.specs.Entries.{EnteredOr}
use Rattle.clearing_book.proofs.Entering.{one_entered}
use Rattle.clearing_book.proofs.place.Goals as goal

pub returns-in-Some : goal.returns-in-Some
returns-in-Some g c =
    subst (λ os. EnteredOr os (g.B.OfferBook.book c.args.book.now) (g.B.OfferBook.book c.place.new.self) c.place.result) c.in-Some.ensures
    (one_entered _ _ _ c.place.result c.place.ensures.answer c.place.ensures.after)
