use Rattle.std.proofs.Common.{sym, ◌∙◌, arith}
use Rattle.offers.proofs.Sound.{book_parts}
use Rattle.offers.proofs.Replaces.{ends}
use Rattle.offers.proofs.replace.Goals as goal

pub returns : goal.returns
returns g c =
    let b = g.B.OfferBook.book c.args.book.now in
    let b_sound = g.met.B.OfferBook.sound c.args.book.now in
    let e = ends b (g.B.OfferBook.book c.reduce.new.self) (g.B.OfferBook.book c.place.new.self) c.args.old c.args.new c.args.units c.place.result
    (book_parts b b_sound) (omega arith) (sym c.is_taken.ensures ∙ c.if-is_taken.false) (sym c.in_range.ensures ∙ c.if-not-in_range.false)
    c.in_ok-reduce.ensures.after c.place.ensures.answer c.place.ensures.after in
    record { answer = e.0; after = e.1 }
