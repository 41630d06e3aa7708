use Rattle.std.proofs.Common.{◌≡◌, ◌-◌, ◌&&◌, eqb, leb, [], ◌∷◌, ap, ◌∙◌, arith}
use Rattle.terms.specs.Order.{words}
use Rattle.terms.specs.Holdings.{up_to}
use Rattle.offers.proofs.Sound.{book_parts, part_fits}
use Rattle.fills.proofs.Next.{between_fits}
use Rattle.fills.proofs.Ahead.{standing_split}
use Rattle.fills.proofs.standing.standing_ahead.Goals as goal

pub overflow_add-result : goal.overflow_add-result
overflow_add-result g c =
    let o = g.B.OfferBook.book c.args.book.now in
    let o_sound = g.met.B.OfferBook.sound c.args.book.now in
    let k = c.args.key in
    let low = part_fits o (λ p. eqb p.key.sold k.sold && (eqb p.key.bought k.bought && leb p.key.limit c.saturating_sub.result)) (book_parts o o_sound) in
    let same = between_fits o o_sound (k.sold ∷ k.bought ∷ k.limit ∷ 0 ∷ 0 ∷ []) (words k) in
    omega (arith, low, same, c.up_to-lower.ensures, c.sum_between.ensures)

pub returns : goal.returns
returns g c =
    let o = g.B.OfferBook.book c.args.book.now in
    let o_sound = g.met.B.OfferBook.sound c.args.book.now in
    let k = c.args.key in
    let low : c.up_to-lower.result ≡ up_to o k.sold k.bought (k.limit - 1) = c.up_to-lower.ensures ∙ ap (up_to o k.sold k.bought) c.saturating_sub.ensures in
    omega (arith, low, c.sum_between.ensures, standing_split o k (book_parts o o_sound).fit)
