use Rattle.std.proofs.Common.{◌≡◌, true, false, arith, rules}
use Rattle.terms.specs.Order.{lower, words}
use Rattle.fills.proofs.Next.{none_above, next_in, between_none, between_next, between_end, between_fits}
use Rattle.fills.proofs.standing.sum_between.Goals as goal

pub loop-key-init : goal.loop-key-init
loop-key-init g c = omega arith

pub returns-then-ge : goal.returns-then-ge
returns-then-ge g c =
    let o = g.B.OfferBook.book c.args.book.now in
    let o_sound = g.met.B.OfferBook.sound c.args.book.now in
    let n = next_in o o_sound (words c.loop-key.last) c.in-Some.key c.in-Some.ensures in
    let below : lower (words c.in-Some.key) (words c.args.high) ≡ false = search rules in
    let e = between_end o.offers (words c.loop-key.last) (words c.args.high) c.in-Some.key n below in
    omega (arith, e, c.loop-key.invariant)

pub overflow_add-total : goal.overflow_add-total
overflow_add-total g c =
    let o = g.B.OfferBook.book c.args.book.now in
    let o_sound = g.met.B.OfferBook.sound c.args.book.now in
    let n = next_in o o_sound (words c.loop-key.last) c.in-Some.key c.in-Some.ensures in
    let below : lower (words c.in-Some.key) (words c.args.high) ≡ true = search rules in
    let e = between_next o.offers (words c.loop-key.last) (words c.args.high) c.in-Some.key n below in
    omega (arith, e, c.loop-key.invariant, c.amount-total.ensures, between_fits o o_sound (words c.args.low) (words c.args.high))

pub loop-key-smaller : goal.loop-key-smaller
loop-key-smaller g c =
    let o = g.B.OfferBook.book c.args.book.now in
    let o_sound = g.met.B.OfferBook.sound c.args.book.now in
    let n = next_in o o_sound (words c.loop-key.last) c.in-Some.key c.in-Some.ensures in
    let below : lower (words c.in-Some.key) (words c.args.high) ≡ true = search rules in
    let e = between_next o.offers (words c.loop-key.last) (words c.args.high) c.in-Some.key n below in
    omega (arith, e, n.some)

pub loop-key-preserved : goal.loop-key-preserved
loop-key-preserved g c =
    let o = g.B.OfferBook.book c.args.book.now in
    let o_sound = g.met.B.OfferBook.sound c.args.book.now in
    let n = next_in o o_sound (words c.loop-key.last) c.in-Some.key c.in-Some.ensures in
    let below : lower (words c.in-Some.key) (words c.args.high) ≡ true = search rules in
    let e = between_next o.offers (words c.loop-key.last) (words c.args.high) c.in-Some.key n below in
    omega (arith, e, c.loop-key.invariant, c.amount-total.ensures)

pub returns : goal.returns
returns g c =
    let o = g.B.OfferBook.book c.args.book.now in
    let o_sound = g.met.B.OfferBook.sound c.args.book.now in
    let z = between_none o.offers (words c.loop-key.last) (words c.args.high) (none_above o.offers (words c.loop-key.last) c.in_default.ensures) in
    omega (arith, z, c.loop-key.invariant)
