use Rattle.std.proofs.Common.{◌≡◌, ◌+◌}
use Rattle.terms.specs.Order.{words}
use Rattle.fills.specs.Ahead.{between}
use Rattle.fills.proofs.standing.sum_between.Given as goal

abbrev pub invariant-loop-key : goal.invariant-loop-key
invariant-loop-key g l =
    l.total + between (words l.last) (words l.high) (g.B.OfferBook.book l.book).offers
    ≡ between (words l.initial.last) (words l.high) (g.B.OfferBook.book l.book).offers

abbrev pub decreases-loop-key : goal.decreases-loop-key
decreases-loop-key g l = between (words l.last) (words l.high) (g.B.OfferBook.book l.book).offers
