use Rattle.judging_volumes.proofs.Supply.{told_volumes}
use Rattle.judging_volumes.proofs.volumes_supplied.Goals as goal

pub returns-clause-row : goal.returns-clause-row
returns-clause-row g c =
    let s = c.in_ok-nets.ensures in
    λ few once up.
    told_volumes (g.B.OfferBook.book c.args.book.now) c.args.prices.now c.args.volumes.now c.args.transactions.now up 21
    c.report.result (c.report.ensures (s.1, s.2, once))
