use Rattle.std.proofs.Common.{arith}
use Rattle.tally.proofs.Tells.{told_once, told_no}
use Rattle.judging_room.proofs.offers_fit.Goals as goal

pub returns-then-room-wanted-clause-row : goal.returns-then-room-wanted-clause-row
returns-then-room-wanted-clause-row g c = λ few. told_once _ _ 20 c.into-then-room-wanted.ensures (omega (arith, c.placements-new.ensures, c.cancellations-gone.ensures))

pub returns-clause-row : goal.returns-clause-row
returns-clause-row g c = λ few. told_no _ (λ p. omega (arith, p, c.placements-new.ensures, c.cancellations-gone.ensures))
