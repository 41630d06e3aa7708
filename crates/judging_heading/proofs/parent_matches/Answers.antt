use Rattle.std.proofs.lemmas.Bool.{both_ways}
use Rattle.std.proofs.lemmas.Slice.Eq.{slice_eq-Decides}
use Rattle.tally.proofs.Tells.{told_once, told_no}
use Rattle.judging_heading.proofs.parent_matches.Goals as goal
use Rattle.std.proofs.lemmas.Bool.Decides.{Decides-eqb}

pub returns-then-eq : goal.returns-then-eq
returns-then-eq c = told_no _ (λ n. n ((slice_eq-Decides Decides-eqb _ _ _ c.eq.ensures).0 c.if-eq.true))

pub returns : goal.returns
returns c = told_once _ _ 9 c.into.ensures (λ e. both_ways c.eq.result c.if-eq.false ((slice_eq-Decides Decides-eqb _ _ _ c.eq.ensures).1 e))
