use Rattle.std.proofs.Common.{ltb, [], ◌∷◌, refl, ◌∙◌, arith}
use Rattle.std.proofs.lemmas.Bool.Decides.{nat_tests}
use Rattle.std.specs.List.{flat_map}
use Rattle.tally.specs.Least.{spot}
use Rattle.tally.proofs.Tells.{told_by}
use Rattle.tally.proofs.Nets.{told_nets}
use Rattle.judging_repeats.specs.Counts.{ones, tagged}
use Rattle.judging_repeats.proofs.Counted.{times, times_tagged}
use Rattle.judging_repeats.proofs.tags_differ.Goals as goal

pub returns-clause-row : goal.returns-clause-row
returns-clause-row c =
    let ts = c.args.transactions.now in
    let t = c.in_ok-nets.ensures.1 in
    λ _.
    told_by _ _ 13 c.report.result
    (λ i j e. let o = times spot tagged ts (i ∷ j ∷ []) ∙ times_tagged ts (i ∷ j ∷ []) in grind (arith, nat_tests))
    (λ i j h. let o = times spot tagged ts (i ∷ j ∷ []) ∙ times_tagged ts (i ∷ j ∷ []) in grind (arith, nat_tests))
    (told_nets spot (λ p. p.first) (λ p. p.second) (λ _. refl) (λ _ _ p _. ltb 1 p) (λ _ _. refl) (flat_map (λ t. ones (tagged t)) ts) _ t 13 c.report.result (c.report.ensures tt))
