use Rattle.std.proofs.Common.{◌≡◌, true, refl, subst}
use Rattle.std.specs.List.{flat_map}
use Rattle.tally.specs.Least.{Told, spot}
use Rattle.tally.proofs.Nets.{told_nets}
use Rattle.founding.specs.Judged.{once, is_bad}
use Rattle.founding.proofs.Verdicts.{tallied, told_accounts}
use Rattle.founding.proofs.accounts_good.Goals as goal

pub returns-clause-row : goal.returns-clause-row
returns-clause-row g c =
    let gs = c.args.grants.now in
    let st = (g.S.AccountStore.store c.args.store.now) in
    let t = c.in_ok-nets.ensures.1 in
    λ _.
    told_accounts st gs c.report.result
    (subst (λ top. Told (λ i j. is_bad top i (tallied gs i j) ≡ true) 15 c.report.result) c.top.ensures
    (told_nets spot (λ p. p.first) (λ p. p.second) (λ _. refl) (λ i _ p _. is_bad c.top.result i p) (λ _ _. refl) (flat_map once gs) _ t 15 c.report.result (c.report.ensures tt)))
