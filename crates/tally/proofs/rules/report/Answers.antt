use Rattle.std.proofs.Common.{◌≡◌, false, [], ◌∷◌, refl, subst, ap₂}
use Rattle.std.proofs.lemmas.Bool.{both_ways}
use Rattle.std.proofs.ByRecursion.{all-has}
use Rattle.terms.specs.Order.{lower}
use Rattle.tally.specs.Least.{spot}
use Rattle.tally.proofs.rules.report.Goals as goal

pub returns-in-None : goal.returns-in-None
returns-in-None g c = λ ready i j (t, m, e, f, q).
    both_ways (g.R.Rule.broken c.args.rule.now t) (all-has _ c.args.xs.now t (c.in-None.ensures ready) m) q

pub returns-in-Some : goal.returns-in-Some
returns-in-Some g c =
    λ ready.
    let p = c.in-Some.p in (
      refl,
      (c.in-Some.ensures ready).0,
      λ i j (t, m, e, f, q).
          subst (λ z. lower z (spot p) ≡ false) (ap₂ (λ a b. a ∷ b ∷ []) e f) (all-has _ c.args.xs.now t (c.in-Some.ensures ready).1 m q),
    )
