-- From what a report tells to what is asked for. Assumes nothing.
use Rattle.std.proofs.Common.{◌≡◌, ℕ, false, [], ◌∷◌, Ok, Err, Result, sym, refl, subst, arith}
use Rattle.std.proofs.lemmas.Bool.Decides.{nat_tests}
use Rattle.terms.specs.declared.Fault.{Fault}
use Rattle.terms.specs.Order.{lower}
use Rattle.tally.specs.Least.{Told}

-- the same places, told in other words
pub told_by : (P Q : ℕ → ℕ → Type 0) (n : ℕ) (r : Result (Unit {0}) Fault)
    → ((i j : ℕ) → P i j → Q i j) → ((i j : ℕ) → Q i j → P i j) → Told P n r → Told Q n r
told_by P Q n (Ok _) to from t = λ i j q. t i j (from i j q)
told_by P Q n (Err f) to from (e, p, l) = (e, to _ _ p, λ i j q. l i j (from i j q))

-- no place is below the first
pub not_below_zero : (i j : ℕ) → lower (i ∷ j ∷ []) (0 ∷ 0 ∷ []) ≡ false
not_below_zero i j = grind (arith, nat_tests)

-- what has no place of its own is told at the first, or not at all
pub told_once : (P : Type 0) (f : Fault) (n : ℕ) → f ≡ record { number = n; first = 0; second = 0 } → P → Told (λ i j. P × (i ≡ 0) × (j ≡ 0)) n (Err f)
told_once P f n e p = subst (λ z. Told (λ i j. P × (i ≡ 0) × (j ≡ 0)) n (Err z)) (sym e) (refl, (p, refl, refl), λ i j _. not_below_zero i j)

pub told_no : (P : Type 0) → (P → ⊥) → (i j : ℕ) → P × (i ≡ 0) × (j ≡ 0) → ⊥
told_no P n i j (p, _, _) = n p
