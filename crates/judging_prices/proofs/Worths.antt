-- What is sold and bought of an asset, by its worth. Assumes nothing.
use Rattle.std.proofs.Common.{◌≡◌, ℕ, zero, suc, ◌*◌, ◌^◌, ◌<◌, ◌≤◌, Bool, true, cond, eqb, List, [], ◌∷◌, get_or, sum_by, Result, sym, refl, ap, ◌∙◌, subst, inl, inr, mul_comm, mul-le-mul, arith, lit<}
use Rattle.std.proofs.lemmas.Bool.{cases_Bool, eqb-true}
use Rattle.std.proofs.ByRecursion.{has_get_or, all-has}
use Rattle.std.specs.List.{ContainsAt as Has}
use Rattle.terms.specs.declared.Volume.{Volume}
use Rattle.terms.specs.declared.Fault.{Fault}
use Rattle.exchange.specs.Trade.{volume_of, price}
use Rattle.exchange.proofs.Rising.{sum_by_same, all_of}
use Rattle.exchange.proofs.Sums.{sum_by_scale}
use Rattle.tally.specs.Least.{Told, Broken}
use Rattle.tally.proofs.Tells.{told_by}
use Rattle.judging_rules.specs.Rows.{deal}
use Rattle.judging_prices.specs.Worth.{worth_of}

-- a product of 64 and 32 bits
pub small : (a p : ℕ) → a < 2 ^ 64 → p < 2 ^ 32 → a * p < 2 ^ 96
small a p h k =
    let f : a ≤ 18446744073709551615 = omega arith in
    let g : p ≤ 4294967295 = omega arith in
    let m : a * p ≤ 18446744073709551615 * 4294967295 = mul-le-mul f g in
    omega arith

pub worth_of_sold : (ps : List ℕ) (vs : List Volume) (x : ℕ) → sum_by (λ v. cond (eqb v.sold x) (worth_of ps v) 0) vs ≡ volume_of (deal ps vs []) x * price (deal ps vs []) x
worth_of_sold ps vs x =
    sum_by_same (λ v. cond (eqb v.sold x) (worth_of ps v) 0) (λ v. get_or ps x 0 * cond (eqb v.sold x) v.amount 0) vs (all_of _ each vs)
    ∙ sum_by_scale (get_or ps x 0) (λ v. cond (eqb v.sold x) v.amount 0) vs
    ∙ mul_comm (get_or ps x 0) _
  where
    each : (v : Volume) → cond (eqb v.sold x) (worth_of ps v) 0 ≡ get_or ps x 0 * cond (eqb v.sold x) v.amount 0
    each v =
        elim (cases_Bool (eqb v.sold x)) [
          | inl e ↦ rw e (ap (λ n. v.amount * get_or ps n 0) (eqb-true v.sold x e) ∙ mul_comm v.amount (get_or ps x 0))
          | inr e ↦ rw e (omega arith)
        ]

abbrev assets : List ℕ
assets = 0 ∷ 1 ∷ 2 ∷ 3 ∷ 4 ∷ 5 ∷ 6 ∷ 7 ∷ []

asset_at : (i : ℕ) → i < 8 → get_or assets i 0 ≡ i
asset_at zero h = refl
asset_at (suc zero) h = refl
asset_at (suc (suc zero)) h = refl
asset_at (suc (suc (suc zero))) h = refl
asset_at (suc (suc (suc (suc zero)))) h = refl
asset_at (suc (suc (suc (suc (suc zero))))) h = refl
asset_at (suc (suc (suc (suc (suc (suc zero)))))) h = refl
asset_at (suc (suc (suc (suc (suc (suc (suc zero))))))) h = refl
asset_at (suc (suc (suc (suc (suc (suc (suc (suc i)))))))) h = absurd (omega arith)

-- a rule on each asset
pub told_assets : (p : ℕ → Bool) (Q : ℕ → Type 0) (n : ℕ) (r : Result (Unit {0}) Fault) → ((x : ℕ) → p x ≡ true → Q x) → ((x : ℕ) → Q x → p x ≡ true)
    → Told (Broken (λ x. x) (λ _. 0) p assets) n r → Told (λ i j. (i < 8) × Q i × (j ≡ 0)) n r
told_assets p Q n r to from =
    told_by _ _ n r
    (λ i j (x, m, e, f, q). (subst (λ z. z < 8) e (all-has (λ z. z < 8) assets x (lit< tt, (lit< tt, (lit< tt, (lit< tt, (lit< tt, (lit< tt, (lit< tt, (lit< tt, tt)))))))) m), subst Q e (to x q), sym f))
    (λ i j (l, q, f). (i, subst (Has assets) (asset_at i l) (has_get_or assets i 0 (omega arith)), refl, sym f, from i q))
