-- From what a report tells of transactions to a row. Assumes nothing.
use Rattle.std.proofs.Common.{◌≡◌, ℕ, Bool, true, false, cond, not, ◌||◌, eqb, List, [], ◌∷◌, Result, sym, refl, subst, inl, inr, arith}
use Rattle.std.specs.List.{ContainsAt as Has, AllByRecursion}
use Rattle.std.proofs.lemmas.Bool.{cases_Bool}
use Rattle.std.proofs.lemmas.Bool.Decides.{nat_tests}
use Rattle.std.proofs.ByRecursion.{has_append_right, all-has, All-weaker}
use Rattle.terms.specs.declared.Transaction.{Transaction}
use Rattle.terms.specs.declared.Fault.{Fault}
use Rattle.tally.specs.Least.{Broken, Told}
use Rattle.tally.proofs.Tells.{told_by}
use Rattle.judging_rules.specs.Rows.{any}

pub any_has : {X : Type 0} (p : X → Bool) (xs : List X) → any p xs ≡ true → (x : X) × Has xs x × (p x ≡ true)
any_has p [] e = absurd (let z : ◌≡◌ {A = ℕ} 0 1 = cc in omega arith)
any_has p (x ∷ xs) e =
    elim (cases_Bool (p x)) [
      | inl q ↦ (x, (0, omega arith, λ d. refl), q)
      | inr q ↦
          let h : any p xs ≡ true = grind (arith, nat_tests) in
          let (y, m, r) = any_has p xs h in
          (y, has_append_right (x ∷ []) xs y m, r)
    ]

pub has_any : {X : Type 0} (p : X → Bool) (xs : List X) (x : X) → Has xs x → p x ≡ true → any p xs ≡ true
has_any {X = X} p xs x m q = all-has (λ z. p z ≡ true → any p xs ≡ true) xs x (go xs) m q
  where
    go : (ys : List X) → AllByRecursion (λ z. p z ≡ true → any p ys ≡ true) ys
    go [] = tt
    go (y ∷ ys) = ((λ e. grind (arith, nat_tests)), All-weaker _ _ (λ z f e. let h : any p ys ≡ true = f e in grind (arith, nat_tests)) ys (go ys))

-- a rule on source and sequence number
pub told_plain : (p : Transaction → Bool) (Q : ℕ → ℕ → Type 0) (ts : List Transaction) (n : ℕ) (r : Result (Unit {0}) Fault)
    → ((t : Transaction) → p t ≡ true → Q t.source t.sequence)
    → ((t : Transaction) → Q t.source t.sequence → p t ≡ true)
    → Told (Broken (λ t. t.source) (λ t. t.sequence) p ts) n r
    → Told (λ i j. (t : Transaction) × (Has ts t × (t.source ≡ i) × (t.sequence ≡ j)) × Q i j) n r
told_plain p Q ts n r to from =
    told_by _ _ n r
    (λ i j (t, m, e, f, q). (t, (m, e, f), subst (λ z. Q z j) e (subst (λ z. Q t.source z) f (to t q))))
    (λ i j (t, (m, e, f), q). (t, m, e, f, from t (subst (λ z. Q z t.sequence) (sym e) (subst (λ z. Q i z) (sym f) q))))

-- a rule on what a transaction asks for
pub told_any : {K : Type 0} (f : Transaction → List K) (p : K → Bool) (Q : K → Type 0) (ts : List Transaction) (n : ℕ) (r : Result (Unit {0}) Fault)
    → ((k : K) → p k ≡ true → Q k) → ((k : K) → Q k → p k ≡ true)
    → Told (Broken (λ t. t.source) (λ t. t.sequence) (λ t. any p (f t)) ts) n r
    → Told (λ i j. (t : Transaction) × (Has ts t × (t.source ≡ i) × (t.sequence ≡ j)) × ((k : K) × Has (f t) k × Q k)) n r
told_any f p Q ts n r to from =
    told_by _ _ n r
    (λ i j (t, m, e, g, q). let (k, h, o) = any_has p (f t) q in (t, (m, e, g), (k, h, to k o)))
    (λ i j (t, (m, e, g), (k, h, q)). (t, m, e, g, has_any p (f t) k h (from k q)))

-- one that does not stand, by itself
pub stands_not : (r : Bool) (n : ℕ) → cond r 1 0 ≡ n → not r ≡ (eqb n 0 || false)
stands_not true n e = subst (λ m. false ≡ (eqb m 0 || false)) e refl
stands_not false n e = subst (λ m. true ≡ (eqb m 0 || false)) e refl
