-- From what a report tells of nets to the sums of the effects. Assumes nothing.
use Rattle.std.proofs.Common.{◌≡◌, ℕ, ◌+◌, ◌-◌, ◌<◌, Bool, true, false, cond, ◌⊎◌, List, [], ◌∷◌, ◌++◌, length, get_or, take, Result, sym, refl, ap, ◌∙◌, subst, ap₂, inl, inr, arith}
use Rattle.std.specs.List.{ContainsAt as Has, flat_map}
use Rattle.std.proofs.lemmas.Bool.{cases_Bool, both_ways, cond-false}
use Rattle.std.proofs.lemmas.List.Sums.{sum_by-cons}
use Rattle.std.proofs.lemmas.List.{take_more, append_assoc, flat_map_more}
use Rattle.std.proofs.ByRecursion.{all-has, has_append_right}
use Rattle.terms.specs.declared.Fault.{Fault}
use Rattle.terms.specs.Order.{same, Rising, under}
use Rattle.terms.proofs.Order.{same_is}
use Rattle.ordered.proofs.Rising.{under_each}
use Rattle.tally.specs.declared.effects.Effect.{Effect}
use Rattle.tally.specs.declared.effects.Net.{Net}
use Rattle.tally.specs.Least.{Told, Broken}
use Rattle.tally.specs.Tally.{Tallied}
use Rattle.tally.proofs.Tells.{told_by}

-- nothing stands under a key, or some entry does
pub found : {X : Type 0} (key : X → List ℕ) (xs : List X) (k : List ℕ)
    → ((f : X → ℕ) → under key f xs k ≡ 0) ⊎ ((x : X) × Has xs x × (key x ≡ k))
found key [] k = inl (λ f. refl)
found key (x ∷ xs) k =
    elim (cases_Bool (same (key x) k)) [
      | inl p ↦ inr (x, (0, omega arith, λ d. refl), same_is (key x) k p)
      | inr p ↦ elim (found key xs k) [
        | inl z ↦ inl (λ f. omega (arith, sum_by-cons (λ y. cond (same (key y) k) (f y) 0) x xs, cond-false (same (key x) k) (f x) 0 p, z f))
        | inr (y, m, e) ↦ inr (y, has_append_right (x ∷ []) xs y m, e)
      ]
    ]

-- an entry of a rising list has what stands under its key
pub standing : {X : Type 0} (key : X → List ℕ) (f : X → ℕ) (xs : List X) → Rising key xs → (x : X) → Has xs x → under key f xs (key x) ≡ f x
standing key f xs up x m = all-has _ xs x (under_each key f xs up) m

-- a test of the key's two numbers and of the sums, which passes at no sums
module _ {K : Type 0} (w : K → List ℕ) (first second : K → ℕ) (is : (k : K) → w k ≡ first k ∷ second k ∷ [])
    (over : ℕ → ℕ → ℕ → ℕ → Bool) (none : (i j : ℕ) → over i j 0 0 ≡ false) (es : List (Effect K)) (ns : List (Net K)) (t : Tallied w es ns) where
  abbrev pub test : Net K → Bool
  test n = over (first n.key) (second n.key) n.plus n.minus

  abbrev pub Over : ℕ → ℕ → Type 0
  Over i j = over i j (under (λ e. w e.key) (λ e. e.plus) es (i ∷ j ∷ [])) (under (λ e. w e.key) (λ e. e.minus) es (i ∷ j ∷ [])) ≡ true

  at : (n : Net K) (i j : ℕ) → Has ns n → first n.key ≡ i → second n.key ≡ j
      → over i j (under (λ e. w e.key) (λ e. e.plus) es (i ∷ j ∷ [])) (under (λ e. w e.key) (λ e. e.minus) es (i ∷ j ∷ [])) ≡ test n
  at n i j m p q =
      let k : w n.key ≡ i ∷ j ∷ [] = is n.key ∙ ap₂ (λ a b. a ∷ b ∷ []) p q in
      let u : under (λ e. w e.key) (λ e. e.plus) es (i ∷ j ∷ []) ≡ n.plus = sym (t.plus (i ∷ j ∷ [])) ∙ ap (under (λ x. w x.key) (λ x. x.plus) ns) (sym k) ∙ standing (λ x. w x.key) (λ x. x.plus) ns t.rising n m in
      let v : under (λ e. w e.key) (λ e. e.minus) es (i ∷ j ∷ []) ≡ n.minus = sym (t.minus (i ∷ j ∷ [])) ∙ ap (under (λ x. w x.key) (λ x. x.minus) ns) (sym k) ∙ standing (λ x. w x.key) (λ x. x.minus) ns t.rising n m in
      ap₂ (λ a b. over a b (under (λ e. w e.key) (λ e. e.plus) es (i ∷ j ∷ [])) (under (λ e. w e.key) (λ e. e.minus) es (i ∷ j ∷ []))) (sym p) (sym q)
      ∙ ap₂ (over (first n.key) (second n.key)) u v

  pub told_nets : (num : ℕ) (r : Result (Unit {0}) Fault)
      → Told (Broken (λ n. first n.key) (λ n. second n.key) test ns) num r → Told Over num r
  told_nets num r =
      told_by _ _ num r (λ i j (n, m, p, q, o). at n i j m p q ∙ o)
      (λ i j o.
      elim (found (λ x. w x.key) ns (i ∷ j ∷ [])) [
        | inl z ↦
            absurd (both_ways (over i j 0 0) (none i j)
            (ap₂ (over i j) (sym (z (λ x. x.plus)) ∙ t.plus (i ∷ j ∷ [])) (sym (z (λ x. x.minus)) ∙ t.minus (i ∷ j ∷ [])) ∙ o))
        | inr (n, m, k) ↦
            let e : first n.key ∷ second n.key ∷ [] ≡ i ∷ j ∷ [] = sym (is n.key) ∙ k in
            let p : first n.key ≡ i = cc in
            let q : second n.key ≡ j = cc in
            (n, m, p, q, sym (at n i j m p q) ∙ o)
      ])

-- `&s[0..n]` as the checker reads it
pub front : {K : Type 0} {w : K → List ℕ} {es : List (Effect K)} (ns : List (Net K)) (n : ℕ) → Tallied w es (take n ns) → Tallied w es (take (n - 0) ns)
front {w = w} {es = es} ns n t = let e : n ≡ n - 0 = omega arith in subst (λ k. Tallied w es (take k ns)) e t

-- one more entry gathered
pub gathered : {X E : Type 0} (f : X → List E) (ts : List X) (i : ℕ) (d : X) (xs a b out mid : List E) → i < length ts
    → out ≡ mid ++ b → mid ≡ xs ++ a → a ++ b ≡ f (get_or ts i d) → xs ≡ flat_map f (take i ts) → out ≡ flat_map f (take (i + 1) ts)
gathered f ts i d xs a b out mid l p q e h =
    p ∙ ap (λ z. z ++ b) q ∙ append_assoc xs a b ∙ ap (λ z. xs ++ z) e ∙ ap (λ z. z ++ f (get_or ts i d)) h
    ∙ flat_map_more f [] (take i ts) (get_or ts i d) ∙ ap (flat_map f) (sym (take_more ts i d l))
