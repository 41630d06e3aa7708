-- Lists whose keys rise: what stands under a key, and when two are equal. Sums in two ways. Assumes nothing.
use Rattle.std.proofs.Common.{◌≡◌, ℕ, ◌+◌, ◌<◌, ◌≤◌, true, false, cond, List, [], ◌∷◌, sum_by, sym, refl, ap, ◌∙◌, ap₂, inl, inr, arith}
use Rattle.std.specs.List.{AllByRecursion}
use Rattle.std.proofs.lemmas.List.Sums.{sum_by-cons}
use Rattle.std.proofs.lemmas.Bool.{cond-true, cond-false, cases_Bool}
use Rattle.std.proofs.ByRecursion.{All-weaker}
use Rattle.terms.specs.Order.{lower, same, Rising, under}
use Rattle.terms.proofs.Order.{total, transitive, apart, same_refl}

-- sums

pub sum_by_zero : {X : Type 0} (f : X → ℕ) (xs : List X) → AllByRecursion (λ x. f x ≡ 0) xs → sum_by f xs ≡ 0
sum_by_zero f [] h = refl
sum_by_zero f (x ∷ xs) h = omega (arith, sum_by-cons f x xs, sum_by_zero f xs h.1, h.0)

pub sum_by_same : {X : Type 0} (f g : X → ℕ) (xs : List X) → AllByRecursion (λ x. f x ≡ g x) xs → sum_by f xs ≡ sum_by g xs
sum_by_same f g [] h = refl
sum_by_same f g (x ∷ xs) h = omega (arith, sum_by-cons f x xs, sum_by-cons g x xs, sum_by_same f g xs h.1, h.0)

pub sum_by_grows : {X : Type 0} (f g : X → ℕ) (xs : List X) → AllByRecursion (λ x. f x ≤ g x) xs → sum_by f xs ≤ sum_by g xs
sum_by_grows f g [] h = omega arith
sum_by_grows f g (x ∷ xs) h = omega (arith, sum_by-cons f x xs, sum_by-cons g x xs, sum_by_grows f g xs h.1, h.0)

pub sum_by_plus : {X : Type 0} (f g : X → ℕ) (xs : List X) → sum_by (λ x. f x + g x) xs ≡ sum_by f xs + sum_by g xs
sum_by_plus f g [] = refl
sum_by_plus f g (x ∷ xs) =
    omega (arith, sum_by-cons f x xs, sum_by-cons g x xs, sum_by_plus f g xs, sum_by-cons (λ y. f y + g y) x xs)

pub all_of : {X : Type 0} (P : X → Type 0) → ((x : X) → P x) → (xs : List X) → AllByRecursion P xs
all_of P h [] = tt
all_of P h (x ∷ xs) = (h x, all_of P h xs)

-- a table summed by rows is summed by columns
pub swapped : {X Y : Type 0} (g : X → Y → ℕ) (xs : List X) (ys : List Y)
    → sum_by (λ x. sum_by (g x) ys) xs ≡ sum_by (λ y. sum_by (λ x. g x y) xs) ys
swapped g [] ys = sym (sum_by_zero (λ _. 0) ys (all_of (λ _. ◌≡◌ {A = ℕ} 0 0) (λ _. refl) ys))
swapped g (x ∷ xs) ys =
    sum_by-cons (λ z. sum_by (g z) ys) x xs
    ∙ ap (λ n. sum_by (g x) ys + n) (swapped g xs ys)
    ∙ sym (sum_by_plus (g x) (λ y. sum_by (λ z. g z y) xs) ys)
    ∙ sum_by_same _ _ ys (all_of _ (λ y. sym (sum_by-cons (λ z. g z y) x xs)) ys)

module _ {X : Type 0} (key : X → List ℕ) where
  pub absent : (f : X → ℕ) (xs : List X) (k : List ℕ) → AllByRecursion (λ y. lower k (key y) ≡ true) xs → under key f xs k ≡ 0
  absent f xs k h = sum_by_zero _ xs (All-weaker _ _ (λ y p. cond-false _ (f y) 0 (apart k (key y) p)) xs h)

  pub absent_below : (f : X → ℕ) (y : X) (ys : List X) (k : List ℕ) → Rising key (y ∷ ys) → lower k (key y) ≡ true → under key f (y ∷ ys) k ≡ 0
  absent_below f y ys k r p = absent f (y ∷ ys) k (p, All-weaker _ _ (λ z q. transitive k (key y) (key z) p q) ys r.0)

  pub here : (f : X → ℕ) (x : X) (xs : List X) → Rising key (x ∷ xs) → under key f (x ∷ xs) (key x) ≡ f x
  here f x xs r =
      omega (arith, sum_by-cons (λ y. cond (same (key y) (key x)) (f y) 0) x xs, absent f xs (key x) r.0, cond-true _ (f x) 0 (same_refl (key x)))

  -- two lists are equal where they hold the same under each key: F i x are the numbers of an entry x, one of them above 0
  module _ {I : Type 0} (F : I → X → ℕ) (P : X → Type 0) (i₀ : I) (some : (x : X) → P x → 0 < F i₀ x)
      (whole : (x y : X) → P x → P y → key x ≡ key y → ((i : I) → F i x ≡ F i y) → x ≡ y) where
    pub alike : (xs ys : List X) → Rising key xs → Rising key ys → AllByRecursion P xs → AllByRecursion P ys
        → ((i : I) (z : X) → under key (F i) xs (key z) ≡ under key (F i) ys (key z))
        → xs ≡ ys
    alike [] [] r q a b each = refl
    alike [] (y ∷ ys) r q a b each = absurd (omega (arith, each i₀ y, here (F i₀) y ys q, some y b.0))
    alike (x ∷ xs) [] r q a b each = absurd (omega (arith, each i₀ x, here (F i₀) x xs r, some x a.0))
    alike (x ∷ xs) (y ∷ ys) r q a b each =
        ap₂ ◌∷◌ head (alike xs ys r.1 q.1 a.1 b.1 (λ i z. rest (F i) (key z) (ap (F i) head) (each i z)))
      where
        not_lower : lower (key x) (key y) ≡ false
        not_lower =
            elim (cases_Bool (lower (key x) (key y))) [
              | inl p ↦ absurd (omega (arith, each i₀ x, here (F i₀) x xs r, some x a.0, absent_below (F i₀) y ys (key x) q p))
              | inr p ↦ p
            ]

        not_higher : lower (key y) (key x) ≡ false
        not_higher =
            elim (cases_Bool (lower (key y) (key x))) [
              | inl p ↦ absurd (omega (arith, each i₀ y, here (F i₀) y ys q, some y b.0, absent_below (F i₀) x xs (key y) r p))
              | inr p ↦ p
            ]

        same_key : key x ≡ key y
        same_key = total (key x) (key y) not_lower not_higher

        head : x ≡ y
        head =
            whole x y a.0 b.0 same_key
            (λ i. sym (here (F i) x xs r) ∙ each i x ∙ ap (under key (F i) (y ∷ ys)) same_key ∙ here (F i) y ys q)

        rest : (f : X → ℕ) (k : List ℕ) → f x ≡ f y → under key f (x ∷ xs) k ≡ under key f (y ∷ ys) k → under key f xs k ≡ under key f ys k
        rest f k e h =
            let g : X → ℕ = λ z. cond (same (key z) k) (f z) 0 in
            let c : g x ≡ g y = ap₂ (λ l n. cond (same l k) n 0) same_key e in
            omega (arith, sum_by-cons g x xs, sum_by-cons g y ys, c, h)
