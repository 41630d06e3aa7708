-- Sums over lists whose keys stand once each. Assumes nothing.
use Rattle.std.proofs.Common.{◌≡◌, ℕ, ◌+◌, ◌*◌, ◌<◌, ◌≤◌, Bool, true, false, cond, List, [], ◌∷◌, length, sum_by, filter, sym, refl, ap, ◌∙◌, inl, inr, arith}
use Rattle.std.specs.List.{ContainsAt as Has, flat_map, AllByRecursion}
use Rattle.std.proofs.lemmas.List.Sums.{sum_by-cons, sum_by-append, get_or-le-sum_by}
use Rattle.std.proofs.lemmas.Bool.{cond-true, cond-false, cases_Bool, cases_lt}
use Rattle.std.proofs.ByRecursion.{All-weaker, All-append, all_has_itself, has_append_right}
use Rattle.terms.specs.Order.{same, Rising, under}
use Rattle.terms.proofs.Order.{same_refl, same_is, same_sym}
use Rattle.exchange.proofs.Rising.{sum_by_zero, sum_by_same, all_of, absent}

pub if_true : (b : Bool) (x y : ℕ) → b ≡ true → cond b x y ≡ x
if_true b x y e = cond-true b x y e

pub if_false : (b : Bool) (x y : ℕ) → b ≡ false → cond b x y ≡ y
if_false b x y e = cond-false b x y e

pub all_2 : {X : Type 0} {P Q : X → Type 0} (R : X → Type 0) → ((x : X) → P x → Q x → R x) → (xs : List X) → AllByRecursion P xs → AllByRecursion Q xs → AllByRecursion R xs
all_2 R f [] a b = tt
all_2 R f (x ∷ xs) a b = (f x a.0 b.0, all_2 R f xs a.1 b.1)

pub all_joined : {X Y : Type 0} (P : Y → Type 0) (g : X → List Y) (xs : List X) → AllByRecursion (λ x. AllByRecursion P (g x)) xs → AllByRecursion P (flat_map g xs)
all_joined P g [] a = tt
all_joined P g (x ∷ xs) a = All-append P (g x) (flat_map g xs) a.0 (all_joined P g xs a.1)

pub all_by_has : {X : Type 0} (P : X → Type 0) (xs : List X) → ((x : X) → Has xs x → P x) → AllByRecursion P xs
all_by_has P xs h = All-weaker (Has xs) P h xs (all_has_itself xs)

pub sum_by_kept : {X : Type 0} (p : X → Bool) (f : X → ℕ) (xs : List X) → sum_by f (filter p xs) ≡ sum_by (λ x. cond (p x) (f x) 0) xs
sum_by_kept p f [] = refl
sum_by_kept p f (x ∷ xs) =
    split (p x) ∙ ap (λ n. cond (p x) (f x) 0 + n) (sum_by_kept p f xs) ∙ sym (sum_by-cons (λ y. cond (p y) (f y) 0) x xs)
  where
    split : (t : Bool) → sum_by f (cond t (x ∷ filter p xs) (filter p xs)) ≡ cond t (f x) 0 + sum_by f (filter p xs)
    split true = sum_by-cons f x (filter p xs)
    split false = omega arith

pub sum_by_joined : {X Y : Type 0} (f : Y → ℕ) (g : X → List Y) (xs : List X) → sum_by f (flat_map g xs) ≡ sum_by (λ x. sum_by f (g x)) xs
sum_by_joined f g [] = refl
sum_by_joined f g (x ∷ xs) =
    sum_by-append f (g x) (flat_map g xs) ∙ ap (λ n. sum_by f (g x) + n) (sum_by_joined f g xs) ∙ sym (sum_by-cons (λ y. sum_by f (g y)) x xs)

-- a length is a sum of ones
pub ones : {X : Type 0} (xs : List X) → length xs ≡ sum_by (λ _. 1) xs
ones [] = refl
ones (x ∷ xs) = omega (arith, ones xs, sum_by-cons (λ _. 1) x xs)

pub sum_by_scale : {X : Type 0} (v : ℕ) (f : X → ℕ) (xs : List X) → sum_by (λ x. v * f x) xs ≡ v * sum_by f xs
sum_by_scale v f [] = omega arith
sum_by_scale v f (x ∷ xs) = omega (arith, sum_by-cons (λ y. v * f y) x xs, ap (λ n. v * n) (sum_by-cons f x xs), sum_by_scale v f xs)

-- a member is at most the sum
pub member_le : {X : Type 0} (f : X → ℕ) (xs : List X) (x : X) → Has xs x → f x ≤ sum_by f xs
member_le f xs x (k, l, at) = omega (arith, get_or-le-sum_by f xs k x l, ap f (at x))

-- a sum above 0 has a member above 0
pub some_of : {X : Type 0} (f : X → ℕ) (xs : List X) → 0 < sum_by f xs → (x : X) × Has xs x × (0 < f x)
some_of f [] h = absurd (omega arith)
some_of f (x ∷ xs) h =
    elim (cases_lt 0 (f x)) [
      | inl p ↦ (x, (0, omega arith, λ d. refl), p)
      | inr p ↦
          let (y, m, q) = some_of f xs (omega (arith, sum_by-cons f x xs)) in
          (y, has_append_right (x ∷ []) xs y m, q)
    ]

module _ {X : Type 0} (key : X → List ℕ) where
  -- no key stands twice
  abbrev pub Once : List X → Type 0
  Once xs = (z : X) → under key (λ _. 1) xs (key z) ≤ 1

  pub gone : (xs : List X) (k : List ℕ) → under key (λ _. 1) xs k ≡ 0 → AllByRecursion (λ x. same (key x) k ≡ false) xs
  gone [] k e = tt
  gone (x ∷ xs) k e =
      let c = sum_by-cons (λ y. cond (same (key y) k) 1 0) x xs in (
        elim (cases_Bool (same (key x) k)) [ inl p ↦ absurd (omega (arith, c, e, if_true (same (key x) k) 1 0 p)) | inr p ↦ p ],
        gone xs k (omega (arith, c, e)),
      )

  pub under_gone : (f : X → ℕ) (xs : List X) (k : List ℕ) → under key (λ _. 1) xs k ≡ 0 → under key f xs k ≡ 0
  under_gone f xs k e = sum_by_zero _ xs (All-weaker _ _ (λ x p. if_false (same (key x) k) (f x) 0 p) xs (gone xs k e))

  pub once_less : (x : X) (xs : List X) → Once (x ∷ xs) → Once xs
  once_less x xs o z = omega (arith, o z, sum_by-cons (λ y. cond (same (key y) (key z)) 1 0) x xs)

  pub lookup : (f : X → ℕ) (xs : List X) → Once xs → AllByRecursion (λ x. under key f xs (key x) ≡ f x) xs
  lookup f [] o = tt
  lookup f (x ∷ xs) o = (
    omega (arith, sum_by-cons (at f x) x xs, if_true _ (f x) 0 (same_refl (key x)), under_gone f xs (key x) none),
    all_2 _ (λ y p q. omega (arith, sum_by-cons (at f y) x xs, p, if_false _ (f x) 0 (same_sym (key x) (key y) ∙ q))) xs
        (lookup f xs (once_less x xs o)) (gone xs (key x) none),
  )
    where
      at : (X → ℕ) → X → X → ℕ
      at g z y = cond (same (key y) (key z)) (g y) 0

      none : under key (λ _. 1) xs (key x) ≡ 0
      none = omega (arith, o x, sum_by-cons (at (λ _. 1) x) x xs, if_true _ 1 0 (same_refl (key x)))

  -- in a list that rises a key stands once at most
  pub rising_one : (xs : List X) → Rising key xs → (k : List ℕ) → under key (λ _. 1) xs k ≤ 1
  rising_one [] r k = omega arith
  rising_one (x ∷ xs) r k =
      elim (cases_Bool (same (key x) k)) [
        | inl p ↦ omega (arith, c, if_true _ 1 0 p, ap (under key (λ _. 1) xs) (same_is (key x) k p), absent key (λ _. 1) xs (key x) r.0)
        | inr p ↦ omega (arith, c, if_false _ 1 0 p, rising_one xs r.1 k)
      ]
    where
      c : under key (λ _. 1) (x ∷ xs) k ≡ cond (same (key x) k) 1 0 + under key (λ _. 1) xs k
      c = sum_by-cons (λ y. cond (same (key y) k) 1 0) x xs

  pub rising_once : (xs : List X) → Rising key xs → Once xs
  rising_once xs r z = rising_one xs r (key z)

  pub under_const : (v : ℕ) (xs : List X) (k : List ℕ) → under key (λ _. v) xs k ≡ v * under key (λ _. 1) xs k
  under_const v xs k =
      sum_by_same _ _ xs (all_of _ (λ x. elim (same (key x) k) as (λ t. cond t v 0 ≡ v * cond t 1 0) [ true ↦ omega arith | false ↦ omega arith ]) xs)
      ∙ sum_by_scale v (λ x. cond (same (key x) k) 1 0) xs
