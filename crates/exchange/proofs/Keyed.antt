-- Sums by keys, and the tests in them. Assumes nothing.
use Rattle.std.proofs.Common.{◌≡◌, ℕ, ◌*◌, ◌≤◌, Bool, true, false, cond, ◌&&◌, eqb, List, sum_by, sym, refl, ap, ◌∙◌, arith}
use Rattle.std.proofs.lemmas.Bool.{true≢false}
use Rattle.std.proofs.lemmas.Bool.Decides.{nat_tests}
use Rattle.terms.specs.Order.{same, under}
use Rattle.terms.proofs.Order.{same_is, same_sym}
use Rattle.exchange.proofs.Rising.{sum_by_zero, sum_by_same, all_of, swapped}
use Rattle.exchange.proofs.Sums.{under_const}

pub and_nest : (p q : Bool) (v : ℕ) → cond (p && q) v 0 ≡ cond (p && true) (cond q v 0) 0
and_nest true q v = refl
and_nest false q v = refl

pub and_only : (p : Bool) → p ≡ (p && true)
and_only true = refl
and_only false = refl

pub eqb_sym : (m n : ℕ) → eqb m n ≡ eqb n m
eqb_sym m n = grind (arith, nat_tests)

pub and_last : (p q r : Bool) → (p && (q && true)) ≡ false → (p && q && r) ≡ false
and_last true true r e = absurd (true≢false e)
and_last true false r e = refl
and_last false q r e = refl

pub and_flip : (r l : Bool) (a : ℕ) → cond (r && l) a 0 ≡ cond l (cond r a 0) 0
and_flip true true a = refl
and_flip true false a = refl
and_flip false true a = refl
and_flip false false a = refl

pub times : (p : Bool) (n a d : ℕ) → (p ≡ true → a ≡ d) → cond p (n * a) 0 ≡ d * cond p n 0
times true n a d h = ap (λ z. n * z) (h refl) ∙ omega arith
times false n a d h = omega arith

pub cond_le : (p : Bool) (v : ℕ) → cond p v 0 ≤ v
cond_le true v = omega arith
cond_le false v = omega arith

pub sum_by_cond : {X : Type 0} (p : Bool) (f : X → ℕ) (xs : List X) → cond p (sum_by f xs) 0 ≡ sum_by (λ x. cond p (f x) 0) xs
sum_by_cond true f xs = refl
sum_by_cond false f xs = sym (sum_by_zero (λ _. 0) xs (all_of (λ _. ◌≡◌ {A = ℕ} 0 0) (λ _. refl) xs))

pub through : (p q r : Bool) (a : ℕ) → (r ≡ true → p ≡ q) → cond p (cond r a 0) 0 ≡ cond r (cond q a 0) 0
through p q true a h = ap (λ z. cond z a 0) (h refl)
through true q false a h = refl
through false q false a h = refl

-- what the xs hold under the keys of the ys, summed over the ys: each x as often as its key stands there
pub by_keys : {X Y : Type 0} (key : X → List ℕ) (lock : Y → List ℕ) (p : X → Bool) (q : Y → Bool)
    → ((x : X) (y : Y) → key x ≡ lock y → q y ≡ p x)
    → (f : X → ℕ) (xs : List X) (ys : List Y)
    → sum_by (λ y. cond (q y) (under key f xs (lock y)) 0) ys ≡ sum_by (λ x. cond (p x) (f x) 0 * under lock (λ _. 1) ys (key x)) xs
by_keys key lock p q tied f xs ys =
    sum_by_same _ _ ys
    (all_of _
    (λ y. sum_by_cond (q y) (λ x. cond (same (key x) (lock y)) (f x) 0) xs
    ∙ sum_by_same _ (λ x. cond (same (key x) (lock y)) (cond (p x) (f x) 0) 0) xs
    (all_of _ (λ x. through (q y) (p x) (same (key x) (lock y)) (f x) (λ e. tied x y (same_is (key x) (lock y) e))) xs))
    ys)
    ∙ sym (swapped (λ x y. cond (same (key x) (lock y)) (cond (p x) (f x) 0) 0) xs ys)
    ∙ sum_by_same _ _ xs
    (all_of _
    (λ x. sum_by_same _ (λ y. cond (same (lock y) (key x)) (cond (p x) (f x) 0) 0) ys
    (all_of _ (λ y. ap (λ z. cond z (cond (p x) (f x) 0) 0) (same_sym (key x) (lock y))) ys)
    ∙ under_const lock (cond (p x) (f x) 0) ys (key x))
    xs)
