-- Taken in key order until a volume is used, the parts add up to the volume or to all there is. Assumes nothing.
use Rattle.std.proofs.Common.{◌≡◌, ℕ, ◌+◌, ◌-◌, min, true, false, cond, List, [], ◌∷◌, sum_by, sym, refl, ap, ◌∙◌, subst, inl, inr, arith}
use mathlib.Core.Path.{fun_ext}
use Rattle.std.specs.List.{AllByRecursion}
use Rattle.std.proofs.lemmas.List.Sums.{sum_by-cons}
use Rattle.std.proofs.lemmas.Bool.{cases_Bool, cond_both, both_ways}
use Rattle.std.proofs.ByRecursion.{All-weaker}
use Rattle.terms.specs.Order.{lower, same, Rising}
use Rattle.terms.proofs.Order.{transitive, irreflexive, total, same_refl, asymmetric}
use Rattle.exchange.proofs.Rising.{sum_by_zero, sum_by_same}
use Rattle.exchange.proofs.Sums.{if_true, if_false, Once, gone, once_less}

module _ {X : Type 0} (key : X → List ℕ) where
  abbrev insert : X → List X → List X
  insert x [] = x ∷ []
  insert x (y ∷ ys) = cond (lower (key x) (key y)) (x ∷ y ∷ ys) (y ∷ insert x ys)

  abbrev sorted : List X → List X
  sorted [] = []
  sorted (x ∷ xs) = insert x (sorted xs)

  insert_sum : (f : X → ℕ) (x : X) (ys : List X) → sum_by f (insert x ys) ≡ f x + sum_by f ys
  insert_sum f x [] = sum_by-cons f x []
  insert_sum f x (y ∷ ys) =
      cond_both (lower (key x) (key y)) (x ∷ y ∷ ys) (y ∷ insert x ys) (λ l. sum_by f l ≡ f x + sum_by f (y ∷ ys))
      (λ _. sum_by-cons f x (y ∷ ys))
      (λ _. omega (arith, sum_by-cons f y (insert x ys), insert_sum f x ys, sum_by-cons f y ys))

  sorted_sum : (f : X → ℕ) (xs : List X) → sum_by f (sorted xs) ≡ sum_by f xs
  sorted_sum f [] = refl
  sorted_sum f (x ∷ xs) = omega (arith, insert_sum f x (sorted xs), sorted_sum f xs, sum_by-cons f x xs)

  insert_all : (P : X → Type 0) (x : X) (ys : List X) → P x → AllByRecursion P ys → AllByRecursion P (insert x ys)
  insert_all P x [] p a = (p, tt)
  insert_all P x (y ∷ ys) p a =
      cond_both (lower (key x) (key y)) (x ∷ y ∷ ys) (y ∷ insert x ys) (AllByRecursion P) (λ _. (p, a)) (λ _. (a.0, insert_all P x ys p a.1))

  insert_rising : (x : X) (ys : List X) → AllByRecursion (λ y. same (key y) (key x) ≡ false) ys → Rising key ys → Rising key (insert x ys)
  insert_rising x [] a r = (tt, tt)
  insert_rising x (y ∷ ys) a r =
      cond_both (lower (key x) (key y)) (x ∷ y ∷ ys) (y ∷ insert x ys) (Rising key)
      (λ p. ((p, All-weaker _ _ (λ z q. transitive (key x) (key y) (key z) p q) ys r.0), r))
      (λ p. (insert_all _ x ys (other p) r.0, insert_rising x ys a.1 r.1))
    where
      other : lower (key x) (key y) ≡ false → lower (key y) (key x) ≡ true
      other p =
          elim (cases_Bool (lower (key y) (key x))) [
            | inl q ↦ q
            | inr q ↦ absurd (both_ways (same (key y) (key x)) a.0 (subst (λ k. same (key y) k ≡ true) (total (key y) (key x) q p) (same_refl (key y))))
          ]

  sorted_rising : (xs : List X) → Once key xs → Rising key (sorted xs)
  sorted_rising [] o = tt
  sorted_rising (x ∷ xs) o =
      insert_rising x (sorted xs)
      (gone key (sorted xs) (key x) (omega (arith, sorted_sum at xs, o x, sum_by-cons at x xs, if_true (same (key x) (key x)) 1 0 (same_refl (key x)))))
      (sorted_rising xs (once_less key x xs o))
    where
      at : X → ℕ
      at y = cond (same (key y) (key x)) 1 0

  module _ (w : X → ℕ) where
    -- the weights under lower keys
    abbrev pub below : List X → List ℕ → ℕ
    below xs k = sum_by (λ z. cond (lower (key z) k) (w z) 0) xs

    fill_rising : (xs : List X) → Rising key xs → (v : ℕ) → sum_by (λ z. min (w z) (v - below xs (key z))) xs ≡ min v (sum_by w xs)
    fill_rising [] r v = omega arith
    fill_rising (x ∷ xs) r v =
        omega (arith, sum_by-cons (λ z. min (w z) (v - below (x ∷ xs) (key z))) x xs, first, others, fill_rising xs r.1 (v - w x), sum_by-cons w x xs)
      where
        first : below (x ∷ xs) (key x) ≡ 0
        first =
            omega (
              arith,
              sum_by-cons (λ z. cond (lower (key z) (key x)) (w z) 0) x xs,
              if_false _ (w x) 0 (irreflexive (key x)),
              sum_by_zero (λ z. cond (lower (key z) (key x)) (w z) 0) xs
                  (All-weaker _ _ (λ z p. if_false (lower (key z) (key x)) (w z) 0 (asymmetric (key x) (key z) p)) xs r.0),
            )

        others : sum_by (λ z. min (w z) (v - below (x ∷ xs) (key z))) xs ≡ sum_by (λ z. min (w z) (v - w x - below xs (key z))) xs
        others =
            sum_by_same _ _ xs
            (All-weaker _ _
            (λ z p. let e : below (x ∷ xs) (key z) ≡ w x + below xs (key z) =
            sum_by-cons (λ y. cond (lower (key y) (key z)) (w y) 0) x xs ∙ ap (λ n. n + below xs (key z)) (if_true _ (w x) 0 p) in
            omega (arith, e))
            xs r.0)

    pub fill_once : (xs : List X) → Once key xs → (v : ℕ) → sum_by (λ z. min (w z) (v - below xs (key z))) xs ≡ min v (sum_by w xs)
    fill_once xs o v =
        sym (sorted_sum _ xs)
        ∙ ap (λ (g : List ℕ → ℕ). sum_by (λ z. min (w z) (v - g (key z))) (sorted xs)) (sym (fun_ext (λ k. sorted_sum (λ z. cond (lower (key z) k) (w z) 0) xs)))
        ∙ fill_rising (sorted xs) (sorted_rising xs o) v
        ∙ ap (min v) (sorted_sum w xs)
