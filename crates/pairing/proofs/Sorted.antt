-- Lists in order: two lists of the same entries are equal once both are in order. Assumes nothing.
use Rattle.std.proofs.Common.{◌≡◌, ℕ, suc, ◌+◌, ◌<◌, Bool, true, false, cond, List, [], ◌∷◌, length, get_or, Ordering, Less, Equal, Greater, sym, refl, ap, ◌∙◌, subst, inl, inr, arith}
use native.Mathlib.Numerals.{unary_clauses}
use Rattle.std.specs.List.{sum_by}
use Rattle.std.specs.List.Sorted.{IsPermutation, IsSorted}
use Rattle.std.specs.Cmp.{IsTotalOrder, Equal-is, tied_itself}
use Rattle.std.specs.Ordering.{is_lt, is_eq, ordering_reverse}
use Rattle.std.proofs.lemmas.List.Sums.{sum_by-cons}
use Rattle.std.proofs.lemmas.List.Sorted.{sorted_far, ranks_by, sum_by-IsPermutation}
use Rattle.std.proofs.lemmas.Bool.{cases_Bool, both_ways}

-- neither is below the other
level : (r s : Ordering) → r ≡ ordering_reverse s → is_lt r ≡ false → is_lt s ≡ false → r ≡ Equal
level Less s e p q = cc
level Equal s e p q = refl
level Greater Less e p q = cc
level Greater Equal e p q = cc
level Greater Greater e p q = cc

-- an order that tells apart all that are not equal
module _ {X : Type 0} (R : X → X → Ordering) (o : IsTotalOrder R) (exact : (x y : X) → R x y ≡ Equal → x ≡ y) where
  abbrev below : X → X → Bool
  below x y = is_lt (R x y)

  one : (x y : X) → below x y ≡ false → below y x ≡ false → x ≡ y
  one x y p q = exact x y (level (R x y) (R y x) (o.antisymm x y) p q)

  -- none of a list is below one before it
  abbrev Over : X → List X → Type 0
  Over x [] = Unit {0}
  Over x (y ∷ ys) = (below y x ≡ false) × Over x ys

  abbrev InOrder : List X → Type 0
  InOrder [] = Unit {0}
  InOrder (x ∷ xs) = Over x xs × InOrder xs

  over_from : (x : X) (ys : List X) → ((i : ℕ) (d : X) → i < length ys → below (get_or ys i d) x ≡ false) → Over x ys
  over_from x [] h = tt
  over_from x (y ∷ ys) h = (h 0 y (omega arith), over_from x ys (λ i d p. h (suc i) d (omega arith)))

  in_order : (xs : List X) → IsSorted R xs → InOrder xs
  in_order [] up = tt
  in_order (x ∷ xs) up = (
    over_from x xs (λ i d p. sorted_far below (ranks_by o (λ y. y)) (x ∷ xs) up 0 (suc i) d (omega arith) (omega arith)),
    in_order xs (λ i d p q. let h : suc i + 1 < suc (length xs) = omega arith in simp unary_clauses (simp unary_clauses at (up (suc i) d (omega arith) h))),
  )

  -- how often an entry stands in a list
  abbrev count : List X → X → ℕ
  count xs x = sum_by (λ y. cond (is_eq (R y x)) 1 0) xs

  count_cons : (y : X) (ys : List X) (x : X) → count (y ∷ ys) x ≡ cond (is_eq (R y x)) 1 0 + count ys x
  count_cons y ys x = sum_by-cons (λ z. cond (is_eq (R z x)) 1 0) y ys

  standing : (x : X) (xs : List X) → count (x ∷ xs) x ≡ 0 → ⊥
  standing x xs e = omega (arith, e, count_cons x xs x, ap (λ r. cond {A = ℕ} (is_eq r) 1 0) (tied_itself o x))

  -- an entry below the first of a list in order does not stand in it
  apart : (x y z : X) → below x y ≡ true → below z y ≡ false → is_eq (R z x) ≡ false
  apart x y z p q = elim (cases_Bool (is_eq (R z x))) [
    | inr e ↦ e
    | inl e ↦ absurd (both_ways (below x y) (subst (λ w. below w y ≡ false) (exact z x ((Equal-is (R z x)).0 e)) q) p)
  ]

  absent : (x y : X) (zs : List X) → below x y ≡ true → Over y zs → count zs x ≡ 0
  absent x y [] p h = refl
  absent x y (z ∷ zs) p h = omega (arith, count_cons z zs x, ap (λ b. cond {A = ℕ} b 1 0) (apart x y z p h.0), absent x y zs p h.1)

  missing : (x y : X) (ys : List X) → InOrder (y ∷ ys) → below x y ≡ true → count (y ∷ ys) x ≡ 0
  missing x y ys s p = absent x y (y ∷ ys) p (ap is_lt (tied_itself o y), s.0)

  one_in_order : (xs ys : List X) → InOrder xs → InOrder ys → ((z : X) → count xs z ≡ count ys z) → xs ≡ ys
  one_in_order [] [] s t e = refl
  one_in_order [] (y ∷ ys) s t e = absurd (standing y ys (sym (e y)))
  one_in_order (x ∷ xs) [] s t e = absurd (standing x xs (e x))
  one_in_order (x ∷ xs) (y ∷ ys) s t e =
      let p : below x y ≡ false = elim (cases_Bool (below x y)) [ inr d ↦ d | inl d ↦ absurd (standing x xs (e x ∙ missing x y ys t d)) ] in
      let q : below y x ≡ false = elim (cases_Bool (below y x)) [ inr d ↦ d | inl d ↦ absurd (standing y ys (sym (e y) ∙ missing y x xs s d)) ] in
      let h : x ≡ y = one x y p q in
      let r : xs ≡ ys = one_in_order xs ys s.1 t.1 (λ z. omega (arith, e z, count_cons x xs z, count_cons y ys z, ap (λ w. cond {A = ℕ} (is_eq (R w z)) 1 0) h)) in
      λ i. h i ∷ r i

  -- so two lists in order are equal where one is the other rearranged
  pub rearranged_equal : (xs ys : List X) → IsSorted R xs → IsSorted R ys → IsPermutation xs ys → xs ≡ ys
  rearranged_equal xs ys up over s =
      one_in_order xs ys (in_order xs up) (in_order ys over) (λ z. sym (sum_by-IsPermutation (λ y. cond (is_eq (R y z)) 1 0) xs ys s))
