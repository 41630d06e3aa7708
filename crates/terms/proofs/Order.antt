-- The order of keys is strict and total. Assumes nothing.
use Rattle.std.proofs.Common.{◌≡◌, ℕ, true, false, List, [], ◌∷◌, refl, inl, inr, arith}
use Rattle.std.proofs.lemmas.Bool.Decides.{nat_tests}
use Rattle.std.proofs.lemmas.Bool.{cases_Bool, both_ways}
use Rattle.terms.specs.Order.{lower, same, words}
use Rattle.terms.specs.declared.Key.{Key}

pub same_is : (k l : List ℕ) → same k l ≡ true → k ≡ l
same_is [] [] e = refl
same_is [] (y ∷ ys) e = cc
same_is (x ∷ xs) [] e = cc
same_is (x ∷ xs) (y ∷ ys) e =
    let h : (same xs ys ≡ true) × (x ≡ y) = grind (arith, nat_tests) in
    let p : xs ≡ ys = same_is xs ys h.0 in
    let q : x ≡ y = h.1 in
    cc

pub same_refl : (k : List ℕ) → same k k ≡ true
same_refl [] = refl
same_refl (x ∷ xs) = let h : same xs xs ≡ true = same_refl xs in grind (arith, nat_tests)

pub total : (k l : List ℕ) → lower k l ≡ false → lower l k ≡ false → k ≡ l
total [] [] p q = refl
total [] (y ∷ ys) p q = cc
total (x ∷ xs) [] p q = cc
total (x ∷ xs) (y ∷ ys) p q =
    let h : (lower xs ys ≡ false) × (lower ys xs ≡ false) × (x ≡ y) = grind (arith, nat_tests) in
    let t : xs ≡ ys = total xs ys h.0 h.1 in
    let e : x ≡ y = h.2 in
    cc

pub irreflexive : (k : List ℕ) → lower k k ≡ false
irreflexive [] = refl
irreflexive (x ∷ xs) = let h : lower xs xs ≡ false = irreflexive xs in grind (arith, nat_tests)

pub transitive : (k l m : List ℕ) → lower k l ≡ true → lower l m ≡ true → lower k m ≡ true
transitive k [] [] p q = cc
transitive [] [] (z ∷ zs) p q = refl
transitive (x ∷ xs) [] (z ∷ zs) p q = cc
transitive k (y ∷ ys) [] p q = cc
transitive [] (y ∷ ys) (z ∷ zs) p q = refl
transitive (x ∷ xs) (y ∷ ys) (z ∷ zs) p q =
    let h : lower xs ys ≡ true → lower ys zs ≡ true → lower xs zs ≡ true = transitive xs ys zs in
    grind (arith, nat_tests)

pub not_both : (k l : List ℕ) → lower k l ≡ true → same k l ≡ false
not_both [] [] p = cc
not_both [] (y ∷ ys) p = refl
not_both (x ∷ xs) [] p = refl
not_both (x ∷ xs) (y ∷ ys) p = let h : lower xs ys ≡ true → same xs ys ≡ false = not_both xs ys in grind (arith, nat_tests)

pub apart : (k l : List ℕ) → lower k l ≡ true → same l k ≡ false
apart [] [] p = cc
apart [] (y ∷ ys) p = refl
apart (x ∷ xs) [] p = refl
apart (x ∷ xs) (y ∷ ys) p = let h : lower xs ys ≡ true → same ys xs ≡ false = apart xs ys in grind (arith, nat_tests)

pub key_is : (j k : Key) → words j ≡ words k → j ≡ k
key_is j k e =
    let p : j.sold ≡ k.sold = cc in
    let q : j.bought ≡ k.bought = cc in
    let r : j.limit ≡ k.limit = cc in
    let u : j.account ≡ k.account = cc in
    let v : j.sequence ≡ k.sequence = cc in
    λ i. record { sold = p i; bought = q i; limit = r i; account = u i; sequence = v i }

pub same_sym : (k l : List ℕ) → same k l ≡ same l k
same_sym [] [] = refl
same_sym [] (y ∷ ys) = refl
same_sym (x ∷ xs) [] = refl
same_sym (x ∷ xs) (y ∷ ys) = let h : same xs ys ≡ same ys xs = same_sym xs ys in grind (arith, nat_tests)

pub asymmetric : (k l : List ℕ) → lower k l ≡ true → lower l k ≡ false
asymmetric k l p =
    elim (cases_Bool (lower l k)) [ inl q ↦ absurd (both_ways (lower k k) (irreflexive k) (transitive k l k p q)) | inr q ↦ q ]
