-- A pass over a list: what each entry asks for is done in turn. Assumes nothing.
-- `Done l s t` says that all of l is done, from s to t, and `Can l s` that nothing stands in its way.
use Rattle.std.proofs.Common.{◌≡◌, ℕ, zero, suc, ◌+◌, ◌<◌, cond, List, [], ◌∷◌, ◌++◌, length, get_or, take, drop, sym, refl, ap, ◌∙◌, subst, arith}
use Rattle.std.specs.List.{ContainsAt as Has, flat_map, AllByRecursion}
use Rattle.std.proofs.lemmas.List.{take_more, append_assoc, flat_map_more}
use Rattle.terms.specs.Order.{same, under}
use Rattle.terms.proofs.Order.{same_refl}
use Rattle.exchange.proofs.Sums.{if_true, member_le}

pub all_left : {X : Type 0} (P : X → Type 0) (xs ys : List X) → AllByRecursion P (xs ++ ys) → AllByRecursion P xs
all_left P [] ys a = tt
all_left P (x ∷ xs) ys a = (a.0, all_left P xs ys a.1)

pub all_right : {X : Type 0} (P : X → Type 0) (xs ys : List X) → AllByRecursion P (xs ++ ys) → AllByRecursion P ys
all_right P [] ys a = a
all_right P (x ∷ xs) ys a = all_right P xs ys a.1

-- a member counts at least once
pub member : {X : Type 0} (key : X → List ℕ) (xs : List X) (x : X) → Has xs x → 0 < under key (λ _. 1) xs (key x)
member {X} key xs x m =
    let f : X → ℕ = λ z. cond (same (key z) (key x)) 1 0 in
    omega (arith, member_le f xs x m, if_true (same (key x) (key x)) 1 0 (same_refl (key x)))

-- the list in three parts: before i, at i, after
split_joined : {X A : Type 0} (f : X → List A) (xs : List X) (i : ℕ) (d : X) → i < length xs
    → flat_map f xs ≡ flat_map f (take i xs) ++ (f (get_or xs i d) ++ flat_map f (drop (suc i) xs))
split_joined f [] i d h = absurd (omega arith)
split_joined f (x ∷ xs) zero d h = refl
split_joined f (x ∷ xs) (suc i) d h =
    ap (λ l. f x ++ l) (split_joined f xs i d (omega arith))
    ∙ sym (append_assoc (f x) (flat_map f (take i xs)) (f (get_or xs i d) ++ flat_map f (drop (suc i) xs)))

split_at : {X : Type 0} (xs : List X) (i : ℕ) (d : X) → i < length xs → xs ≡ take i xs ++ ((get_or xs i d ∷ []) ++ drop (suc i) xs)
split_at [] i d h = absurd (omega arith)
split_at (x ∷ xs) zero d h = refl
split_at (x ∷ xs) (suc i) d h = ap (λ l. x ∷ l) (split_at xs i d (omega arith))

module _ {A S : Type 0} (Done : List A → S → S → Type 0) (more : (xs ys : List A) (s t u : S) → Done xs s t → Done ys t u → Done (xs ++ ys) s u)
    (Can : List A → S → Type 0) (next : (xs ys zs : List A) (s t : S) → Can (xs ++ (ys ++ zs)) s → Done xs s t → Can ys t) where
  -- over entries that each ask for a list
  module _ {X : Type 0} (f : X → List A) (xs : List X) (i : ℕ) (d : X) (l : i < length xs) where
    pub pass_more : (s t u : S) → Done (flat_map f (take i xs)) s t → Done (f (get_or xs i d)) t u → Done (flat_map f (take (i + 1) xs)) s u
    pass_more s t u a b =
        subst (λ ys. Done ys s u) (sym (ap (flat_map f) (take_more xs i d l) ∙ sym (flat_map_more f [] (take i xs) (get_or xs i d))))
        (more (flat_map f (take i xs)) (f (get_or xs i d)) s t u a b)

    pub pass_next : (s t : S) → Can (flat_map f xs) s → Done (flat_map f (take i xs)) s t → Can (f (get_or xs i d)) t
    pass_next s t c a =
        next (flat_map f (take i xs)) (f (get_or xs i d)) (flat_map f (drop (suc i) xs)) s t (subst (λ ys. Can ys s) (split_joined f xs i d l) c) a

  -- over the list itself
  module _ (xs : List A) (i : ℕ) (d : A) (l : i < length xs) where
    pub each_more : (s t u : S) → Done (take i xs) s t → Done (get_or xs i d ∷ []) t u → Done (take (i + 1) xs) s u
    each_more s t u a b = subst (λ ys. Done ys s u) (sym (take_more xs i d l)) (more (take i xs) (get_or xs i d ∷ []) s t u a b)

    pub each_next : (s t : S) → Can xs s → Done (take i xs) s t → Can (get_or xs i d ∷ []) t
    each_next s t c a = next (take i xs) (get_or xs i d ∷ []) (drop (suc i) xs) s t (subst (λ ys. Can ys s) (split_at xs i d l) c) a
