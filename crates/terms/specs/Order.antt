-- The order of accounts, offers and faults: by lists of numbers, compared in turn. Assumes nothing.
use Rattle.std.specs.Prelude.{◌≡◌, ℕ, Bool, true, false, cond, ◌&&◌, List, [], ◌∷◌, sum_by, ◌==◌, nat_lt}
use Rattle.std.specs.List.{AllByRecursion}
use Rattle.terms.specs.declared.Account.{Account}
use Rattle.terms.specs.declared.Key.{Key}
use Rattle.terms.specs.declared.Offer.{Offer}
use Rattle.terms.specs.declared.Fault.{Fault}

-- the first list stands before the second: at the first place where they differ its number is the smaller
abbrev pub lower : List ℕ → List ℕ → Bool
lower [] [] = false
lower [] (y ∷ ys) = true
lower (x ∷ xs) [] = false
lower (x ∷ xs) (y ∷ ys) = cond (x == y) (lower xs ys) (nat_lt x y)

-- the two lists have the same numbers
abbrev pub same : List ℕ → List ℕ → Bool
same [] [] = true
same [] (y ∷ ys) = false
same (x ∷ xs) [] = false
same (x ∷ xs) (y ∷ ys) = x == y && same xs ys

-- an account goes by its number
abbrev pub name : Account → List ℕ
name a = a.number ∷ []

-- a key is compared by sold asset, bought asset, limit, account and sequence number, in turn
abbrev pub words : Key → List ℕ
words k = k.sold ∷ k.bought ∷ k.limit ∷ k.account ∷ k.sequence ∷ []

-- an offer goes by its key
abbrev pub place : Offer → List ℕ
place o = words o.key

-- a fault is compared by its number, then its first and its second place
abbrev pub rank : Fault → List ℕ
rank f = f.number ∷ f.first ∷ f.second ∷ []

-- the keys rise, so that each stands once
abbrev pub Rising : {X : Type 0} → (X → List ℕ) → List X → Type 0
Rising key [] = Unit {0}
Rising key (x ∷ xs) = AllByRecursion (λ y. lower (key x) (key y) ≡ true) xs × Rising key xs

-- the sum of f over the entries under the key k: where keys rise, f of the one entry there, or 0 where there is none
abbrev pub under : {X : Type 0} → (X → List ℕ) → (X → ℕ) → List X → List ℕ → ℕ
under key f xs k = sum_by (λ x. cond (same (key x) k) (f x) 0) xs

-- the lowest key above k, or nothing
abbrev pub above : {X : Type 0} → (X → List ℕ) → List X → List ℕ → List ℕ
above key [] k = []
above key (x ∷ xs) k = cond (lower k (key x)) (key x) (above key xs k)
