-- Places in a list whose keys rise. Assumes nothing.
use Rattle.std.specs.Prelude.{◌≡◌, ℕ, ◌<◌, ◌≤◌, true, false, List, [], length, take, drop, Some, None, Ok, Err, Option, Result, slice_index_or}
use Rattle.std.specs.List.{AllByRecursion}
use Rattle.terms.specs.Order.{lower}

-- the entry at i has the key k
pub record At {X : Type 0} (key : X → List ℕ) (xs : List X) (k : List ℕ) (i : ℕ) : Type 0 where
  pub within : i < length xs
  pub is : (d : X) → key (slice_index_or xs i d) ≡ k

-- no entry has the key k; one that has it goes in at i
pub record Gap {X : Type 0} (key : X → List ℕ) (xs : List X) (k : List ℕ) (i : ℕ) : Type 0 where
  pub within : i ≤ length xs
  pub low : AllByRecursion (λ y. lower (key y) k ≡ true) (take i xs)
  pub high : AllByRecursion (λ y. lower k (key y) ≡ true) (drop i xs)

-- the place of the key k, or else the one where it goes in
abbrev pub Sought : {X : Type 0} (key : X → List ℕ) (xs : List X) (k : List ℕ) → Result ℕ ℕ → Type 0
Sought key xs k (Ok i) = At key xs k i
Sought key xs k (Err i) = Gap key xs k i

-- the entries before i lie below k, the others do not
pub record Cut {X : Type 0} (key : X → List ℕ) (xs : List X) (k : List ℕ) (i : ℕ) : Type 0 where
  pub within : i ≤ length xs
  pub low : AllByRecursion (λ y. lower (key y) k ≡ true) (take i xs)
  pub high : AllByRecursion (λ y. lower (key y) k ≡ false) (drop i xs)

-- i is the place of the lowest key above k, or the end where no key lies above it
pub record Past {X : Type 0} (key : X → List ℕ) (xs : List X) (k : List ℕ) (i : ℕ) : Type 0 where
  pub within : i ≤ length xs
  pub low : AllByRecursion (λ y. lower k (key y) ≡ false) (take i xs)
  pub next : i < length xs → (d : X) → lower k (key (slice_index_or xs i d)) ≡ true

-- the numbers that a key is compared by, or none
abbrev pub told : {K : Type 0} → (K → List ℕ) → Option K → List ℕ
told rank None = []
told rank (Some k) = rank k
