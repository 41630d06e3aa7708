-- The least of the places at which a test passes. Assumes nothing.
use Rattle.std.specs.Prelude.{◌≡◌, ℕ, Bool, true, false, cond, List, [], ◌∷◌, Some, None, Ok, Err, Option, Result}
use Rattle.std.specs.List.{ContainsAt as Has, AllByRecursion}
use Rattle.terms.specs.declared.Fault.{Fault}
use Rattle.terms.specs.Order.{lower}
use Rattle.tally.specs.declared.rules.Place.{Place}

-- No places have P; or the fault has the number n and names places that have it, and none that have it are lower.
abbrev pub Told : (ℕ → ℕ → Type 0) → ℕ → Result (Unit {0}) Fault → Type 0
Told P n (Ok _) = (i j : ℕ) → P i j → ⊥
Told P n (Err f) =
    (f.number ≡ n) × P f.first f.second × ((i j : ℕ) → P i j → lower (i ∷ j ∷ []) (f.first ∷ f.second ∷ []) ≡ false)

-- the fault that an answer tells, if any
abbrev pub fault_of : Result (Unit {0}) Fault → Option Fault
fault_of (Ok _) = None
fault_of (Err f) = Some f

-- some entry at the place i, j passes the test
abbrev pub Broken : {X : Type 0} (first second : X → ℕ) (p : X → Bool) (xs : List X) (i j : ℕ) → Type 0
Broken {X} first second p xs i j = (x : X) × Has xs x × (first x ≡ i) × (second x ≡ j) × (p x ≡ true)

-- a place is compared by its first number, then its second
abbrev pub spot : Place → List ℕ
spot p = p.first ∷ p.second ∷ []

abbrev pub lesser_of : Option Place → Place → Option Place
lesser_of None p = Some p
lesser_of (Some b) p = Some (cond (lower (spot p) (spot b)) p b)

-- no entry passes the test, or this is the least place of those that do
abbrev pub LeastPlace : {X : Type 0} (first second : X → ℕ) → (X → Bool) → List X → Option Place → Type 0
LeastPlace first second p xs None = AllByRecursion (λ x. p x ≡ false) xs
LeastPlace first second p xs (Some b) =
    Broken first second p xs b.first b.second
    × AllByRecursion (λ x. p x ≡ true → lower (first x ∷ second x ∷ []) (spot b) ≡ false) xs
