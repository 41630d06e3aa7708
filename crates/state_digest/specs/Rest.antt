-- What is left of a list whose keys rise, above a key. Assumes nothing.
use Rattle.std.specs.Prelude.{ℕ, List, filter}
use Rattle.terms.specs.Order.{lower}

-- the entries whose keys lie above k
abbrev pub rest : {X : Type 0} → (X → List ℕ) → List X → List ℕ → List X
rest key xs k = filter (λ x. lower k (key x)) xs
