-- How the accounts of a founding's grants are counted. Assumes nothing.
use Rattle.std.specs.Prelude.{ℕ, Bool, ◌&&◌, ◌||◌, List, [], ◌∷◌, nat_lt}
use Rattle.terms.specs.declared.Grant.{Grant}
use Rattle.tally.specs.declared.rules.Place.{Place}
use Rattle.tally.specs.declared.effects.Effect.{Effect}

-- a grant counts once, at the place of its account
abbrev pub once : Grant → List (Effect Place)
once g = record { key = record { first = g.account; second = 0 }; plus = 1; minus = 0 } ∷ []

-- an account that so many grants name is named twice, or is named and above the top
abbrev pub is_bad : (top account times : ℕ) → Bool
is_bad top n times = nat_lt 1 times || (nat_lt 0 times && nat_lt top n)
