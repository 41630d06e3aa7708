-- Keys counted: one for each time that a key occurs. Assumes nothing.
use Rattle.std.specs.Prelude.{ℕ, Bool, ◌||◌, List, [], ◌∷◌, map, nat_lt}
use Rattle.terms.specs.declared.Transaction.{Transaction}
use Rattle.terms.specs.Order.{under}
use Rattle.terms.specs.Holdings.{Store, standing}
use Rattle.tally.specs.declared.rules.Place.{Place}
use Rattle.tally.specs.declared.effects.Effect.{Effect}
use Rattle.tally.specs.declared.effects.Net.{Net}

abbrev pub one : {K : Type 0} → K → Effect K
one k = record { key = k; plus = 1; minus = 0 }

abbrev pub ones : {K : Type 0} → List K → List (Effect K)
ones ks = map one ks

-- the place of a transaction: its source and its sequence number
abbrev pub tagged : Transaction → List Place
tagged t = record { first = t.source; second = t.sequence } ∷ []

-- a new account stands, is above the top, or is opened more than once, as the nets count it
abbrev pub is_bad : Store → List (Net ℕ) → ℕ → Bool
is_bad st ns n = nat_lt 0 (standing st n) || (nat_lt st.top n || nat_lt 1 (under (λ x. x.key ∷ []) (λ x. x.plus) ns (n ∷ [])))
