-- What a transaction adds to the eligible offers of its pair, and takes from them. Assumes nothing.
use Rattle.std.specs.Prelude.{ℕ, cond, List, [], ◌∷◌}
use Rattle.terms.specs.declared.Key.{Key}
use Rattle.terms.specs.declared.Action.{Action}
use Rattle.terms.specs.declared.Action.TheVariants.{Create, Pay, Place, Cancel}
use Rattle.terms.specs.declared.Transaction.{Transaction}
use Rattle.exchange.specs.Trade.{eligible}
use Rattle.tally.specs.declared.effects.Effect.{Effect}
use Rattle.tally.specs.declared.rules.Place as places
use Rattle.judging_rules.specs.Rows.{deal}

-- the key of an offer that the source placed under a sequence number
abbrev pub key_for : (source sold bought limit sequence : ℕ) → Key
key_for n x y l q = record { sold = x; bought = y; limit = l; account = n; sequence = q }

-- the pair of a key, as a place
abbrev pub pair_of : Key → places.Place
pair_of k = record { first = k.sold; second = k.bought }

-- the amount of a key, if it is eligible at the prices ps
abbrev pub eligible_amount : List ℕ → Key → ℕ → ℕ
eligible_amount ps k n = cond (eligible (deal ps [] []) k) n 0

-- A new offer adds its amount if it is eligible; a cancelled one takes what it stands at, which `amount` tells, if it is.
abbrev pub trades_by : List ℕ → (Key → ℕ) → (source sequence : ℕ) → Action → List (Effect places.Place)
trades_by ps amount source sequence (Create n) = []
trades_by ps amount source sequence (Pay r x n) = []
trades_by ps amount source sequence (Place x y l n) =
    record { key = pair_of (key_for source x y l sequence); plus = eligible_amount ps (key_for source x y l sequence) n; minus = 0 } ∷ []
trades_by ps amount source sequence (Cancel x y l q) =
    record { key = pair_of (key_for source x y l q); plus = 0; minus = eligible_amount ps (key_for source x y l q) (amount (key_for source x y l q)) } ∷ []

abbrev pub trades : List ℕ → (Key → ℕ) → Transaction → List (Effect places.Place)
trades ps amount t = trades_by ps amount t.source t.sequence t.action
