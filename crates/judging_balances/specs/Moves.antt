-- What a transaction moves on the balances. Assumes nothing.
use Rattle.std.specs.Prelude.{ℕ, List, [], ◌∷◌}
use Rattle.terms.specs.declared.Key.{Key}
use Rattle.terms.specs.declared.Action.{Action}
use Rattle.terms.specs.declared.Action.TheVariants.{Create, Pay, Place, Cancel}
use Rattle.terms.specs.declared.Transaction.{Transaction}
use Rattle.tally.specs.declared.effects.Effect.{Effect}
use Rattle.judging_balances.specs.declared.Slot.{Slot}

abbrev pub slot : ℕ → ℕ → Slot
slot n x = record { account = n; asset = x }

-- a slot goes by its account, then its asset
abbrev pub slot_words : Slot → List ℕ
slot_words s = s.account ∷ s.asset ∷ []

abbrev pub takes : Slot → ℕ → Effect Slot
takes s n = record { key = s; plus = 0; minus = n }

abbrev pub brings : Slot → ℕ → Effect Slot
brings s n = record { key = s; plus = n; minus = 0 }

-- A payment takes from its source and brings to its receiver; a new offer takes what it sells; a cancelled offer brings
-- what it stands at, which `amount` tells.
abbrev pub moves_by : (Key → ℕ) → ℕ → Action → List (Effect Slot)
moves_by amount source (Create n) = []
moves_by amount source (Pay r x n) = takes (slot source x) n ∷ brings (slot r x) n ∷ []
moves_by amount source (Place x y l n) = takes (slot source x) n ∷ []
moves_by amount source (Cancel x y l q) =
    brings (slot source x) (amount (record { sold = x; bought = y; limit = l; account = source; sequence = q })) ∷ []

abbrev pub moves : (Key → ℕ) → Transaction → List (Effect Slot)
moves amount t = moves_by amount t.source t.action
