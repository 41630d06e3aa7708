-- What a sorted table of accounts means. Assumes nothing.
use Rattle.std.specs.Prelude.{◌≡◌, ℕ, List, [], ◌∷◌, Some, None, Option, slice_index_or}
use Rattle.terms.specs.declared.Account.{Account}
use Rattle.terms.specs.Order.{name, under}
use Rattle.terms.specs.Holdings.{Store}
use Rattle.ordered.specs.Places.{At}
use Rattle.ordered.specs.Rows.{Rows}

-- a store of the table's accounts
abbrev pub store_of : Rows Account → ℕ → Store
store_of t top = record { capacity = t.capacity; top = top; accounts = t.records }

-- the account with the number n and its place, or none: then nothing stands under n
abbrev pub Found : List Account → ℕ → Option (ℕ × Account) → Type 0
Found xs n None = (f : Account → ℕ) → under name f xs (n ∷ []) ≡ 0
Found xs n (Some p) = At name xs (n ∷ []) p.0 × (p.1 ≡ slice_index_or xs p.0 p.1)
