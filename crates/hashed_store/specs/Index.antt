-- What slots and index of a hashed store mean. Assumes nothing.
use Rattle.std.specs.Prelude.{◌≡◌, ℕ, ◌<◌, Bool, cond, ◌&&◌, List, [], ◌∷◌, map, length, replicate, Some, None, Option, ◌==◌, nat_lt, slice_index_or}
use Rattle.terms.specs.declared.Account.{Account}
use Rattle.terms.specs.Order.{name, under}
use Rattle.terms.specs.Holdings.{Store}
use Rattle.hashed_store.specs.declared.entry.Entry.{Entry}

abbrev pub number : Entry → ℕ
number e = e.number

-- an entry goes by its number
abbrev pub tag : Entry → List ℕ
tag e = e.number ∷ []

abbrev pub blank : Account
blank = record { number = 0; floor = 0; balances = replicate 8 0 }

-- the account that an entry points to
abbrev pub lying : List Account → Entry → Account
lying slots e = slice_index_or slots e.slot blank

-- a store of the accounts that the entries point to, in their order, with room for one account a slot
abbrev pub store_of : ℕ → List Account → List Entry → Store
store_of top slots entries = record { capacity = length slots; top = top; accounts = map (lying slots) entries }

-- an entry points to one of the first len slots, and to an account of its number
abbrev pub laid : ℕ → List Account → Entry → Bool
laid len slots e = nat_lt e.slot len && (lying slots e).number == e.number

-- what f gives of a bucket: 0 where it is free
abbrev pub taken : (Entry → ℕ) → Entry → ℕ
taken f e = cond (e.number == 0) 0 (f e)

-- the account a with the number n lies in slot s, and an entry points there
pub record Lies (slots : List Account) (entries : List Entry) (n s : ℕ) (a : Account) : Type 0 where
  pub entry : Entry
  pub place : ℕ
  pub within : place < length entries
  pub is : entry ≡ slice_index_or entries place entry
  pub number : entry.number ≡ n
  pub slot : entry.slot ≡ s
  pub account : a ≡ lying slots entry

-- the account with the number n and its slot, or none: then nothing stands under n
abbrev pub Found : List Account → List Entry → ℕ → Option (ℕ × Account) → Type 0
Found slots entries n None = (f : Account → ℕ) → under name f (map (lying slots) entries) (n ∷ []) ≡ 0
Found slots entries n (Some p) = Lies slots entries n p.0 p.1
