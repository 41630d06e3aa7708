-- What an account store and an offer book mean: accounts and offers in rising order, with the room there is for them.
-- Assumes nothing.
use Rattle.std.specs.Prelude.{ℕ, Bool, true, cond, ◌&&◌, List, [], ◌∷◌, length, sum_by, ◌==◌, nat_le, slice_index}
use Rattle.terms.specs.declared.Account.{Account}
use Rattle.terms.specs.declared.Key.{Key}
use Rattle.terms.specs.declared.Offer.{Offer}
use Rattle.terms.specs.Order.{lower, name, words, place, under}
use Rattle.terms.specs.Ranges.{every, fit_account, fit_offer, is_word}

-- An account store: the accounts by rising number, how many there may be, and the highest number that one may have.
pub record Store : Type 0 where
  pub capacity : ℕ
  pub top : ℕ
  pub accounts : List Account

-- An offer book: the offers by rising key, and how many there may be.
pub record Book : Type 0 where
  pub capacity : ℕ
  pub offers : List Offer

-- Look-ups. An absent account or offer and an asset above 7 give 0.

-- 1 where the account stands, 0 where it does not
abbrev pub standing : Store → ℕ → ℕ
standing s n = under name (λ _. 1) s.accounts (n ∷ [])

-- the highest sequence number that the account has used
abbrev pub floor_at : Store → ℕ → ℕ
floor_at s n = under name (λ a. a.floor) s.accounts (n ∷ [])

-- the account's free balance of an asset
abbrev pub balance_at : Store → ℕ → ℕ → ℕ
balance_at s n x = under name (λ a. slice_index a.balances x) s.accounts (n ∷ [])

-- all free balances of an asset together
abbrev pub free_of : Store → ℕ → ℕ
free_of s x = sum_by (λ a. slice_index a.balances x) s.accounts

-- the amount under a key
abbrev pub amount_at : List Offer → Key → ℕ
amount_at os k = under place (λ o. o.amount) os (words k)

-- all that is offered of a sold asset
abbrev pub offered_of : Book → ℕ → ℕ
offered_of b x = sum_by (λ o. cond (o.key.sold == x) o.amount 0) b.offers

-- all that is offered of a pair at limits up to this one
abbrev pub up_to : Book → ℕ → ℕ → ℕ → ℕ
up_to b x y l =
    sum_by (λ o. cond (o.key.sold == x && (o.key.bought == y && nat_le o.key.limit l)) o.amount 0) b.offers

-- Order and ranges, as one test each.

abbrev pub rising : {X : Type 0} → (X → List ℕ) → List X → Bool
rising key [] = true
rising key (x ∷ xs) = every (λ y. lower (key x) (key y)) xs && rising key xs

abbrev pub sound_store : Store → Bool
sound_store s =
    rising name s.accounts && (every (fit_account s.top) s.accounts && (nat_le (length s.accounts) s.capacity
    && (nat_le s.capacity 65536 && is_word s.top)))

abbrev pub sound_book : Book → Bool
sound_book b =
    rising place b.offers && (every fit_offer b.offers && (nat_le (length b.offers) b.capacity && nat_le b.capacity 65536))
