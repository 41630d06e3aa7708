-- What an account store and an offer book answer to each command of the script. Assumes nothing.
use Rattle.std.specs.Prelude.{◌≡◌, ℕ, List, [], ◌∷◌, length, MatchResult, nat_lt}
use Rattle.terms.specs.Order.{name, place, words, above}
use Rattle.terms.specs.Holdings.{Store, Book, standing, floor_at, balance_at, free_of, amount_at, offered_of, up_to}
use Rattle.accounts.specs.Changes.{open_answer, grant_answer, balance_answer, floor_answer, Opened, Granted, BalanceSet, FloorSet}
use Rattle.offers.specs.Changes.{place_answer, reduce_answer, replace_answer, Placed, Reduced, Replaced}
use Rattle.store_script.specs.Outcome.{outcome}
use Rattle.store_script.specs.declared.Answer.{Answer}
use Rattle.store_script.specs.declared.Answer.TheVariants.{Flag, Number, Offer, Nothing}
use Rattle.store_script.specs.declared.AccountAsk.{AccountAsk}
use Rattle.store_script.specs.declared.AccountAsk.TheVariants as account
use Rattle.store_script.specs.declared.OfferAsk.{OfferAsk}
use Rattle.store_script.specs.declared.OfferAsk.TheVariants as offer

-- the lowest number above, or nothing
abbrev pub number_found : List ℕ → Answer
number_found [] = Nothing
number_found (n ∷ ns) = Number n

abbrev pub account_answer : Store → AccountAsk → Answer
account_answer s (account.Open n) = outcome (open_answer s n)
account_answer s (account.OpenWith n bs) = outcome (grant_answer s n bs)
account_answer s (account.SetBalance n x v) = outcome (balance_answer s n x v)
account_answer s (account.SetFloor n v) = outcome (floor_answer s n)
account_answer s (account.Stands n) = Flag (nat_lt 0 (standing s n))
account_answer s (account.Balance n x) = Number (balance_at s n x)
account_answer s (account.Floor n) = Number (floor_at s n)
account_answer s (account.Free x) = Number (free_of s x)
account_answer s account.Count = Number (length s.accounts)
account_answer s account.Capacity = Number s.capacity
account_answer s account.Top = Number s.top
account_answer s (account.Next n) = number_found (above name s.accounts (n ∷ []))

-- the lowest key above, by the five numbers that it is compared by, or nothing
abbrev pub key_found : List ℕ → Answer
key_found [] = Nothing
key_found (x ∷ []) = Nothing
key_found (x ∷ y ∷ []) = Nothing
key_found (x ∷ y ∷ l ∷ []) = Nothing
key_found (x ∷ y ∷ l ∷ n ∷ []) = Nothing
key_found (x ∷ y ∷ l ∷ n ∷ q ∷ rest) = Offer (record { sold = x; bought = y; limit = l; account = n; sequence = q })

abbrev pub offer_answer : Book → OfferAsk → Answer
offer_answer b (offer.Place k v) = outcome (place_answer b k v)
offer_answer b (offer.Reduce k v) = outcome (reduce_answer b k v)
offer_answer b (offer.Replace j k v) = outcome (replace_answer b j k v)
offer_answer b (offer.Amount k) = Number (amount_at b.offers k)
offer_answer b (offer.Offered x) = Number (offered_of b x)
offer_answer b (offer.UpTo x y l) = Number (up_to b x y l)
offer_answer b offer.Count = Number (length b.offers)
offer_answer b offer.Capacity = Number b.capacity
offer_answer b (offer.Next k) = key_found (above place b.offers (words k))

-- What is left: a change that is made leaves what it says, and all else leaves the store or book as it was.

abbrev pub AccountsLeft : Store → AccountAsk → Store → Type 0
AccountsLeft s (account.Open n) t = MatchResult (open_answer s n) (λ _. Opened s n t) (λ _. t ≡ s)
AccountsLeft s (account.OpenWith n bs) t = MatchResult (grant_answer s n bs) (λ _. Granted s n bs t) (λ _. t ≡ s)
AccountsLeft s (account.SetBalance n x v) t = MatchResult (balance_answer s n x v) (λ _. BalanceSet s n x v t) (λ _. t ≡ s)
AccountsLeft s (account.SetFloor n v) t = MatchResult (floor_answer s n) (λ _. FloorSet s n v t) (λ _. t ≡ s)
AccountsLeft s (account.Stands n) t = t ≡ s
AccountsLeft s (account.Balance n x) t = t ≡ s
AccountsLeft s (account.Floor n) t = t ≡ s
AccountsLeft s (account.Free x) t = t ≡ s
AccountsLeft s account.Count t = t ≡ s
AccountsLeft s account.Capacity t = t ≡ s
AccountsLeft s account.Top t = t ≡ s
AccountsLeft s (account.Next n) t = t ≡ s

abbrev pub OffersLeft : Book → OfferAsk → Book → Type 0
OffersLeft b (offer.Place k v) c = MatchResult (place_answer b k v) (λ _. Placed b k v c) (λ _. c ≡ b)
OffersLeft b (offer.Reduce k v) c = MatchResult (reduce_answer b k v) (λ _. Reduced b k v c) (λ _. c ≡ b)
OffersLeft b (offer.Replace j k v) c = MatchResult (replace_answer b j k v) (λ _. Replaced b j k v c) (λ _. c ≡ b)
OffersLeft b (offer.Amount k) c = c ≡ b
OffersLeft b (offer.Offered x) c = c ≡ b
OffersLeft b (offer.UpTo x y l) c = c ≡ b
OffersLeft b offer.Count c = c ≡ b
OffersLeft b offer.Capacity c = c ≡ b
OffersLeft b (offer.Next k) c = c ≡ b
