-- The ranges of the exchange's numbers, as tests. Assumes nothing.
use Rattle.std.specs.Prelude.{ℕ, Bool, true, not, ◌&&◌, List, [], ◌∷◌, length, ◌==◌, nat_le, nat_lt}
use Rattle.terms.specs.declared.Account.{Account}
use Rattle.terms.specs.declared.Key.{Key}
use Rattle.terms.specs.declared.Offer.{Offer}
use Rattle.terms.specs.declared.Volume.{Volume}
use Rattle.terms.specs.declared.Action.{Action}
use Rattle.terms.specs.declared.Action.TheVariants.{Create, Pay, Place, Cancel}
use Rattle.terms.specs.declared.Transaction.{Transaction}
use Rattle.terms.specs.declared.Grant.{Grant}

abbrev pub every : {X : Type 0} → (X → Bool) → List X → Bool
every p [] = true
every p (x ∷ xs) = p x && every p xs

-- eight assets, 0 to 7
abbrev pub is_asset : ℕ → Bool
is_asset x = nat_lt x 8

-- a balance is 0 to 2^36 − 1, an amount at least 1
abbrev pub is_balance : ℕ → Bool
is_balance n = nat_lt n 68719476736

abbrev pub is_amount : ℕ → Bool
is_amount n = nat_lt 0 n && is_balance n

-- a price is 1 to 2^24 − 1
abbrev pub is_price : ℕ → Bool
is_price p = nat_lt 0 p && nat_lt p 16777216

-- sequence numbers and floors are numbers of 32 bits
abbrev pub is_word : ℕ → Bool
is_word n = nat_lt n 4294967296

-- account numbers and limits are numbers of 32 bits other than 0
abbrev pub is_number : ℕ → Bool
is_number n = nat_lt 0 n && is_word n

-- an asset is sold for another
abbrev pub is_pair : ℕ → ℕ → Bool
is_pair x y = is_asset x && (is_asset y && not (x == y))

-- eight balances
abbrev pub are_balances : List ℕ → Bool
are_balances bs = length bs == 8 && every is_balance bs

abbrev pub fit_key : Key → Bool
fit_key k = is_pair k.sold k.bought && (is_number k.limit && (is_number k.account && is_word k.sequence))

abbrev pub fit_offer : Offer → Bool
fit_offer o = fit_key o.key && is_amount o.amount

abbrev pub fit_volume : Volume → Bool
fit_volume v = is_pair v.sold v.bought && is_amount v.amount

abbrev pub fit_action : Action → Bool
fit_action (Create account) = is_number account
fit_action (Pay receiver asset amount) = is_number receiver && (is_asset asset && is_amount amount)
fit_action (Place sold bought limit amount) = is_pair sold bought && (is_number limit && is_amount amount)
fit_action (Cancel sold bought limit offer) = is_pair sold bought && (is_number limit && is_word offer)

abbrev pub fit_transaction : Transaction → Bool
fit_transaction t = is_number t.source && (is_word t.sequence && fit_action t.action)

abbrev pub fit_grant : Grant → Bool
fit_grant g = is_number g.account && are_balances g.balances

-- an account of a store whose highest allowed number is the top
abbrev pub fit_account : ℕ → Account → Bool
fit_account top a = is_number a.number && (nat_le a.number top && (is_word a.floor && are_balances a.balances))
