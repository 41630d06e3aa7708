-- A block against a state: what its transactions ask for, which offers are in trade, what is sold and what is paid.
-- Assumes nothing.
use Rattle.std.specs.Prelude.{ℕ, ◌+◌, ◌-◌, ◌*◌, ◌/◌, min, Bool, cond, ◌&&◌, List, [], ◌∷◌, ◌++◌, sum_by, filter, ◌==◌, nat_eq, nat_le, slice_index}
use Rattle.std.specs.List.{flat_map}
use Rattle.terms.specs.declared.Key.{Key}
use Rattle.terms.specs.declared.Offer.{Offer}
pub use Rattle.terms.specs.Asked.{Payment, opens, pays, places, cancels, created, paying, placed, cancelled}
use Rattle.terms.specs.Order.{lower, words, place, under}
use Rattle.terms.specs.Holdings.{amount_at}
use Rattle.blocks.specs.Readable.{Block, pair}
use Rattle.exchange.specs.State.{State}

-- What the transactions of a block ask for, joined.

-- all new accounts, payments, new offers and cancelled keys of a block
abbrev pub creations : Block → List ℕ
creations b = flat_map created b.transactions

abbrev pub payments : Block → List Payment
payments b = flat_map paying b.transactions

abbrev pub placements : Block → List Offer
placements b = flat_map placed b.transactions

abbrev pub cancellations : Block → List Key
cancellations b = flat_map cancelled b.transactions

-- How many accounts of this number the block opens, and how many of its cancellations name this key.
abbrev pub openings : Block → ℕ → ℕ
openings b n = sum_by (λ m. cond (m == n) 1 0) (creations b)

abbrev pub cancels_of : Block → Key → ℕ
cancels_of b k = under words (λ _. 1) (cancellations b) (words k)

-- The net of an account in an asset is what comes in less what goes out; what the block pays for sold offers is not in it.

-- payments received, and the amounts of the account's cancelled offers, as they stand before the block
abbrev pub incoming : State → Block → ℕ → ℕ → ℕ
incoming s b n x =
    sum_by (λ p. cond (p.receiver == n && p.asset == x) p.amount 0) (payments b)
    + sum_by (λ k. cond (k.account == n && k.sold == x) (amount_at s.book.offers k) 0) (cancellations b)

-- payments made, and the amounts of the account's new offers
abbrev pub outgoing : State → Block → ℕ → ℕ → ℕ
outgoing s b n x =
    sum_by (λ p. cond (p.payer == n && p.asset == x) p.amount 0) (payments b)
    + sum_by (λ o. cond (o.key.account == n && o.key.sold == x) o.amount 0) (placements b)

-- Prices and volumes.

abbrev pub price : Block → ℕ → ℕ
price b x = slice_index b.prices x

-- what the block sells of a pair: units of the first asset, for the second; 0 where the block has no such volume
abbrev pub volume : Block → ℕ → ℕ → ℕ
volume b x y = under pair (λ v. v.amount) b.volumes (x ∷ y ∷ [])

-- all that the block sells of an asset
abbrev pub volume_of : Block → ℕ → ℕ
volume_of b x = sum_by (λ v. cond (v.sold == x) v.amount 0) b.volumes

-- the worth, at the prices of what is sold, of all that the block sells for an asset
abbrev pub worth_for : Block → ℕ → ℕ
worth_for b y = sum_by (λ v. cond (v.bought == y) (v.amount * price b v.sold) 0) b.volumes

-- The offers in trade: those of the book without the cancelled, and the new ones.
abbrev pub trading : State → Block → List Offer
trading s b = filter (λ o. nat_eq (cancels_of b o.key) 0) s.book.offers ++ placements b

-- An offer is eligible if the block's prices meet its limit. The limit counts 65,536ths of the bought asset that are wanted
-- for one unit sold, and a unit sold gets (price of the sold asset) ÷ (price of the bought asset) units of the bought one.
abbrev pub eligible : Block → Key → Bool
eligible b k = nat_le (k.limit * price b k.bought) (price b k.sold * 65536)

-- an eligible offer of a pair
abbrev pub eligible_in : Block → ℕ → ℕ → Key → Bool
eligible_in b x y k = k.sold == x && k.bought == y && eligible b k

-- all eligible amounts of a pair
abbrev pub supply : State → Block → ℕ → ℕ → ℕ
supply s b x y = sum_by (λ o. cond (eligible_in b x y o.key) o.amount 0) (trading s b)

-- the eligible amounts of a key's pair that stand before the key
abbrev pub before : State → Block → Key → ℕ
before s b k =
    sum_by (λ o. cond (eligible_in b k.sold k.bought o.key && lower (place o) (words k)) o.amount 0) (trading s b)

-- How a volume is shared: offers are sold whole in key order until the volume is used, the last one in part. This is what
-- an offer gets of the volume, where so much is offered before it.
abbrev pub share : (volume before amount : ℕ) → ℕ
share v n a = min a (v - n)

-- What is sold of a key: units of its sold asset. 0 if it is not eligible, not in trade or not reached.
abbrev pub sold : State → Block → Key → ℕ
sold s b k = cond (eligible b k) (share (volume b k.sold k.bought) (before s b k) (amount_at (trading s b) k)) 0

-- What is paid for n units of asset x, in units of asset y: n × price of x ÷ price of y, rounded down.
abbrev pub pay_for : Block → ℕ → ℕ → ℕ → ℕ
pay_for b x y n = n * price b x / price b y

-- What is paid to a key: units of its bought asset.
abbrev pub paid : State → Block → Key → ℕ
paid s b k = pay_for b k.sold k.bought (sold s b k)

-- what the block pays to an account in an asset, and to all
abbrev pub payout : State → Block → ℕ → ℕ → ℕ
payout s b n y = sum_by (λ o. cond (o.key.account == n && o.key.bought == y) (paid s b o.key) 0) (trading s b)

abbrev pub paid_in : State → Block → ℕ → ℕ
paid_in s b y = sum_by (λ o. cond (o.key.bought == y) (paid s b o.key) 0) (trading s b)

-- The block's remainder of an asset: what is sold of it less what is paid in it.
abbrev pub left_over : State → Block → ℕ → ℕ
left_over s b x = volume_of b x - paid_in s b x
