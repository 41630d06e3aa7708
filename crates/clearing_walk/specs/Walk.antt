-- How far the fills of a block have come: the offers in trade are walked by rising key, and a cursor tells where the walk
-- stands. A cursor is a list of numbers, compared with keys in turn: it may be a key, or only the beginning of one.
-- s is the state before the block, b the block, st₀ the account store before the walk, st and os the store and the offers
-- of the book now. Assumes nothing.
use Rattle.std.specs.Prelude.{◌≡◌, ℕ, ◌+◌, ◌-◌, ◌*◌, ◌/◌, ◌<◌, ◌≤◌, min, true, cond, ◌&&◌, List, [], ◌∷◌, length, Some, None, Ok, Err, sum_by, Option, Result, ◌==◌, slice_index, slice_index_or}
use Rattle.std.specs.List.{AllByRecursion}
use Rattle.terms.specs.declared.Fault.{Fault}
use Rattle.terms.specs.declared.Key.{Key}
use Rattle.terms.specs.declared.Offer.{Offer}
use Rattle.terms.specs.declared.Volume.{Volume}
use Rattle.terms.specs.Order.{lower, words, place, under}
use Rattle.terms.specs.Holdings.{Store, Book, standing, floor_at, balance_at, amount_at}
use Rattle.accounts.specs.Changes.{BalanceSet}
use Rattle.offers.specs.Changes.{Reduced}
use Rattle.blocks.specs.Readable.{Block, fit_block}
use Rattle.exchange.specs.State.{State}
use Rattle.exchange.specs.Trade.{trading, price, volume, eligible_in, sold, paid, payout, paid_in}
use Rattle.clearing_walk.specs.declared.Fill.{Fill}
use Rattle.clearing_walk.specs.declared.rates.Rates.{Rates}

-- the largest amount and balance, 2^36 − 1
abbrev pub largest : ℕ
largest = 68719476735

-- Before and after the walk.

-- What a walk needs, so that nothing is refused on the way: each key is in trade once, no limit is 0, each owner stands, and
-- there is room for what is paid to each and to all.
pub record Ready (s : State) (b : Block) (st : Store) : Type 0 where
  pub once : (z : Offer) → under place (λ _. 1) (trading s b) (place z) ≤ 1
  pub limits : AllByRecursion (λ o. 0 < o.key.limit) (trading s b)
  pub owners : AllByRecursion (λ o. 0 < standing s.store o.key.account) (trading s b)
  pub stand : (n : ℕ) → standing st n ≡ standing s.store n
  pub room : (n y : ℕ) → 0 < standing s.store n → y < 8 → balance_at st n y + payout s b n y ≤ largest
  pub paid : (y : ℕ) → y < 8 → paid_in s b y ≤ largest

-- the same accounts with the same floors, and the same room for accounts
pub record Kept (s t : Store) : Type 0 where
  pub capacity : t.capacity ≡ s.capacity
  pub top : t.top ≡ s.top
  pub count : length t.accounts ≡ length s.accounts
  pub stand : (n : ℕ) → standing t n ≡ standing s n
  pub floors : (n : ℕ) → floor_at t n ≡ floor_at s n

-- All fills are made and paid for; outs is what is paid in each asset.
pub record Filled (s : State) (b : Block) (st₀ st : Store) (os : List Offer) (outs : List ℕ) : Type 0 where
  pub kept : Kept st₀ st
  pub amounts : (j : Key) → amount_at os j + sold s b j ≡ amount_at (trading s b) j
  pub balances : (n y : ℕ) → balance_at st n y ≡ balance_at st₀ n y + payout s b n y
  pub paid : (y : ℕ) → y < 8 → slice_index outs y ≡ paid_in s b y

-- the walk over all pairs: no refusal, and all fills are made
abbrev pub FillsDone : State → Block → Store → Store → List Offer → Result (List ℕ) Fault → Type 0
FillsDone s b st₀ st os (Err e) = ⊥
FillsDone s b st₀ st os (Ok outs) = Filled s b st₀ st os outs

-- where a call succeeds, the room for offers is n as it was m
abbrev pub SameRoom : {X : Type 0} → ℕ → ℕ → Result X Fault → Type 0
SameRoom m n (Ok _) = n ≡ m
SameRoom m n (Err _) = Unit {0}

-- The fill of one offer.

-- n of the key k is sold, as much as there is and at most `rest`: it leaves the book, and the payout p reaches the owner
pub record Settled (k : Key) (rest : ℕ) (rates : Rates) (st st' : Store) (bk bk' : Book) (n p : ℕ) : Type 0 where
  pub sold : n ≡ min (amount_at bk.offers k) rest
  pub paid : p ≡ n * rates.sold / rates.bought
  pub book : Reduced bk k (amount_at bk.offers k - n) bk'
  pub store : BalanceSet st k.account k.bought (balance_at st k.account k.bought + p) st'

-- nothing stands in the way of a fill: there is such an offer, and its owner has room for the payout
pub record Able (k : Key) (rest : ℕ) (rates : Rates) (st : Store) (os : List Offer) : Type 0 where
  pub some : 0 < amount_at os k
  pub owner : 0 < standing st k.account
  pub bought : k.bought < 8
  pub room : balance_at st k.account k.bought + min (amount_at os k) rest * rates.sold / rates.bought ≤ largest

-- the fill is made, or something stood in its way
abbrev pub Settles : Key → ℕ → Rates → Store → Store → Book → Book → Result Fill Fault → Type 0
Settles k rest rates st st' bk bk' (Ok f) = (f.key ≡ k) × Settled k rest rates st st' bk bk' f.sold f.paid
Settles k rest rates st st' bk bk' (Err e) = Able k rest rates st bk.offers → ⊥

-- The invariant of the walk.

-- f over the keys in trade that do not stand after the cursor c
abbrev pub sum_to : State → Block → List ℕ → (Key → ℕ) → ℕ
sum_to s b c f = sum_by (λ o. cond (lower c (place o)) 0 (f o.key)) (trading s b)

-- what a key's fill pays to the account n in the asset y, and to anyone
abbrev pub pay_to : State → Block → ℕ → ℕ → Key → ℕ
pay_to s b n y k = cond (k.account == n && k.bought == y) (paid s b k) 0

abbrev pub pay_in : State → Block → ℕ → Key → ℕ
pay_in s b y k = cond (k.bought == y) (paid s b k) 0

-- the amount of a key that is an eligible one of the pair
abbrev pub weight : State → Block → ℕ → ℕ → Key → ℕ
weight s b x y j = cond (eligible_in b x y j) (amount_at (trading s b) j) 0

-- The offers up to the cursor are filled and paid for, the others are as they were.
pub record Walked (s : State) (b : Block) (st₀ : Store) (c : List ℕ) (st : Store) (os : List Offer) : Type 0 where
  pub kept : Kept st₀ st
  pub amounts : (j : Key) → amount_at os j + cond (lower c (words j)) 0 (sold s b j) ≡ amount_at (trading s b) j
  pub balances : (n y : ℕ) → balance_at st n y ≡ balance_at st₀ n y + sum_to s b c (pay_to s b n y)

-- The walk over one pair, from asset x to asset y.

-- it stands at the pair's key k, and `rest` is left of the volume
pub record At (s : State) (b : Block) (st₀ : Store) (x y : ℕ) (k : Key) (rest : ℕ) (st : Store) (os : List Offer) : Type 0 where
  pub walked : Walked s b st₀ (words k) st os
  pub sells : k.sold ≡ x
  pub buys : k.bought ≡ y
  pub left : rest ≡ volume b x y - sum_to s b (words k) (weight s b x y)

-- nothing of the pair is sold after the key
abbrev pub Used : State → Block → ℕ → ℕ → Key → Type 0
Used s b x y k = (j : Key) → j.sold ≡ x → j.bought ≡ y → lower (words k) (words j) ≡ true → sold s b j ≡ 0

-- what is known of the prices that the walk is handed
pub record Priced (s : State) (b : Block) (st₀ : Store) (x y : ℕ) (rates : Rates) : Type 0 where
  pub ready : Ready s b st₀
  pub bought : y < 8
  pub price_sold : rates.sold ≡ price b x
  pub price_bought : rates.bought ≡ price b y

-- one turn: the pair has no more to sell, or the next offer is filled
abbrev pub Turned : State → Block → Store → ℕ → ℕ → Key → ℕ → Store → List Offer → Result (Option Fill) Fault → Type 0
Turned s b st₀ x y k rest st os (Err e) = ⊥
Turned s b st₀ x y k rest st os (Ok None) = At s b st₀ x y k rest st os × Used s b x y k
Turned s b st₀ x y k rest st os (Ok (Some f)) =
    At s b st₀ x y f.key (rest - f.sold) st os
    × ((z : ℕ) → sum_to s b (words f.key) (pay_in s b z) ≡ sum_to s b (words k) (pay_in s b z) + cond (y == z) f.paid 0)

-- what a turn sells and pays is small enough for the sums of a walk
abbrev pub Bounded : ℕ → Rates → Result (Option Fill) Fault → Type 0
Bounded rest rates (Err e) = Unit {0}
Bounded rest rates (Ok None) = Unit {0}
Bounded rest rates (Ok (Some f)) = (0 < f.sold) × (f.sold ≤ rest) × (f.paid ≤ f.sold * rates.sold)

-- between two turns: `out` is what the pair has paid so far
pub record Going (s : State) (b : Block) (st₀ : Store) (x y : ℕ) (k : Key) (rest out : ℕ) (st : Store) (os : List Offer) : Type 0 where
  pub at : At s b st₀ x y k rest st os
  pub pays : (z : ℕ) → sum_to s b (words k) (pay_in s b z) ≡ sum_to s b (x ∷ y ∷ []) (pay_in s b z) + cond (y == z) out 0

-- the whole pair: all up to the next pair is filled, and `out` is paid in the asset y
abbrev pub PairDone : State → Block → Store → ℕ → ℕ → Store → List Offer → Result ℕ Fault → Type 0
PairDone s b st₀ x y st os (Err e) = ⊥
PairDone s b st₀ x y st os (Ok out) =
    Walked s b st₀ (x ∷ (y + 1) ∷ []) st os
    × ((z : ℕ) → sum_to s b (x ∷ (y + 1) ∷ []) (pay_in s b z) ≡ sum_to s b (x ∷ y ∷ []) (pay_in s b z) + cond (y == z) out 0)

-- The walk over the pairs.

-- the block has these prices and volumes, and is in range
pub record Holds (b : Block) (ps : List ℕ) (vs : List Volume) : Type 0 where
  pub fit : fit_block b ≡ true
  pub prices : b.prices ≡ ps
  pub volumes : b.volumes ≡ vs

-- past the last volume
abbrev pub last : Volume
last = record { sold = 8; bought = 0; amount = 0 }

-- the first cursor of the i-th volume's pair; past the last, that of no pair
abbrev pub pair_start : List Volume → ℕ → List ℕ
pair_start vs i = (slice_index_or vs i last).sold ∷ (slice_index_or vs i last).bought ∷ []

-- before the i-th volume: outs is what is paid in each asset so far
pub record Passing (s : State) (b : Block) (st₀ : Store) (i : ℕ) (st : Store) (os : List Offer) (outs : List ℕ) : Type 0 where
  pub walked : Walked s b st₀ (pair_start b.volumes i) st os
  pub paid : (y : ℕ) → y < 8 → slice_index outs y ≡ sum_to s b (pair_start b.volumes i) (pay_in s b y)
