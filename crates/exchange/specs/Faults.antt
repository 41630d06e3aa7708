-- Why a block or a founding is refused: each cause, at its places, and the least fault. Assumes nothing.
-- The causes that lie in the bytes alone, 1 to 7, stand with the reader of blocks.
use Rattle.std.specs.Prelude.{◌≡◌, ℕ, ◌+◌, ◌*◌, ◌<◌, Bool, false, ◌&&◌, ◌⊎◌, List, [], ◌∷◌, length, Some, None, sum_by, count_by, Option, ◌≢◌, nat_eq, nat_le, nat_lt, slice_index}
use Rattle.std.specs.List.{ContainsAt as Has}
use Rattle.terms.specs.declared.Key.{Key}
use Rattle.terms.specs.declared.Transaction.{Transaction}
use Rattle.terms.specs.declared.Grant.{Grant}
use Rattle.terms.specs.declared.Fault.{Fault}
use Rattle.terms.specs.Order.{lower, rank, under}
use Rattle.terms.specs.Holdings.{Store, standing, floor_at, balance_at, amount_at}
use Rattle.blocks.specs.Readable.{Block}
use Rattle.exchange.specs.State.{State}
use Rattle.exchange.specs.Trade.{Payment, created, paying, cancelled, creations, placements, cancellations, openings, cancels_of, incoming, outgoing, price, volume, volume_of, worth_for, supply}

abbrev pub fault : ℕ → ℕ → ℕ → Fault
fault n i j = record { number = n; first = i; second = j }

-- No fault, or the least of them: by number, then first, then second place.
abbrev pub Least : (Fault → Type 0) → Option Fault → Type 0
Least P None = (f : Fault) → P f → ⊥
Least P (Some f) = P f × ((g : Fault) → P g → lower (rank g) (rank f) ≡ false)

-- The good sequence numbers of an account are the 64 above its floor.
abbrev pub in_window : (floor sequence : ℕ) → Bool
in_window n q = nat_lt n q && nat_le q (n + 64)

-- a transaction goes by its source and its sequence number
abbrev pub tag : Transaction → List ℕ
tag t = t.source ∷ t.sequence ∷ []

-- Why a block is refused.
pub data Cause : Type 0 where
  wrong_height wrong_parent uncleared no_source out_of_window repeated no_receiver bad_account no_offer cancelled_twice
      overdrawn accounts_full offers_full excess_volume : Cause

abbrev pub number : Cause → ℕ
number wrong_height = 8
number wrong_parent = 9
number uncleared = 10
number no_source = 11
number out_of_window = 12
number repeated = 13
number no_receiver = 14
number bad_account = 15
number no_offer = 16
number cancelled_twice = 17
number overdrawn = 18
number accounts_full = 19
number offers_full = 20
number excess_volume = 21

-- the block has the transaction t, which goes by i and j
abbrev pub HasAt : Block → Transaction → ℕ → ℕ → Type 0
HasAt b t i j = Has b.transactions t × (t.source ≡ i) × (t.sequence ≡ j)

-- The cause holds of the block, at the places i and j. Standing means before the block.
abbrev pub Bad : State → Block → Cause → ℕ → ℕ → Type 0
-- 8: the height is not the replica's + 1; at the block's and the replica's
Bad s b wrong_height i j = (b.height ≢ s.own.height + 1) × (i ≡ b.height) × (j ≡ s.own.height)
-- 9: the parent is not the replica's digest
Bad s b wrong_parent i j = (b.parent ≢ s.own.digest) × (i ≡ 0) × (j ≡ 0)
-- 10: what is sold for an asset is worth more than what is sold of it; at the asset
Bad s b uncleared i j = (i < 8) × (volume_of b i * price b i < worth_for b i) × (j ≡ 0)
-- 11: the source does not stand; here and up to 17 at the transaction
Bad s b no_source i j = (t : Transaction) × HasAt b t i j × (standing s.store i ≡ 0)
-- 12: the sequence number is none of the good ones
Bad s b out_of_window i j = (t : Transaction) × HasAt b t i j × (in_window (floor_at s.store i) j ≡ false)
-- 13: source and sequence number occur twice
Bad s b repeated i j = 1 < under tag (λ _. 1) b.transactions (i ∷ j ∷ [])
-- 14: the receiver does not stand
Bad s b no_receiver i j =
    (t : Transaction) × HasAt b t i j × ((p : Payment) × Has (paying t) p × (standing s.store p.receiver ≡ 0))
-- 15: the new account stands, is above the top or is in two creations
Bad s b bad_account i j =
    (t : Transaction) × HasAt b t i j × ((n : ℕ) × Has (created t) n
    × ((0 < standing s.store n) ⊎ ((s.store.top < n) ⊎ (1 < openings b n))))
-- 16: the cancelled offer does not stand
Bad s b no_offer i j =
    (t : Transaction) × HasAt b t i j × ((k : Key) × Has (cancelled t) k × (amount_at s.book.offers k ≡ 0))
-- 17: the offer is in two cancellations
Bad s b cancelled_twice i j = (t : Transaction) × HasAt b t i j × ((k : Key) × Has (cancelled t) k × (1 < cancels_of b k))
-- 18: balance and net are below zero; at the account and the asset
Bad s b overdrawn i j = (j < 8) × (balance_at s.store i j + incoming s b i j < outgoing s b i j)
-- 19: the accounts would exceed the store's capacity
Bad s b accounts_full i j = (s.store.capacity < length s.store.accounts + length (creations b)) × (i ≡ 0) × (j ≡ 0)
-- 20: the offers would exceed the book's capacity
Bad s b offers_full i j =
    (s.book.capacity + length (cancellations b) < length s.book.offers + length (placements b)) × (i ≡ 0) × (j ≡ 0)
-- 21: a volume exceeds what is eligible of its pair; at the pair
Bad s b excess_volume i j = supply s b i j < volume b i j

abbrev pub Faulty : State → Block → Fault → Type 0
Faulty s b f = (c : Cause) × (f.number ≡ number c) × Bad s b c f.first f.second

-- What a replica finds in a readable block: nothing, or the least fault.
abbrev pub Verdict : State → Block → Option Fault → Type 0
Verdict s b v = Least (Faulty s b) v

-- Why a founding is refused, over an empty store.

-- what the founding gives of an asset
abbrev pub granted : List Grant → ℕ → ℕ
granted gs x = sum_by (λ g. slice_index g.balances x) gs

pub data Objection : Type 0 where
  bad_grant too_many_grants excess_grants : Objection

abbrev pub objection_number : Objection → ℕ
objection_number bad_grant = 15
objection_number too_many_grants = 19
objection_number excess_grants = 23

abbrev pub Objected : Store → List Grant → Objection → ℕ → ℕ → Type 0
-- 15: the account is above the top or in two grants; at the account
Objected st gs bad_grant i j =
    (g : Grant) × Has gs g × (g.account ≡ i) × ((st.top < i) ⊎ (1 < count_by (λ h. nat_eq h.account i) gs)) × (j ≡ 0)
-- 19: more accounts than the store has room for
Objected st gs too_many_grants i j = (st.capacity < length gs) × (i ≡ 0) × (j ≡ 0)
-- 23: more of an asset than the largest amount; at the asset
Objected st gs excess_grants i j = (i < 8) × (68719476735 < granted gs i) × (j ≡ 0)

-- What is found in a readable founding: nothing, or the least fault.
abbrev pub FoundingVerdict : Store → List Grant → Option Fault → Type 0
FoundingVerdict st gs v =
    Least (λ f. (c : Objection) × (f.number ≡ objection_number c) × Objected st gs c f.first f.second) v
