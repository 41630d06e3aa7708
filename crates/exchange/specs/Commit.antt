-- What a founding and a commit make of a state, and the digest of a state. Assumes nothing.
use Rattle.std.specs.Prelude.{◌≡◌, ℕ, ◌+◌, ◌<◌, ◌≤◌, min, true, cond, ◌⊎◌, List, [], ◌∷◌, ◌++◌, length, replicate, sum_by, count_by, ◌==◌, ◌≢◌, nat_eq, slice_index}
use Rattle.std.specs.List.{ContainsAt as Has, flat_map, AllByRecursion}
use Rattle.terms.specs.declared.Account.{Account}
use Rattle.terms.specs.declared.Key.{Key}
use Rattle.terms.specs.declared.Offer.{Offer}
use Rattle.terms.specs.declared.Transaction.{Transaction}
use Rattle.terms.specs.declared.Grant.{Grant}
use Rattle.terms.specs.Bytes.{bytes_of}
use Rattle.terms.specs.Ranges.{is_word}
use Rattle.terms.specs.Order.{Rising, name, place}
use Rattle.terms.specs.Holdings.{standing, floor_at, balance_at, amount_at, free_of, offered_of, sound_store, sound_book}
use Rattle.sha256.specs.Digest.{sha256}
use Rattle.blocks.specs.Readable.{Block}
use Rattle.exchange.specs.State.{Counts, State, remainder, most, no_counts}
use Rattle.exchange.specs.Trade.{openings, incoming, outgoing, trading, sold, payout, left_over}

-- The state's bytes: 0x53, the height, the remainders; how many accounts there are, and each; how many offers, and each.
-- Counts, capacities and top are not in it.

abbrev pub account_bytes : Account → List ℕ
account_bytes a = bytes_of 4 a.number ++ (bytes_of 4 a.floor ++ flat_map (bytes_of 8) a.balances)

abbrev pub key_bytes : Key → List ℕ
key_bytes k =
    bytes_of 1 k.sold ++ (bytes_of 1 k.bought ++ (bytes_of 4 k.limit ++ (bytes_of 4 k.account ++ bytes_of 4 k.sequence)))

abbrev pub offer_bytes : Offer → List ℕ
offer_bytes o = key_bytes o.key ++ bytes_of 8 o.amount

abbrev pub state_bytes : State → List ℕ
state_bytes s =
    0x53 ∷ (bytes_of 4 s.own.height ++ (flat_map (bytes_of 8) s.own.remainders
    ++ (bytes_of 4 (length s.store.accounts) ++ (flat_map account_bytes s.store.accounts
    ++ (bytes_of 4 (length s.book.offers) ++ flat_map offer_bytes s.book.offers)))))

-- The digest of a state: SHA-256 of exactly those bytes.
abbrev pub digest_of : State → List ℕ
digest_of s = sha256 (state_bytes s)

-- Accounts and offers in order, each account with eight balances, no offer of 0, eight remainders.
pub record Ordered (s : State) : Type 0 where
  pub accounts : Rising name s.store.accounts
  pub offers : Rising place s.book.offers
  pub eight : AllByRecursion (λ a. length a.balances ≡ 8) s.store.accounts
  pub some : AllByRecursion (λ o. 0 < o.amount) s.book.offers
  pub remainders : length s.own.remainders ≡ 8

-- Each offer's account stands, and the offer's sequence number is one that the account has used.
pub record Owned (s : State) : Type 0 where
  pub ordered : Ordered s
  pub owners : AllByRecursion (λ o. 0 < standing s.store o.key.account) s.book.offers
  pub numbers : AllByRecursion (λ o. o.key.sequence ≤ floor_at s.store o.key.account) s.book.offers

-- What holds of every founded state between two calls: all numbers are in their ranges, accounts and offers do not exceed
-- the capacities, each asset adds up to at most the largest amount, and the digest is that of the state.
pub record Sound (s : State) : Type 0 where
  pub owned : Owned s
  pub store : sound_store s.store ≡ true
  pub book : sound_book s.book ≡ true
  pub total : (x : ℕ) → x < 8 → free_of s.store x + offered_of s.book x + remainder s x ≤ 68719476735
  pub height : is_word s.own.height ≡ true
  pub digest : s.own.digest ≡ digest_of s

-- What neither a founding nor a commit changes: the capacities of store and book, and the top.
pub record SameCapacities (s t : State) : Type 0 where
  pub accounts : t.store.capacity ≡ s.store.capacity
  pub top : t.store.top ≡ s.store.top
  pub offers : t.book.capacity ≡ s.book.capacity

-- The founding of s by the grants gs, without fault, gives t.
pub record Founded (s : State) (gs : List Grant) (t : State) : Type 0 where
  pub ordered : Ordered t
  pub capacities : SameCapacities s t
  -- the accounts of the grants stand, with the balances granted, and no number used; no offers
  pub stand : (n : ℕ) → standing t.store n ≡ count_by (λ g. nat_eq g.account n) gs
  pub unused : (n : ℕ) → floor_at t.store n ≡ 0
  pub balances : (n x : ℕ) → x < 8
      → balance_at t.store n x ≡ sum_by (λ g. cond (g.account == n) (slice_index g.balances x) 0) gs
  pub none : t.book.offers ≡ []
  pub founded : t.founded ≡ true
  pub height : t.own.height ≡ 0
  pub remainders : t.own.remainders ≡ replicate 8 0
  pub digest : t.own.digest ≡ digest_of t
  pub counts : t.counts ≡ no_counts

-- The counts after a check that passed, a commit, a refused commit and a reject. The last two stop at the largest number;
-- a check that would pass it is refused, and no more can be committed than passed.
abbrev pub one_passed : Counts → Counts
one_passed c = record { passed = c.passed + 1; committed = c.committed; lapsed = c.lapsed; rejected = c.rejected }

abbrev pub one_committed : Counts → Counts
one_committed c = record { passed = c.passed; committed = c.committed + 1; lapsed = c.lapsed; rejected = c.rejected }

abbrev pub one_lapsed : Counts → Counts
one_lapsed c = record { passed = c.passed; committed = c.committed; lapsed = min (c.lapsed + 1) most; rejected = c.rejected }

abbrev pub one_rejected : Counts → Counts
one_rejected c = record { passed = c.passed; committed = c.committed; lapsed = c.lapsed; rejected = min (c.rejected + 1) most }

-- the state with other counts
abbrev pub counted : State → Counts → State
counted s c = record { founded = s.founded; store = s.store; book = s.book; own = s.own; counts = c }

-- The commit of b to s, without fault, gives t.
pub record Committed (s : State) (b : Block) (t : State) : Type 0 where
  pub ordered : Ordered t
  pub capacities : SameCapacities s t
  -- new accounts open
  pub stand : (n : ℕ) → standing t.store n ≡ standing s.store n + openings b n
  -- each source's floor becomes the highest number it used; the other floors stay
  pub used : (u : Transaction) → Has b.transactions u → u.sequence ≤ floor_at t.store u.source
  pub last : (n : ℕ)
      → ((floor_at t.store n ≡ floor_at s.store n) × ((u : Transaction) → Has b.transactions u → u.source ≢ n))
      ⊎ ((u : Transaction) × Has b.transactions u × (u.source ≡ n) × (floor_at t.store n ≡ u.sequence))
  -- nets and payouts reach the balances
  pub balances : (n x : ℕ) → x < 8
      → balance_at t.store n x + outgoing s b n x ≡ balance_at s.store n x + incoming s b n x + payout s b n x
  -- of the offers in trade, what is not sold stays
  pub amounts : (k : Key) → amount_at t.book.offers k + sold s b k ≡ amount_at (trading s b) k
  -- remainders add up, the height rises by 1, the digest is renewed, one more is committed
  pub remain : (x : ℕ) → x < 8 → remainder t x ≡ remainder s x + left_over s b x
  pub height : t.own.height ≡ s.own.height + 1
  pub digest : t.own.digest ≡ digest_of t
  pub founded : t.founded ≡ s.founded
  pub counts : t.counts ≡ one_committed s.counts
