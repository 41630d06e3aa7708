-- What clearing a block leaves of store, book and remainders. Assumes nothing.
-- s is the state before the block, b the block.
use Rattle.std.specs.Prelude.{◌≡◌, ℕ, ◌+◌, ◌<◌, ◌≤◌, true, ◌⊎◌, List, [], ◌∷◌, length, Result, MatchResult, ◌≢◌, slice_index}
use Rattle.std.specs.List.{ContainsAt as Has}
use Rattle.terms.specs.declared.Fault.{Fault}
use Rattle.terms.specs.declared.Key.{Key}
use Rattle.terms.specs.declared.Transaction.{Transaction}
use Rattle.terms.specs.Order.{under}
use Rattle.terms.specs.Holdings.{Store, Book, standing, floor_at, balance_at, amount_at, sound_store, sound_book}
use Rattle.blocks.specs.Readable.{Block}
use Rattle.exchange.specs.State.{State, remainder}
use Rattle.exchange.specs.Trade.{openings, incoming, outgoing, trading, sold, payout, left_over}
use Rattle.exchange.specs.Commit.{Committed, digest_of, one_committed}
use Rattle.tally.specs.declared.effects.Net.{Net}
use Rattle.judging_balances.specs.declared.Slot.{Slot}
use Rattle.clearing_store.specs.Changes.{holder, gets, gives}

-- The nets of a block: under each account and asset, what comes in and what goes out; no account has two nets of one asset.
pub record Nets (s : State) (b : Block) (ns : List (Net Slot)) : Type 0 where
  pub once : (n x : ℕ) → under holder (λ _. 1) ns (n ∷ x ∷ []) ≤ 1
  pub ins : (n x : ℕ) → gets ns n x ≡ incoming s b n x
  pub outs : (n x : ℕ) → gives ns n x ≡ outgoing s b n x

-- the state s with this store, this book and these remainders
abbrev pub over : State → Store → Book → List ℕ → State
over s st bk rs = record {
  founded = s.founded;
  store = st;
  book = bk;
  own = record { height = s.own.height; digest = s.own.digest; remainders = rs };
  counts = s.counts;
}

-- Store, book and remainders are as a commit of b to s leaves them.
pub record Cleared (s : State) (b : Block) (st : Store) (bk : Book) (rs : List ℕ) : Type 0 where
  -- the capacities and the top stay
  pub accounts : st.capacity ≡ s.store.capacity
  pub top : st.top ≡ s.store.top
  pub offers : bk.capacity ≡ s.book.capacity
  -- new accounts open
  pub stand : (n : ℕ) → standing st n ≡ standing s.store n + openings b n
  -- each source's floor becomes the highest number it used; the other floors stay
  pub used : (u : Transaction) → Has b.transactions u → u.sequence ≤ floor_at st u.source
  pub last : (n : ℕ)
      → ((floor_at st n ≡ floor_at s.store n) × ((u : Transaction) → Has b.transactions u → u.source ≢ n))
      ⊎ ((u : Transaction) × Has b.transactions u × (u.source ≡ n) × (floor_at st n ≡ u.sequence))
  -- nets and payouts reach the balances
  pub balances : (n x : ℕ) → x < 8
      → balance_at st n x + outgoing s b n x ≡ balance_at s.store n x + incoming s b n x + payout s b n x
  -- of the offers in trade, what is not sold stays
  pub amounts : (k : Key) → amount_at bk.offers k + sold s b k ≡ amount_at (trading s b) k
  -- remainders add up
  pub eight : length rs ≡ 8
  pub remain : (x : ℕ) → x < 8 → slice_index rs x ≡ remainder s x + left_over s b x

-- The block is cleared; there is no refusal.
abbrev pub ClearedOr : State → Block → Store → Book → List ℕ → Result (Unit {0}) Fault → Type 0
ClearedOr s b st bk rs r = MatchResult r (λ _. Cleared s b st bk rs) (λ _. ⊥)

-- the state after a commit that leaves this store, this book, these remainders and the digest d
abbrev pub after : State → Store → Book → List ℕ → List ℕ → State
after s st bk rs d = record {
  founded = s.founded;
  store = st;
  book = bk;
  own = record { height = s.own.height + 1; digest = d; remainders = rs };
  counts = one_committed s.counts;
}

-- What a clearing leaves, with the digest renewed, is what a commit gives.
abbrev pub Commits : Type 0
Commits =
    (s : State) (b : Block) (st : Store) (bk : Book) (rs d : List ℕ) → Cleared s b st bk rs
    → sound_store st ≡ true → sound_book bk ≡ true → d ≡ digest_of (after s st bk rs d) → Committed s b (after s st bk rs d)
