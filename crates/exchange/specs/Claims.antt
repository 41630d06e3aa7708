-- The laws of the exchange. Assumes nothing.
use Rattle.std.specs.Prelude.{◌≡◌, ℕ, ◌+◌, ◌*◌, ◌/◌, ◌<◌, ◌≤◌, true, List, is_some, None, count_by, Option}
use Rattle.std.specs.List.{AllZip}
use Rattle.std.specs.List.Sorted.{IsPermutation}
use Rattle.terms.specs.declared.Key.{Key}
use Rattle.terms.specs.declared.Grant.{Grant}
use Rattle.terms.specs.declared.Fault.{Fault}
use Rattle.terms.specs.Order.{lower, words}
use Rattle.terms.specs.Holdings.{Store, Book, free_of, offered_of, amount_at, sound_store, sound_book}
use Rattle.blocks.specs.Readable.{Block, Readable}
use Rattle.exchange.specs.State.{State, remainder, most}
use Rattle.exchange.specs.Trade.{eligible, trading, sold, paid, paid_in, volume_of}
use Rattle.exchange.specs.Faults.{Faulty, Verdict, granted, FoundingVerdict}
use Rattle.exchange.specs.Commit.{Founded, Committed, Sound}
use Rattle.exchange.specs.Life.{Event, Answer, Life, birth, Holds, Step, Runs, Rearranged, Fair}
use Rattle.exchange.specs.Life.Event.{fill, commit}
use Rattle.exchange.specs.Life.Answer.{done, filled}

-- Two blocks come to the same: they have the same faults, the same fills, and commit to the same state.
pub record SameOutcome (s : State) (b c : Block) : Type 0 where
  pub faults : (f : Fault) → Faulty s b f → Faulty s c f
  pub no_others : (f : Fault) → Faulty s c f → Faulty s b f
  pub verdicts : (v w : Option Fault) → Verdict s b v → Verdict s c w → v ≡ w
  pub solds : (k : Key) → sold s b k ≡ sold s c k
  pub paids : (k : Key) → paid s b k ≡ paid s c k
  pub commits : (t u : State) → Committed s b t → Committed s c u → t ≡ u

-- The order of a block's transactions does not matter.
abbrev pub OrderFree : Type 0
OrderFree = (s : State) (b c : Block) → Rearranged b c → SameOutcome s b c

-- A commit has at most one outcome.
abbrev pub OneOutcome : Type 0
OneOutcome = (s : State) (b : Block) (t u : State) → Committed s b t → Committed s b u → t ≡ u

-- Two foundings come to the same: they are refused alike, and found the same state.
pub record SameFounded (s : State) (gs hs : List Grant) : Type 0 where
  pub verdicts : (v w : Option Fault) → FoundingVerdict s.store gs v → FoundingVerdict s.store hs w → v ≡ w
  pub states : (t u : State) → Founded s gs t → Founded s hs u → t ≡ u

-- The order of a founding's grants does not matter.
abbrev pub FoundingOrderFree : Type 0
FoundingOrderFree = (s : State) (gs hs : List Grant) → IsPermutation gs hs → SameFounded s gs hs

-- Two replicas that begin with equal stores and books, and to which the same events come, but for the order of transactions
-- and grants, give equal answers to every event, and hold the same after it.
abbrev pub ReplicasAgree : Type 0
ReplicasAgree =
    (st : Store) (bk : Book) (es fs : List Event) → AllZip Fair es fs
    → (us vs : List Answer) (l m : Life) → Runs (birth st bk) es us l → Runs (birth st bk) fs vs m
    → (us ≡ vs) × (l.state ≡ m.state)

-- From the founding on, of each asset the free balances, the offered amounts and the remainder add up to what was founded.
abbrev pub Conserved : Type 0
Conserved =
    (st : Store) (bk : Book) (es : List Event) (us : List Answer) (l : Life) → Runs (birth st bk) es us l
    → l.state.founded ≡ true
    → (x : ℕ) → x < 8
    → free_of l.state.store x + offered_of l.state.book x + remainder l.state x ≡ granted l.grants x

-- Ranges last: where a life begins with a store and a book in order and in range, every founded state is sound.
abbrev pub SoundForLife : Type 0
SoundForLife =
    (st : Store) (bk : Book) → sound_store st ≡ true → sound_book bk ≡ true
    → (es : List Event) (us : List Answer) (l : Life) → Runs (birth st bk) es us l
    → l.state.founded ≡ true
    → Sound l.state

-- A block without fault pays no more of an asset than it sells of it, at every founded state of a life.
abbrev pub PayoutsCovered : Type 0
PayoutsCovered =
    (st : Store) (bk : Book) (es : List Event) (us : List Answer) (l : Life) → Runs (birth st bk) es us l
    → l.state.founded ≡ true
    → (bs : List ℕ) (b : Block) → Readable bs b → Verdict l.state b None
    → (x : ℕ) → x < 8 → paid_in l.state b x ≤ volume_of b x

-- An offer is served by its limit and in its turn: it is paid at least the whole part of sold × limit ÷ 65,536, and each
-- eligible offer of its pair with a lower key is sold whole.
pub record Served (s : State) (b : Block) (k : Key) : Type 0 where
  pub pays : sold s b k * k.limit / 65536 ≤ paid s b k
  pub first : (j : Key) → j.sold ≡ k.sold → j.bought ≡ k.bought → eligible b j ≡ true → lower (words j) (words k) ≡ true
      → sold s b j ≡ amount_at (trading s b) j

-- Each offer that is filled is served: filled by a readable block; as a fill tells; as a commit applies.
pub record LimitsKept : Type 0 where
  pub blocks : (s : State) (bs : List ℕ) (b : Block) → Readable bs b → (k : Key) → 0 < sold s b k → Served s b k
  -- and what is not sold is not paid
  pub unfilled : (s : State) (b : Block) (k : Key) → sold s b k ≡ 0 → paid s b k ≡ 0
  pub fills : (l m : Life) (i : ℕ) (k : Key) (n p : ℕ) → Step l (fill i k) (filled n p) m → 0 < n
      → (bs : List ℕ) × (b : Block) × Holds l i bs × Readable bs b
      × (n ≡ sold l.state b k) × (p ≡ paid l.state b k) × Served l.state b k
  pub commits : (l m : Life) (i : ℕ) → Step l (commit i) done m
      → (bs : List ℕ) × (b : Block) × Holds l i bs × Readable bs b
      × Committed l.state b m.state × ((k : Key) → 0 < sold l.state b k → Served l.state b k)

-- Each check that passed is committed, lapsed, rejected or held still, where blocks are spent at their own replica; and no count
-- passes the largest number.
abbrev pub CountsAddUp : Type 0
CountsAddUp =
    (st : Store) (bk : Book) (es : List Event) (us : List Answer) (l : Life) → Runs (birth st bk) es us l
    → let c = l.state.counts in
    (c.passed ≡ c.committed + c.lapsed + c.rejected + count_by is_some l.held) × (c.passed ≤ most)
