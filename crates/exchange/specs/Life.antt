-- The calls of a replica, and its life: a run of events and answers. Assumes nothing.
use Rattle.std.specs.Prelude.{◌≡◌, ℕ, Bool, ◌&&◌, ◌⊎◌, List, [], ◌∷◌, ◌++◌, length, Some, None, Ok, Err, MatchBool, Option, Result, ◌==◌, nat_lt, slice_index_or, slice_set}
use Rattle.std.specs.List.Sorted.{IsPermutation}
use Rattle.terms.specs.declared.Key.{Key}
use Rattle.terms.specs.declared.Grant.{Grant}
use Rattle.terms.specs.declared.Fault.{Fault}
use Rattle.terms.specs.Order.{name, words, place, above}
use Rattle.terms.specs.Holdings.{Store, Book, standing, floor_at, balance_at, free_of, amount_at, offered_of, up_to}
use Rattle.blocks.specs.Readable.{Block, Readable, Founds, Refused, is_begin, is_grant}
use Rattle.exchange.specs.State.{State, remainder, most, newborn}
use Rattle.exchange.specs.Trade.{sold, paid}
use Rattle.exchange.specs.Faults.{fault, Verdict, FoundingVerdict}
use Rattle.exchange.specs.Commit.{Founded, Committed, counted, one_passed, one_lapsed, one_rejected}

-- What a replica makes of bytes: what they say, where they are readable and it finds no fault in that; else the fault, of the
-- bytes or the least in what they say.
abbrev pub Judged : {X : Type 0} → (X → Type 0) → (Fault → Type 0) → (X → Option Fault → Type 0) → Result X Fault → Type 0
Judged Says Refuses Finds (Ok x) = Says x × Finds x None
Judged {X} Says Refuses Finds (Err f) = Refuses f ⊎ ((x : X) × Says x × Finds x (Some f))

-- Founding bytes: 1 to 7; the least of 15, 19 and 23.
abbrev pub ReadsFounding : State → List ℕ → Result (List Grant) Fault → Type 0
ReadsFounding s bs r = Judged (Founds bs) (Refused is_grant bs) (FoundingVerdict s.store) r

abbrev pub is_empty : State → Bool
is_empty s = length s.store.accounts == 0 && length s.book.offers == 0

-- At found 25, founded already, comes first, then 22, store or book not empty.
abbrev pub RulesFounding : State → List ℕ → Result (List Grant) Fault → Type 0
RulesFounding s bs r =
    MatchBool s.founded (r ≡ Err (fault 25 0 0)) (MatchBool (is_empty s) (ReadsFounding s bs r) (r ≡ Err (fault 22 0 0)))

-- Block bytes: 1 to 7; the least of 8 to 21.
abbrev pub Reads : State → List ℕ → Result Block Fault → Type 0
Reads s bs r = Judged (Readable bs) (Refused is_begin bs) (Verdict s) r

-- At fill and commit 24, not founded, comes first.
abbrev pub Rules : State → List ℕ → Result Block Fault → Type 0
Rules s bs r = MatchBool s.founded (Reads s bs r) (r ≡ Err (fault 24 0 0))

-- At check 24 comes first, then 26, no more checks can be counted.
abbrev pub RulesCheck : State → List ℕ → Result Block Fault → Type 0
RulesCheck s bs r =
    MatchBool s.founded (MatchBool (nat_lt s.counts.passed most) (Reads s bs r) (r ≡ Err (fault 26 0 0))) (r ≡ Err (fault 24 0 0))

-- The state after each call, by what it made of the bytes. Fill and the questions leave it as it is.

abbrev pub AfterFounding : State → Result (List Grant) Fault → State → Type 0
AfterFounding s (Ok gs) t = Founded s gs t
AfterFounding s (Err f) t = t ≡ s

abbrev pub AfterCheck : State → Result Block Fault → State → Type 0
AfterCheck s (Ok b) t = t ≡ counted s (one_passed s.counts)
AfterCheck s (Err f) t = t ≡ s

abbrev pub AfterCommit : State → Result Block Fault → State → Type 0
AfterCommit s (Ok b) t = Committed s b t
AfterCommit s (Err f) t = t ≡ counted s (one_lapsed s.counts)

abbrev pub after_reject : State → State
after_reject s = counted s (one_rejected s.counts)

-- The questions, and the numbers that answer them.

pub data Question : Type 0 where
  height digest passed committed lapsed rejected : Question
  accounts account_capacity top offers offer_capacity : Question
  remainder_of all_free all_offered standing_of floor_of : ℕ → Question
  balance_of : (account asset : ℕ) → Question
  amount_of : Key → Question
  account_above : ℕ → Question
  offer_above : Key → Question
  offered_up_to : (sold bought limit : ℕ) → Question

abbrev pub reply : State → Question → List ℕ
reply s height = s.own.height ∷ []
reply s digest = s.own.digest
reply s passed = s.counts.passed ∷ []
reply s committed = s.counts.committed ∷ []
reply s lapsed = s.counts.lapsed ∷ []
reply s rejected = s.counts.rejected ∷ []
reply s accounts = length s.store.accounts ∷ []
reply s account_capacity = s.store.capacity ∷ []
reply s top = s.store.top ∷ []
reply s offers = length s.book.offers ∷ []
reply s offer_capacity = s.book.capacity ∷ []
reply s (remainder_of x) = remainder s x ∷ []
reply s (all_free x) = free_of s.store x ∷ []
reply s (all_offered x) = offered_of s.book x ∷ []
reply s (standing_of n) = standing s.store n ∷ []
reply s (floor_of n) = floor_at s.store n ∷ []
reply s (balance_of n x) = balance_at s.store n x ∷ []
reply s (amount_of k) = amount_at s.book.offers k ∷ []
-- the lowest account or key above, or none
reply s (account_above n) = above name s.store.accounts (n ∷ [])
reply s (offer_above k) = above place s.book.offers (words k)
reply s (offered_up_to x y l) = up_to s.book x y l ∷ []

-- What may come to a replica: bytes of a founding or a block, a verdict on a checked block that is held, a question.
-- A checked block goes by the number of checks that had passed before its own.
pub data Event : Type 0 where
  found check : (bytes : List ℕ) → Event
  fill : ℕ → Key → Event
  commit reject : ℕ → Event
  ask : Question → Event

pub data Answer : Type 0 where
  done : Answer
  refused : Fault → Answer
  checked : ℕ → Answer
  filled : (sold paid : ℕ) → Answer
  told : List ℕ → Answer

-- A replica in the course of its life: its state, the bytes of the checked blocks in the order of their checks, None where
-- spent, and the grants that founded it, none before.
pub record Life : Type 0 where
  pub state : State
  pub held : List (Option (List ℕ))
  pub grants : List Grant

abbrev pub life : State → List (Option (List ℕ)) → List Grant → Life
life s hs gs = record { state = s; held = hs; grants = gs }

-- A life begins with a store and a book.
abbrev pub birth : Store → Book → Life
birth st bk = life (newborn st bk) [] []

-- The i-th checked block is held, and has these bytes.
abbrev pub Holds : Life → ℕ → List ℕ → Type 0
Holds l i bs = slice_index_or l.held i None ≡ Some bs

abbrev pub grants_after : Life → Result (List Grant) Fault → List Grant
grants_after l (Ok gs) = gs
grants_after l (Err f) = l.grants

abbrev pub held_after : Life → List ℕ → Result Block Fault → List (Option (List ℕ))
held_after l bs (Ok b) = l.held ++ Some bs ∷ []
held_after l bs (Err f) = l.held

-- the answer where the call is done, or the fault
abbrev pub or_refused : {X : Type 0} → Answer → Result X Fault → Answer
or_refused a (Ok x) = a
or_refused a (Err f) = refused f

abbrev pub fill_of : State → Key → Result Block Fault → Answer
fill_of s k (Ok b) = filled (sold s b k) (paid s b k)
fill_of s k (Err f) = refused f

-- One event, its answer, and the life after it.
abbrev pub Step : Life → Event → Answer → Life → Type 0
Step l (found bs) a m =
    (r : Result (List Grant) Fault) × RulesFounding l.state bs r × (a ≡ or_refused done r)
    × AfterFounding l.state r m.state × (m.held ≡ l.held) × (m.grants ≡ grants_after l r)
Step l (check bs) a m =
    (r : Result Block Fault) × RulesCheck l.state bs r × (a ≡ or_refused (checked (length l.held)) r)
    × AfterCheck l.state r m.state × (m.held ≡ held_after l bs r) × (m.grants ≡ l.grants)
Step l (fill i k) a m =
    (bs : List ℕ) × Holds l i bs × ((r : Result Block Fault) × Rules l.state bs r × (a ≡ fill_of l.state k r) × (m ≡ l))
Step l (commit i) a m =
    (bs : List ℕ) × Holds l i bs × ((r : Result Block Fault) × Rules l.state bs r × (a ≡ or_refused done r)
    × AfterCommit l.state r m.state × (m.held ≡ slice_set l.held i None) × (m.grants ≡ l.grants))
Step l (reject i) a m =
    (bs : List ℕ) × Holds l i bs × (a ≡ done) × (m ≡ life (after_reject l.state) (slice_set l.held i None) l.grants)
Step l (ask q) a m = (a ≡ told (reply l.state q)) × (m ≡ l)

-- A run: events in turn, an answer to each.
abbrev pub Runs : Life → List Event → List Answer → Life → Type 0
Runs l [] [] m = m ≡ l
Runs l [] (a ∷ us) m = ⊥
Runs l (e ∷ es) [] m = ⊥
Runs l (e ∷ es) (a ∷ us) m = (k : Life) × Step l e a k × Runs k es us m

-- Two lives side by side.

-- one block is the other with its transactions in another order
pub record Rearranged (b c : Block) : Type 0 where
  pub height : c.height ≡ b.height
  pub parent : c.parent ≡ b.parent
  pub prices : c.prices ≡ b.prices
  pub volumes : c.volumes ≡ b.volumes
  pub transactions : IsPermutation b.transactions c.transactions

-- The same bytes, readable or not; or readable bytes that say the same but for the order.
abbrev pub SayAlike : {X : Type 0} → (List ℕ → X → Type 0) → (X → X → Type 0) → List ℕ → List ℕ → Type 0
SayAlike {X} Says Reordered bs cs = (bs ≡ cs) ⊎ ((x : X) × (y : X) × Says bs x × Says cs y × Reordered x y)

abbrev pub SameBlock : List ℕ → List ℕ → Type 0
SameBlock bs cs = SayAlike Readable Rearranged bs cs

abbrev pub SameFounding : List ℕ → List ℕ → Type 0
SameFounding bs cs = SayAlike Founds IsPermutation bs cs

-- What comes to the second replica where this comes to the first: the same, but for the order of transactions and of grants.
abbrev pub Fair : Event → Event → Type 0
Fair e f =
    (e ≡ f)
    ⊎ (((bs : List ℕ) × (cs : List ℕ) × (e ≡ check bs) × (f ≡ check cs) × SameBlock bs cs)
    ⊎ ((bs : List ℕ) × (cs : List ℕ) × (e ≡ found bs) × (f ≡ found cs) × SameFounding bs cs))
