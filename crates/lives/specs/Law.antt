-- The law of two replicas, over whole runs. Assumes nothing.
use Rattle.std.specs.Prelude.{◌≡◌, ℕ, ◌+◌, ◌<◌, true, List, [], ◌∷◌, length, take, Ok, Err, is_some, count_by, slice_index_or}
use Rattle.std.specs.List.{AllZip}
use Rattle.terms.specs.declared.Key.{Key}
use Rattle.terms.specs.Holdings.{Store, Book, free_of, offered_of}
use Rattle.blocks.specs.Readable.{Block, Readable}
use Rattle.exchange.specs.State.{remainder}
use Rattle.exchange.specs.Trade.{sold, paid}
use Rattle.exchange.specs.Faults.{granted}
use Rattle.exchange.specs.Commit.{Committed}
use Rattle.exchange.specs.Life.{Event, Answer, Life, birth, Holds, Step, Fair}
use Rattle.exchange.specs.Life.Question.{height}
use Rattle.exchange.specs.Life.Event.{found, check, fill, commit, reject, ask}
use Rattle.exchange.specs.Life.Answer.{done, filled}
use Rattle.exchange.specs.Claims.{Served}
use Rattle.lives.specs.declared.events.Stop.TheVariants.{NotHeld, NoMemory}
use Rattle.lives.specs.Events.{Ending, whole}

-- What holds after every event: once founded, the free balances, the offered amounts and the remainder of each asset add
-- up to the amount founded; and each check that passed is committed, lapsed, rejected or held still.
pub record Balanced (l : Life) : Type 0 where
  pub sums : l.state.founded ≡ true → (x : ℕ) → x < 8
      → free_of l.state.store x + offered_of l.state.book x + remainder l.state x ≡ granted l.grants x
  pub counts : l.state.counts.passed ≡ l.state.counts.committed + l.state.counts.lapsed + l.state.counts.rejected + count_by is_some l.held

-- What holds of every fill, told by a fill or applied by a commit: the offer is paid at least the whole part of sold ×
-- limit ÷ 65,536, and each eligible offer of its pair with a lower key is sold whole.
pub record FilledWell (l : Life) (e : Event) (a : Answer) (m : Life) : Type 0 where
  pub told : (i : ℕ) (k : Key) (n p : ℕ) → e ≡ fill i k → a ≡ filled n p → 0 < n
      → (bs : List ℕ) × (b : Block) × Holds l i bs × Readable bs b
      × (n ≡ sold l.state b k) × (p ≡ paid l.state b k) × Served l.state b k
  pub applied : (i : ℕ) → e ≡ commit i → a ≡ done
      → (bs : List ℕ) × (b : Block) × Holds l i bs × Readable bs b
      × Committed l.state b m.state × ((k : Key) → 0 < sold l.state b k → Served l.state b k)

-- A life: events in turn, each with its answer, from l to m. After each, all adds up, and each fill was a good one.
abbrev pub Lives : Life → List Event → List Answer → Life → Type 0
Lives l [] [] m = m ≡ l
Lives l [] (a ∷ us) m = ⊥
Lives l (e ∷ es) [] m = ⊥
Lives l (e ∷ es) (a ∷ us) m = (k : Life) × Step l e a k × Balanced k × FilledWell l e a k × Lives k es us m

-- The event names a checked block that is not held.
abbrev pub Unheld : Life → Event → Type 0
Unheld l (found bs) = ⊥
Unheld l (check bs) = ⊥
Unheld l (fill i k) = (bs : List ℕ) → Holds l i bs → ⊥
Unheld l (commit i) = (bs : List ℕ) → Holds l i bs → ⊥
Unheld l (reject i) = (bs : List ℕ) → Holds l i bs → ⊥
Unheld l (ask q) = ⊥

-- How a run ended, of which the answers are us and the last life is l.
abbrev pub Stopped : List Event → List Answer → Life → Ending → Type 0
Stopped es us l (Ok _) = length us ≡ length es
Stopped es us l (Err NotHeld) = (length us < length es) × Unheld l (slice_index_or es (length us) (ask height))
Stopped es us l (Err NoMemory) = Unit {0}

-- One replica's run, from its store and its book on: its answers are those of a life over the first events, one for each.
pub record Ran (st : Store) (bk : Book) (es : List Event) (us : List Answer) (stop : Ending) : Type 0 where
  pub last : Life
  pub lived : Lives (birth st bk) (take (length us) es) us last
  pub stopped : Stopped es us last stop

-- Two replicas begin alike: empty, with equal capacities and equal top.
pub record BeginAlike (st : Store) (bk : Book) (st' : Store) (bk' : Book) : Type 0 where
  pub empty : (length st.accounts ≡ 0) × (length bk.offers ≡ 0) × (length st'.accounts ≡ 0) × (length bk'.offers ≡ 0)
  pub accounts : st'.capacity ≡ st.capacity
  pub top : st'.top ≡ st.top
  pub offers : bk'.capacity ≡ bk.capacity

-- They agree: equal answers to every event that both answered; and, where neither ran out of memory, equal answers to every
-- event, and equal states at the end.
pub record Agreement (us vs : List Answer) (l m : Life) (stop stop' : Ending) : Type 0 where
  pub equal : take (length vs) us ≡ take (length us) vs
  pub all : whole stop ≡ true → whole stop' ≡ true → (us ≡ vs) × (l.state ≡ m.state)

-- The law of two replicas, of whatever make. Each lives a life in which, after each event, all adds up, and in which each
-- fill is a good one. Where both begin alike, and the same events come to both but for the order of transactions within a
-- block and of grants within a founding, they agree.
pub record Law (st : Store) (bk : Book) (st' : Store) (bk' : Book) (es fs : List Event) (us vs : List Answer) (stop stop' : Ending) : Type 0 where
  pub first : Ran st bk es us stop
  pub second : Ran st' bk' fs vs stop'
  pub agree : BeginAlike st bk st' bk' → AllZip Fair es fs → Agreement us vs first.last second.last stop stop'
