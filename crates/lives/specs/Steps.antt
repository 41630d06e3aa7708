-- What the steps of a run answer and leave. Assumes nothing.
use Rattle.std.specs.Prelude.{◌≡◌, ℕ, List, length, take, None, Ok, Err, Option, Result, slice_index_or}
use Rattle.terms.specs.declared.Grant.{Grant}
use Rattle.terms.specs.Holdings.{Store, Book}
use Rattle.exchange.specs.State.{State}
use Rattle.exchange.specs.Life as ex
use Rattle.exchange.specs.Life.{Life, life, birth, Step, Runs}
use Rattle.lives.specs.declared.events.Answer.{Answer}
use Rattle.lives.specs.declared.events.Stop.{Stop}
use Rattle.lives.specs.declared.events.Stop.TheVariants.{NotHeld, NoMemory}
use Rattle.lives.specs.Events.{Ending, answer_of}
use Rattle.lives.specs.Law.{Unheld, Stopped}

-- What is held: the bytes of each checked block, or none where it is spent.
abbrev pub Holdings : Type 0
Holdings = List (Option (List ℕ))

-- One event: its answer is that of a step from the state s and the blocks hs to the state t and the blocks ks, whichever
-- grants founded the replica; or it was stopped.
abbrev pub StepOr : State → Holdings → ex.Event → State → Holdings → Result Answer Stop → Type 0
StepOr s hs e t ks (Ok a) = (gs : List Grant) → (fs : List Grant) × Step (life s hs gs) e (answer_of a) (life t ks fs)
StepOr s hs e t ks (Err NotHeld) = (gs : List Grant) → Unheld (life s hs gs) e
StepOr s hs e t ks (Err NoMemory) = Unit {0}

-- A run so far: a life over the first events, which has come to the state t and the blocks ks.
pub record Come (st : Store) (bk : Book) (es : List ex.Event) (us : List ex.Answer) (t : State) (ks : Holdings) : Type 0 where
  pub last : Life
  pub run : Runs (birth st bk) es us last
  pub state : last.state ≡ t
  pub held : last.held ≡ ks

-- A run that stopped, with its answers.
pub record Over (st : Store) (bk : Book) (es : List ex.Event) (us : List ex.Answer) (stop : Ending) : Type 0 where
  pub last : Life
  pub run : Runs (birth st bk) (take (length us) es) us last
  pub stopped : Stopped es us last stop
