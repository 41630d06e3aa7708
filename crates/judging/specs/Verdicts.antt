-- The verdict on a block, from its rows. Assumes nothing.
use Rattle.std.specs.Prelude.{◌≡◌, ℕ, ◌<◌, ◌≤◌, false, List, [], ◌∷◌, Ok, Err, Result}
use Rattle.terms.specs.declared.Fault.{Fault}
use Rattle.terms.specs.Order.{lower}
use Rattle.terms.specs.Holdings.{Store, Book}
use Rattle.blocks.specs.Readable.{Block}
use Rattle.exchange.specs.State.{State}
use Rattle.exchange.specs.Faults.{Cause, Bad, number, Verdict}
use Rattle.tally.specs.Least.{fault_of}

-- The answer is the verdict on the block of every replica that has this store, this book, this height and this digest.
abbrev pub Judges : Store → Book → ℕ → List ℕ → Block → Result (Unit {0}) Fault → Type 0
Judges st bk h d b r =
    (s : State) → s.store ≡ st → s.book ≡ bk → s.own.height ≡ h → s.own.digest ≡ d → Verdict s b (fault_of r)

-- The causes are judged in stages, by their numbers.

-- none of the causes from the number m on and below n holds at any place
abbrev pub Clear : State → Block → ℕ → ℕ → Type 0
Clear s b m n = (c : Cause) → m ≤ number c → number c < n → (i j : ℕ) → Bad s b c i j → ⊥

-- the least fault by these causes: no cause with a lower number holds, nor this one at lower places
pub record First (s : State) (b : Block) (m n : ℕ) (f : Fault) : Type 0 where
  pub cause : Cause
  pub from : m ≤ number cause
  pub below : number cause < n
  pub numbered : f.number ≡ number cause
  pub bad : Bad s b cause f.first f.second
  pub before : Clear s b m (number cause)
  pub least : (i j : ℕ) → Bad s b cause i j → lower (i ∷ j ∷ []) (f.first ∷ f.second ∷ []) ≡ false

-- what a stage answers: no fault by these causes, or the least
abbrev pub Stage : State → Block → ℕ → ℕ → Result (Unit {0}) Fault → Type 0
Stage s b m n (Ok _) = Clear s b m n
Stage s b m n (Err f) = First s b m n f
