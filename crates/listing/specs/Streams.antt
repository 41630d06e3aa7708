-- What becomes of a stream: the founding, then the blocks, cut where the first end is. s is the state before, t the one
-- after, bs the bytes. Assumes nothing.
use Rattle.std.specs.Prelude.{◌≡◌, ℕ, ◌<◌, ◌⊎◌, List, [], ◌∷◌, ◌++◌, length, take, drop, Ok, Err, Result}
use Rattle.terms.specs.declared.Fault.{Fault}
use Rattle.terms.specs.declared.Grant.{Grant}
use Rattle.commands.specs.Extent.{Ends, Endless}
use Rattle.blocks.specs.Readable.{Block}
use Rattle.terms.specs.Holdings.{Store, Book}
use Rattle.exchange.specs.State.{State, newborn}
use Rattle.exchange.specs.Commit.{Founded, Committed, counted, one_passed}
use Rattle.exchange.specs.Life.{RulesFounding, RulesCheck}
use Rattle.listing.specs.declared.line.Line.{Line}
use Rattle.listing.specs.declared.line.Line.TheVariants as line
use Rattle.listing.specs.Lines.{state_lines, counts_line}

-- The first piece founds the replica; these bytes are left.
pub record Opened (s : State) (bs rest : List ℕ) (t : State) : Type 0 where
  pub width : ℕ
  pub grants : List Grant
  pub ends : Ends bs width
  pub rules : RulesFounding s (take width bs) (Ok grants)
  pub founded : Founded s grants t
  pub left : rest ≡ drop width bs

-- The bytes have no end, or their first piece is no founding that the replica takes; nothing changes.
pub record Unopened (s : State) (bs : List ℕ) (f : Fault) (t : State) : Type 0 where
  pub cause : Endless bs f ⊎ ((n : ℕ) × Ends bs n × RulesFounding s (take n bs) (Err f))
  pub same : t ≡ s

-- A block that passes its check is committed at once, and its line has the height after it; a block that does not
-- leaves all as it was, and its line has the fault.
abbrev pub Settled : State → Result Block Fault → Line → State → Type 0
Settled s (Ok b) l t = Committed (counted s (one_passed s.counts)) b t × (l ≡ line.Done t.own.height)
Settled s (Err f) l t = (t ≡ s) × (l ≡ line.Refused f)

pub record BlockTaken (s : State) (bs : List ℕ) (l : Line) (t : State) : Type 0 where
  pub ruling : Result Block Fault
  pub rules : RulesCheck s bs ruling
  pub settled : Settled s ruling l t

-- A line for each block, until the bytes are used up, or have no further end: then the last line has that fault.
abbrev pub Blocks : State → List ℕ → List Line → State → Type 0
Blocks s bs [] t = (bs ≡ []) × (t ≡ s)
Blocks s bs (l ∷ ls) t =
    ((f : Fault) × (0 < length bs) × Endless bs f × (l ≡ line.Refused f) × (ls ≡ []) × (t ≡ s))
    ⊎ ((n : ℕ) × (m : State) × Ends bs n × BlockTaken s (take n bs) l m × Blocks m (drop n bs) ls t)

-- the same, with the lines put behind others
pub record BlocksTaken (s : State) (bs : List ℕ) (before after : List Line) (t : State) : Type 0 where
  pub lines : List Line
  pub blocks : Blocks s bs lines t
  pub added : after ≡ before ++ lines

-- The whole listing. A founding that is refused has one line. One that is not has the line of height 0, a line for each
-- block, and then what the replica holds.
pub record Founds (s : State) (bs : List ℕ) (ls : List Line) (t : State) : Type 0 where
  pub rest : List ℕ
  pub birth : State
  pub opened : Opened s bs rest birth
  pub lines : List Line
  pub blocks : Blocks birth rest lines t
  pub all : ls ≡ line.Done 0 ∷ (lines ++ state_lines t)

abbrev pub Listed : State → List ℕ → List Line → State → Type 0
Listed s bs ls t = ((f : Fault) × Unopened s bs f t × (ls ≡ line.Refused f ∷ [])) ⊎ Founds s bs ls t

-- What a stream comes to on a new replica over this store and this book: its lines, and the counts after it.
pub record Outcome (st : Store) (bk : Book) (bs : List ℕ) (ls : List Line) (counts : Line) : Type 0 where
  pub end : State
  pub listed : Listed (newborn st bk) bs ls end
  pub counted : counts ≡ counts_line end
