-- What the calls of a replica answer and leave, in the words of the rules: s is the state before the call, t the one
-- after it, bs the bytes. Each says what the call made of the bytes (its ruling), and what follows from that.
-- Assumes nothing.
use Rattle.std.specs.Prelude.{◌≡◌, ℕ, List, Ok, Err, Result}
use Rattle.terms.specs.declared.Fault.{Fault}
use Rattle.terms.specs.declared.Grant.{Grant}
use Rattle.terms.specs.declared.Key.{Key}
use Rattle.blocks.specs.Readable.{Block}
use Rattle.blocks.specs.Decoded.{block_of}
use Rattle.blocks.specs.declared.decoded.DecodedBlock.{DecodedBlock}
use Rattle.exchange.specs.State.{State}
use Rattle.exchange.specs.Trade.{sold, paid}
use Rattle.exchange.specs.Life.{RulesFounding, Rules, RulesCheck, AfterFounding, AfterCheck, AfterCommit}

-- done, or the fault
abbrev pub plainly : {X : Type 0} → Result X Fault → Result (Unit {0}) Fault
plainly (Ok x) = Ok tt
plainly (Err f) = Err f

-- the block that was decoded, or the fault
abbrev pub says : Result DecodedBlock Fault → Result Block Fault
says (Ok b) = Ok (block_of b)
says (Err f) = Err f

-- what is sold and what is paid of a key, or the fault
abbrev pub fills_of : State → Key → Result Block Fault → Result (ℕ × ℕ) Fault
fills_of s k (Ok b) = Ok (sold s b k, paid s b k)
fills_of s k (Err f) = Err f

pub record FoundCall (s : State) (bs : List ℕ) (r : Result (Unit {0}) Fault) (t : State) : Type 0 where
  pub ruling : Result (List Grant) Fault
  pub rules : RulesFounding s bs ruling
  pub answer : r ≡ plainly ruling
  pub after : AfterFounding s ruling t

pub record CheckCall (s : State) (bs : List ℕ) (r : Result (Unit {0}) Fault) (t : State) : Type 0 where
  pub ruling : Result Block Fault
  pub rules : RulesCheck s bs ruling
  pub answer : r ≡ plainly ruling
  pub after : AfterCheck s ruling t

pub record FillCall (s : State) (bs : List ℕ) (k : Key) (r : Result (ℕ × ℕ) Fault) : Type 0 where
  pub ruling : Result Block Fault
  pub rules : Rules s bs ruling
  pub answer : r ≡ fills_of s k ruling

pub record CommitCall (s : State) (bs : List ℕ) (r : Result (Unit {0}) Fault) (t : State) : Type 0 where
  pub ruling : Result Block Fault
  pub rules : Rules s bs ruling
  pub answer : r ≡ plainly ruling
  pub after : AfterCommit s ruling t
