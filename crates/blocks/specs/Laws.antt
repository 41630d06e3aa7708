-- What is claimed of reading. Assumes nothing.
use Rattle.std.specs.Prelude.{◌≡◌, ℕ, Bool, true, List}
use Rattle.terms.specs.declared.Grant.{Grant}
use Rattle.terms.specs.declared.Fault.{Fault}
use Rattle.commands.specs.Format.{Cmd}
use Rattle.blocks.specs.Readable.{Block, Readable, Founds, Refused, is_begin, is_grant, fit_block, fit_grants}

-- Bytes say one block at most, have one fault at most, and never both.
pub record ReadOneWay : Type 0 where
  pub block : (bs : List ℕ) (b c : Block) → Readable bs b → Readable bs c → b ≡ c
  pub founding : (bs : List ℕ) (gs hs : List Grant) → Founds bs gs → Founds bs hs → gs ≡ hs
  pub fault : (opens : Cmd → Bool) (bs : List ℕ) (f g : Fault) → Refused opens bs f → Refused opens bs g → f ≡ g
  pub block_or_fault : (bs : List ℕ) (b : Block) (f : Fault) → Readable bs b → Refused is_begin bs f → ⊥
  pub founding_or_fault : (bs : List ℕ) (gs : List Grant) (f : Fault) → Founds bs gs → Refused is_grant bs f → ⊥

-- All numbers of a readable block and of a readable founding are in range, and the pairs of the volumes rise.
pub record Known : Type 0 where
  pub block : (bs : List ℕ) (b : Block) → Readable bs b → fit_block b ≡ true
  pub founding : (bs : List ℕ) (gs : List Grant) → Founds bs gs → fit_grants gs ≡ true
