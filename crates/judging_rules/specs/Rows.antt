-- What a test of a block for one cause answers. Assumes nothing.
use Rattle.std.specs.Prelude.{ℕ, Bool, true, false, ◌||◌, List, [], ◌∷◌, Result}
use Rattle.terms.specs.declared.Fault.{Fault}
use Rattle.terms.specs.declared.Transaction.{Transaction}
use Rattle.terms.specs.declared.Volume.{Volume}
use Rattle.terms.specs.Holdings.{Store, Book}
use Rattle.blocks.specs.Readable.{Block}
use Rattle.exchange.specs.State.{State, no_counts}
use Rattle.exchange.specs.Faults.{Cause, Bad, number}
use Rattle.tally.specs.Least.{Told}

-- The cause holds at no places; or the fault has its number and the least places at which it holds.
abbrev pub Row : State → Block → Cause → Result (Unit {0}) Fault → Type 0
Row s b c r = Told (Bad s b c) (number c) r

-- A cause looks at a part of the state and of the block alone. So a test of it speaks of a state and a block that have
-- this part, and nothing else: what it tells holds, word for word, of any others that have it.

abbrev pub no_store : Store
no_store = record { capacity = 0; top = 0; accounts = [] }

abbrev pub no_book : Book
no_book = record { capacity = 0; offers = [] }

abbrev pub scene : Store → Book → ℕ → List ℕ → State
scene st bk h d = record {
  founded = true;
  store = st;
  book = bk;
  own = record { height = h; digest = d; remainders = [] };
  counts = no_counts;
}

-- a block of transactions, and one with prices and volumes
abbrev pub bundle : List Transaction → Block
bundle ts = record { height = 0; parent = []; prices = []; volumes = []; transactions = ts }

abbrev pub deal : List ℕ → List Volume → List Transaction → Block
deal ps vs ts = record { height = 0; parent = []; prices = ps; volumes = vs; transactions = ts }

-- one of the list passes the test
abbrev pub any : {X : Type 0} → (X → Bool) → List X → Bool
any p [] = false
any p (x ∷ xs) = p x || any p xs
