-- What a replica of the exchange holds between two calls. Assumes nothing.
-- What a store and a book mean, and the questions about them, stand in the crate of the plain records.
use Rattle.std.specs.Prelude.{ℕ, Bool, false, List, replicate, slice_index}
use Rattle.terms.specs.Holdings.{Store, Book}

-- The numbers of the replica's own.
pub record Own : Type 0 where
  -- how many blocks have been committed since the founding
  pub height : ℕ
  -- 32 bytes that stand for the whole state
  pub digest : List ℕ
  -- of each of the eight assets, what rounding has left over in the blocks so far
  pub remainders : List ℕ

-- How many checks were passed, and what became of the checked blocks.
pub record Counts : Type 0 where
  pub passed : ℕ
  pub committed : ℕ
  pub lapsed : ℕ
  pub rejected : ℕ

pub record State : Type 0 where
  pub founded : Bool
  pub store : Store
  pub book : Book
  pub own : Own
  pub counts : Counts

-- The remainder of an asset, 0 above asset 7.
abbrev pub remainder : State → ℕ → ℕ
remainder s x = slice_index s.own.remainders x

-- The largest number of 32 bits: there the counts stop.
abbrev pub most : ℕ
most = 4294967295

abbrev pub no_counts : Counts
no_counts = record { passed = 0; committed = 0; lapsed = 0; rejected = 0 }

-- A replica over a store and a book, before its founding: all its numbers are 0.
abbrev pub newborn : Store → Book → State
newborn st bk = record {
  founded = false;
  store = st;
  book = bk;
  own = record { height = 0; digest = replicate 32 0; remainders = replicate 8 0 };
  counts = no_counts;
}
