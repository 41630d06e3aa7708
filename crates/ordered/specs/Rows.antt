-- What an ordered table means. Assumes nothing.
use Rattle.std.specs.Prelude.{ℕ, List}

-- its records, how many there may be, and what stands in the slots that no record takes
pub record Rows (R : Type 0) : Type 0 where
  pub records : List R
  pub capacity : ℕ
  pub free : List R
