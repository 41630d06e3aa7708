-- The remainders after a block. Assumes nothing.
use Rattle.std.specs.Prelude.{◌≡◌, ℕ, ◌+◌, ◌-◌, ◌<◌, cond, List, length, sum_by, ◌==◌, slice_index}
use Rattle.terms.specs.declared.Volume.{Volume}

-- all that the volumes sell of an asset
abbrev pub sold_of : List Volume → ℕ → ℕ
sold_of vs x = sum_by (λ v. cond (v.sold == x) v.amount 0) vs

-- The remainders r have become t: what the volumes sell is added, what is paid is taken off. It is said of sums that fit
-- 64 bits, as all sums of a sound state do.
pub record Renewed (vs : List Volume) (paid r t : List ℕ) : Type 0 where
  pub eight : length t ≡ 8
  pub each : (x : ℕ) → x < 8 → slice_index r x + sold_of vs x < 18446744073709551616 → slice_index t x ≡ slice_index r x + sold_of vs x - slice_index paid x
