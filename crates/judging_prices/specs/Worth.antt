-- What a volume is worth. Assumes nothing.
use Rattle.std.specs.Prelude.{ℕ, ◌*◌, List, slice_index}
use Rattle.terms.specs.declared.Volume.{Volume}

-- at the price of what is sold
abbrev pub worth_of : List ℕ → Volume → ℕ
worth_of ps v = v.amount * slice_index ps v.sold
