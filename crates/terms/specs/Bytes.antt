-- Numbers and their bytes, the highest byte first. Assumes nothing.
use Rattle.std.specs.Prelude.{ℕ, zero, suc, ◌+◌, ◌*◌, ◌/◌, ◌%◌, ◌^◌, List, [], ◌∷◌, slice_index}

-- the number in the k bytes at a place
abbrev pub field : ℕ → List ℕ → ℕ → ℕ
field zero bs at = 0
field (suc k) bs at = field k bs at * 256 + slice_index bs (at + k)

-- the k bytes of a number
abbrev pub bytes_of : ℕ → ℕ → List ℕ
bytes_of zero n = []
bytes_of (suc k) n = (n / 256 ^ k) % 256 ∷ bytes_of k n
