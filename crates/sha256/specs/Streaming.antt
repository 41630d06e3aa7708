-- A message taken in pieces: what a hasher keeps of it.
use Rattle.std.specs.Prelude.{◌≡◌, ℕ, ◌-◌, ◌*◌, ◌/◌, ◌%◌, ◌^◌, min, cond, List, length, take, drop, ◌==◌}
use Rattle.sha256.specs.declared.compress.State.{State}
use Rattle.sha256.specs.declared.hasher.Hasher.{Hasher}
use Rattle.sha256.specs.Compression.{chain}

-- what is kept of the message m: the hash value after its whole blocks, the bytes after them at the start of the buffer,
-- and the count of its bytes modulo 2^64
pub record Kept (state : State) (buffer : List ℕ) (count : ℕ) (m : List ℕ) : Type 0 where
  pub size : count ≡ length m % 2 ^ 64
  pub whole : state ≡ chain (length m / 64) m
  pub rest : take (length m % 64) buffer ≡ drop (64 * (length m / 64)) m

-- the hasher has taken the message m, and nothing else
abbrev pub Holds : Hasher → List ℕ → Type 0
Holds h m = Kept h.state h.buffer h.count m

-- how many of n bytes go to a block of which so many are there: none to one that is not begun, else up to its end
abbrev pub head_of : ℕ → ℕ → ℕ
head_of used n = cond (used == 0) 0 (min n (64 - used))
