-- A probe starts at one of the buckets. Assumes nothing.
use Rattle.std.proofs.Common.{ℕ, ◌*◌, ◌/◌, ◌%◌, ◌<◌, mod-lt, mul-lt-mul_of_pos_right, arith}
use Rattle.hashed_store.specs.Probing.{start}

pub scaled : (x size : ℕ) → x < 4294967296 → 0 < size → x * size / 4294967296 < size
scaled x size lt pos = omega (arith, mul-lt-mul_of_pos_right {m = x} {n = 4294967296} {k = size} lt pos)

pub start_within : (n size : ℕ) → 0 < size → start n size < size
unfolding start
start_within n size pos = scaled (n * 2654435769 % 4294967296) size (mod-lt (n * 2654435769) (omega arith)) pos
