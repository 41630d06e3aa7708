-- Ch by three operations.
use Rattle.std.proofs.Common.{◌≡◌, ℕ, zero, suc, ◌+◌, ◌/◌, ◌%◌, ◌^◌, ◌<◌, sym, refl, ap, ◌∙◌, pow-suc, arith}
use lib.Bits.{bit_and, bit_xor, and_shr, xor_shr, and_mod, xor_mod, and_zero_l}

-- the chosen bits, by three operations and by four; n is the complement of x
abbrev short : ℕ → ℕ → ℕ → ℕ
short x y z = bit_xor z (bit_and x (bit_xor y z))

abbrev long : ℕ → ℕ → ℕ → ℕ → ℕ
long x n y z = bit_xor (bit_and x y) (bit_and n z)

short_half : (x y z : ℕ) → short x y z / 2 ≡ short (x / 2) (y / 2) (z / 2)
short_half x y z = rw (xor_shr z (bit_and x (bit_xor y z)) 1, and_shr x (bit_xor y z) 1, xor_shr y z 1)

short_low : (x y z : ℕ) → short x y z % 2 ≡ short (x % 2) (y % 2) (z % 2)
short_low x y z = rw (xor_mod z (bit_and x (bit_xor y z)) 1, and_mod x (bit_xor y z) 1, xor_mod y z 1)

long_half : (x n y z : ℕ) → long x n y z / 2 ≡ long (x / 2) (n / 2) (y / 2) (z / 2)
long_half x n y z = rw (xor_shr (bit_and x y) (bit_and n z) 1, and_shr x y 1, and_shr n z 1)

long_low : (x n y z : ℕ) → long x n y z % 2 ≡ long (x % 2) (n % 2) (y % 2) (z % 2)
long_low x n y z = rw (xor_mod (bit_and x y) (bit_and n z) 1, and_mod x y 1, and_mod n z 1)

bit : (P : ℕ → Type 0) → P 0 → P 1 → (b : ℕ) → b < 2 → P b
bit P p q zero h = p
bit P p q (suc zero) h = q
bit P p q (suc (suc b)) h = absurd (omega arith)

-- numbers with the same half and the same lowest bit
same : (a b : ℕ) → a / 2 ≡ b / 2 → a % 2 ≡ b % 2 → a ≡ b
same a b p q = omega arith

-- of single bits
low_zero : (y z : ℕ) → y < 2 → z < 2 → short 0 y z ≡ long 0 1 y z
low_zero y z hy hz =
    bit (λ b. short 0 b z ≡ long 0 1 b z) (bit (λ b. short 0 0 b ≡ long 0 1 0 b) refl refl z hz)
    (bit (λ b. short 0 1 b ≡ long 0 1 1 b) refl refl z hz) y hy

low_one : (y z : ℕ) → y < 2 → z < 2 → short 1 y z ≡ long 1 0 y z
low_one y z hy hz =
    bit (λ b. short 1 b z ≡ long 1 0 b z) (bit (λ b. short 1 0 b ≡ long 1 0 0 b) refl refl z hz)
    (bit (λ b. short 1 1 b ≡ long 1 0 1 b) refl refl z hz) y hy

one_bit : (x n y z : ℕ) → x < 2 → y < 2 → z < 2 → x + n ≡ 1 → short x y z ≡ long x n y z
one_bit x n y z hx hy hz e =
    bit (λ b. b + n ≡ 1 → short b y z ≡ long b n y z)
    (λ f. let m : 1 ≡ n = omega arith in low_zero y z hy hz ∙ ap (λ i. long 0 i y z) m)
    (λ f. let m : 0 ≡ n = omega arith in low_one y z hy hz ∙ ap (λ i. long 1 i y z) m) x hx e

none : (y : ℕ) → short 0 y 0 ≡ long 0 0 y 0
none y = rw (and_zero_l (bit_xor y 0), and_zero_l y)

pub chosen : (k x n y z : ℕ) → x + n + 1 ≡ 2 ^ k → z < 2 ^ k → short x y z ≡ long x n y z
chosen zero x n y z e h =
    let a : x ≡ 0 = omega arith in
    let b : n ≡ 0 = omega arith in
    let c : z ≡ 0 = omega arith in
    cc (none y)
chosen (suc k) x n y z e h =
    let p = pow-suc 2 k in
    let half = chosen k (x / 2) (n / 2) (y / 2) (z / 2) (omega arith) (omega arith) in
    let low = one_bit (x % 2) (n % 2) (y % 2) (z % 2) (omega arith) (omega arith) (omega arith) (omega arith) in
    let a : short x y z / 2 ≡ long x n y z / 2 = short_half x y z ∙ (half ∙ sym (long_half x n y z)) in
    let b : short x y z % 2 ≡ long x n y z % 2 = short_low x y z ∙ (low ∙ sym (long_low x n y z)) in
    same (short x y z) (long x n y z) a b
