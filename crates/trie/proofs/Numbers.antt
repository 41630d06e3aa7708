-- Numbers that share their high bits: blocks of the size of a power of two, and their halves. Assumes nothing.
use Rattle.std.proofs.Common.{◌≡◌, ℕ, ◌+◌, ◌-◌, ◌*◌, ◌/◌, ◌%◌, ◌^◌, ◌<◌, ◌≤◌, sym, ap, ◌∙◌, mul-le-mul_right, mul_assoc, add-mul, arith}
use Rattle.std.proofs.lemmas.Nat.{pow_pos, pow-add, shr-shr, shr_split, mod_below, mod-mul-add, div-mul-add, le-div}

-- a number is its block and its place there
pub block : (a r : ℕ) → (a / 2 ^ r * 2 ^ r ≤ a) × (a < a / 2 ^ r * 2 ^ r + 2 ^ r)
block a r = omega (arith, shr_split a r, mod_below a (2 ^ r) (pow_pos r))

pub twice : (r : ℕ) → 2 ^ (r + 1) ≡ 2 ^ r + 2 ^ r
twice r = omega (arith, pow-add 2 r 1)

pub half : (a r : ℕ) → a / 2 ^ r / 2 ≡ a / 2 ^ (r + 1)
half a r = shr-shr a r 1

-- an even and an odd block make one block of twice the size
pub pair : (q B : ℕ) → (q + q) * B ≡ q * (B + B)
pair q B = omega (arith, add-mul q q B, native.Mathlib.Nat.mul-add q B B)

pub odd : (m B : ℕ) → 0 < B → ((m + m + 1) * B) % (B + B) ≡ B
odd m B h =
    let e : (m + m + 1) * B ≡ m * (B + B) + B = omega (arith, add-mul (m + m) 1 B, pair m B) in
    rw e (mod-mul-add m (B + B) B (omega arith))

-- two numbers that first differ at the bit r
pub record Fork (r a b : ℕ) : Type 0 where
  pub next : b / 2 ^ r * 2 ^ r ≡ a / 2 ^ r * 2 ^ r + 2 ^ r
  pub middle : (b / 2 ^ r * 2 ^ r) % 2 ^ (r + 1) ≡ 2 ^ r

pub fork : (r a b : ℕ) → a ≤ b → a / 2 ^ (r + 1) ≡ b / 2 ^ (r + 1) → (a / 2 ^ r ≡ b / 2 ^ r → ⊥) → Fork r a b
fork r a b le same differ =
    let B : ℕ = 2 ^ r in
    let x : ℕ = a / 2 ^ r in
    let y : ℕ = b / 2 ^ r in
    let up : x ≤ y = le-div x b (2 ^ r) (pow_pos r) (omega (arith, block a r)) in
    let hx = half a r in
    let hy = half b r in
    let one : y ≡ x + 1 = omega (arith, hx, hy, same, up) in
    let m : ℕ = x / 2 in
    let even : x ≡ m + m = omega (arith, hx, hy, same, one) in
    record {
      next = rw one (omega (arith, add-mul x 1 (2 ^ r)));
      middle = rw (twice r, one, even) (odd m (2 ^ r) (pow_pos r));
    }

-- a number in another's block
pub same_block : (k key w : ℕ) → key / 2 ^ w * 2 ^ w ≤ k → k < key / 2 ^ w * 2 ^ w + 2 ^ w → k / 2 ^ w ≡ key / 2 ^ w
same_block k key w l h =
    let rest : ℕ = k - key / 2 ^ w * 2 ^ w in
    let e : k ≡ key / 2 ^ w * 2 ^ w + rest = omega arith in
    let lt : rest < 2 ^ w = omega arith in
    ap (λ n. n / 2 ^ w) e ∙ div-mul-add (key / 2 ^ w) (2 ^ w) rest lt

-- what a split at a bit says of it
pub halves : (split bit : ℕ) → split % 2 ^ (bit + 1) ≡ 2 ^ bit → split ≡ (split / 2 ^ (bit + 1) + split / 2 ^ (bit + 1)) * 2 ^ bit + 2 ^ bit
halves split bit m = omega (arith, shr_split split (bit + 1), m, twice bit, pair (split / 2 ^ (bit + 1)) (2 ^ bit), ap (λ n. split / 2 ^ (bit + 1) * n) (twice bit))

pub side_left : (split key bit : ℕ) → split % 2 ^ (bit + 1) ≡ 2 ^ bit → key / 2 ^ (bit + 1) ≡ split / 2 ^ (bit + 1) → key < split → key / 2 ^ bit * 2 ^ bit + 2 ^ bit ≡ split
side_left split key bit m same h =
    let q : ℕ = split / 2 ^ (bit + 1) in
    let s = halves split bit m in
    let k : key ≡ (q + q) * 2 ^ bit + key % 2 ^ (bit + 1) = omega (arith, shr_split key (bit + 1), pair q (2 ^ bit), ap (λ n. n * 2 ^ (bit + 1)) same, ap (λ n. q * n) (twice bit)) in
    let lt : key % 2 ^ (bit + 1) < 2 ^ bit = omega (arith, s, k) in
    let d : key / 2 ^ bit ≡ q + q = ap (λ n. n / 2 ^ bit) k ∙ div-mul-add (q + q) (2 ^ bit) (key % 2 ^ (bit + 1)) lt in
    omega (arith, s, ap (λ n. n * 2 ^ bit) d)

pub side_right : (split key bit : ℕ) → split % 2 ^ (bit + 1) ≡ 2 ^ bit → key / 2 ^ (bit + 1) ≡ split / 2 ^ (bit + 1) → split ≤ key → key / 2 ^ bit * 2 ^ bit ≡ split
side_right split key bit m same h =
    let q : ℕ = split / 2 ^ (bit + 1) in
    let s = halves split bit m in
    let rest : ℕ = key - split in
    let k : key ≡ (q + q + 1) * 2 ^ bit + rest = omega (arith, s, add-mul (q + q) 1 (2 ^ bit)) in
    let lt : rest < 2 ^ bit = omega (arith, s, shr_split key (bit + 1), mod_below key (2 ^ (bit + 1)) (pow_pos (bit + 1)), pair q (2 ^ bit), ap (λ n. n * 2 ^ (bit + 1)) same, ap (λ n. q * n) (twice bit), twice bit) in
    let d : key / 2 ^ bit ≡ q + q + 1 = ap (λ n. n / 2 ^ bit) k ∙ div-mul-add (q + q + 1) (2 ^ bit) rest lt in
    omega (arith, s, ap (λ n. n * 2 ^ bit) d, add-mul (q + q) 1 (2 ^ bit))

-- the halves of a split lie in each larger block of it
pub in_block : (split bit d : ℕ) → split % 2 ^ (bit + 1) ≡ 2 ^ bit → (split / 2 ^ (bit + 1 + d) * 2 ^ (bit + 1 + d) + 2 ^ bit ≤ split) × (split + 2 ^ bit ≤ split / 2 ^ (bit + 1 + d) * 2 ^ (bit + 1 + d) + 2 ^ (bit + 1 + d))
in_block split bit d m =
    let q : ℕ = split / 2 ^ (bit + 1) in
    let C : ℕ = 2 ^ (bit + 1) in
    let D : ℕ = 2 ^ d in
    let j : ℕ = bit + 1 + d in
    let s : ℕ = split / 2 ^ j in
    let e : s ≡ q / D = sym (shr-shr split (bit + 1) d) in
    let b = block q d in
    let p : 2 ^ j ≡ D * C = pow-add 2 (bit + 1) d ∙ native.Mathlib.Nat.mul_comm C D in
    let low : s * 2 ^ j ≡ q / D * D * C = ap (λ n. s * n) p ∙ ap (λ n. n * (D * C)) e ∙ sym (mul_assoc (q / D) D C) in
    let le : q / D * D * C ≤ q * C = mul-le-mul_right C b.0 in
    let ge : (q + 1) * C ≤ (q / D * D + D) * C = mul-le-mul_right C (omega (arith, b.1)) in
    let sp = shr_split split (bit + 1) in
    let t = twice bit in
    (omega (arith, low, le, sp, m, t), omega (arith, low, p, ge, sp, m, t, add-mul q 1 C, add-mul (q / D * D) D C))

-- equal from a bit on is equal above it
pub above : (a b i d : ℕ) → a / 2 ^ i ≡ b / 2 ^ i → a / 2 ^ (i + d) ≡ b / 2 ^ (i + d)
above a b i d e = sym (shr-shr a i d) ∙ ap (λ n. n / 2 ^ d) e ∙ shr-shr b i d
