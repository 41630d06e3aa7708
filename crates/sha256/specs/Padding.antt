-- What is hashed of a message (FIPS 180-4, section 5): its padding, the words of a block, and the value to start from.
-- A message is a list of bytes.
use Rattle.std.specs.Prelude.{◌≡◌, ℕ, zero, suc, ◌+◌, ◌-◌, ◌*◌, ◌%◌, ◌<◌, List, [], ◌∷◌, ◌++◌, length, replicate}
use Rattle.sha256.specs.declared.compress.State.{State}
use Rattle.terms.specs.Bytes.{bytes_of, field}

-- how many bytes 0 the padding of a message of n bytes has
abbrev pub zeros : ℕ → ℕ
zeros n = (119 - n % 64) % 64

-- they are the fewest that leave eight bytes to the end of a block, behind the byte 0x80
abbrev pub PaddingFits : Type 0
PaddingFits = (n : ℕ) → ((n + 1 + zeros n) % 64 ≡ 56) × (zeros n < 64)

-- Section 5.1.1: the message, a bit 1, bits 0, and the message's length in bits as a number of 64 bits.
-- The standard takes messages of less than 2^61 bytes. Of a longer one this has the length modulo 2^64.
unfoldable pub pad : List ℕ → List ℕ
pad m = m ++ (0x80 ∷ replicate (zeros (length m)) 0) ++ bytes_of 8 (8 * length m)

-- Section 5.2.1: the first n words of a block, four bytes each
unfoldable pub words_of : ℕ → List ℕ → List ℕ
words_of zero block = []
words_of (suc n) block = words_of n block ++ field 4 block (4 * n) ∷ []

-- Section 5.3.3: the initial hash value, the first 32 bits of the fractional parts of the square roots of the first 8 primes
abbrev pub initial : State
initial =
    record {
      a = 0x6a09e667;
      b = 0xbb67ae85;
      c = 0x3c6ef372;
      d = 0xa54ff53a;
      e = 0x510e527f;
      f = 0x9b05688c;
      g = 0x1f83d9ab;
      h = 0x5be0cd19;
    }
