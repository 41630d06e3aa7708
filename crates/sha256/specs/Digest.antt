-- The digest of a message (FIPS 180-4, section 6.2.2, at its end).
use Rattle.std.specs.Prelude.{ℕ, ◌/◌, List, [], ◌∷◌, length}
use Rattle.std.specs.List.{flat_map}
use Rattle.sha256.specs.declared.compress.State.{State}
use Rattle.terms.specs.Bytes.{bytes_of}
use Rattle.sha256.specs.Padding.{pad}
use Rattle.sha256.specs.Compression.{chain}

-- the eight words of a hash value
abbrev pub words_in : State → List ℕ
words_in s = s.a ∷ s.b ∷ s.c ∷ s.d ∷ s.e ∷ s.f ∷ s.g ∷ s.h ∷ []

-- the 32 bytes of a hash value: four for each word, in turn
abbrev pub digest_of : State → List ℕ
digest_of s = flat_map (bytes_of 4) (words_in s)

-- the bytes of the hash value after all blocks of the padded message
unfoldable pub sha256 : List ℕ → List ℕ
sha256 m = digest_of (chain (length (pad m) / 64) (pad m))
