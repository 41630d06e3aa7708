-- Numbers as their bytes, and messages put together from pieces. Assumes nothing.
use Rattle.std.proofs.Common.{◌≡◌, ℕ, ◌/◌, ◌%◌, List, [], ◌∷◌, ◌++◌, ap, append_assoc, arith}
use Rattle.terms.specs.Bytes.{bytes_of}

pub four_bytes : (n : ℕ) → n / 16777216 % 256 ∷ n / 65536 % 256 ∷ n / 256 % 256 ∷ n % 256 ∷ [] ≡ bytes_of 4 n
four_bytes n =
    let e : n % 256 ≡ n / 1 % 256 = omega arith in
    ap (λ z. n / 16777216 % 256 ∷ n / 65536 % 256 ∷ n / 256 % 256 ∷ z ∷ []) e

pub eight_bytes : (n : ℕ) → n / 72057594037927936 % 256 ∷ n / 281474976710656 % 256 ∷ n / 1099511627776 % 256 ∷ n / 4294967296 % 256 ∷ n / 16777216 % 256 ∷ n / 65536 % 256 ∷ n / 256 % 256 ∷ n % 256 ∷ [] ≡ bytes_of 8 n
eight_bytes n =
    let e : n % 256 ≡ n / 1 % 256 = omega arith in
    ap (λ z. n / 72057594037927936 % 256 ∷ n / 281474976710656 % 256 ∷ n / 1099511627776 % 256 ∷ n / 4294967296 % 256 ∷ n / 16777216 % 256 ∷ n / 65536 % 256 ∷ n / 256 % 256 ∷ z ∷ []) e

pub three : (m a b c : List ℕ) → ((m ++ a) ++ b) ++ c ≡ m ++ (a ++ (b ++ c))
three m a b c = simp append_assoc

pub five : (m a b c d e : List ℕ) → ((((m ++ a) ++ b) ++ c) ++ d) ++ e ≡ m ++ ((a ++ (b ++ (c ++ d))) ++ e)
five m a b c d e = simp append_assoc

pub seven : (a b c d e f g : List ℕ) → ((((((a ++ b) ++ c) ++ d) ++ e) ++ f) ++ g) ≡ a ++ (b ++ (c ++ (d ++ (e ++ (f ++ g)))))
seven a b c d e f g = simp append_assoc

-- two numbers and four pieces, each as it should be
pub put_together : (a b a' b' : ℕ) (p q r u p' q' r' u' : List ℕ) → a ≡ a' → b ≡ b' → p ≡ p' → q ≡ q' → r ≡ r' → u ≡ u'
    → (a ∷ b ∷ (p ++ (q ++ r))) ++ u ≡ (a' ∷ b' ∷ (p' ++ (q' ++ r'))) ++ u'
put_together a b a' b' p q r u p' q' r' u' ea eb ep eq er eu = cc
