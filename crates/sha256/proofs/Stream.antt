-- A hasher takes one piece more.
use Rattle.std.proofs.Common.{◌≡◌, ℕ, zero, suc, ◌+◌, ◌*◌, ◌/◌, ◌%◌, ◌^◌, ◌<◌, ◌≤◌, List, [], ◌∷◌, ◌++◌, length, take, drop, replicate, sym, refl, ap, ◌∙◌, add-one, arith}
use Rattle.std.proofs.lemmas.List.{length-append, length-drop, drop-append-le, take-append-le, take_all, take-replicate, drop_all}
use Rattle.std.proofs.lemmas.Nat.{field_of}
use Rattle.sha256.specs.declared.compress.State.{State}
use Rattle.terms.specs.Bytes.{bytes_of}
use Rattle.sha256.specs.Padding.{zeros, pad}
use Rattle.sha256.specs.Compression.{compress_of, chain}
use Rattle.sha256.specs.Digest.{digest_of, sha256}
use Rattle.sha256.specs.Streaming.{Kept}

chain_more : (n : ℕ) (bs : List ℕ) → chain (n + 1) bs ≡ compress_of (chain n bs) (take 64 (drop (64 * n) bs))
unfolding chain
chain_more n bs = ap (λ k. chain k bs) (add-one n)

-- whole blocks do not change by what comes after them
chain_front : (n : ℕ) (xs ys : List ℕ) → 64 * n ≤ length xs → chain n (xs ++ ys) ≡ chain n xs
unfolding chain
chain_front zero xs ys h = refl
chain_front (suc n) xs ys h =
    let a : 64 * n ≤ length xs = omega arith in
    let b : 64 ≤ length (drop (64 * n) xs) = simp length-drop (omega arith) in
    ap (λ s. compress_of s (take 64 (drop (64 * n) (xs ++ ys)))) (chain_front n xs ys a)
    ∙ ap (compress_of (chain n xs)) (ap (take 64) (drop-append-le (64 * n) xs ys a) ∙ take-append-le 64 (drop (64 * n) xs) ys b)

-- the message m is kept, and a part comes that reaches no further than to the end of a block
module _ (s : State) (buffer : List ℕ) (count : ℕ) (m part : List ℕ) (k : Kept s buffer count m) where
  front : 64 * (length m / 64) ≤ length m
  front = omega arith

  size : (count + length part) % 2 ^ 64 ≡ length (m ++ part) % 2 ^ 64
  size = simp length-append (omega (arith, k.size))

  whole : s ≡ chain (length m / 64) (m ++ part)
  whole = k.whole ∙ sym (chain_front (length m / 64) m part front)

  rest : take (length m % 64) buffer ++ part ≡ drop (64 * (length m / 64)) (m ++ part)
  rest = ap (λ x. x ++ part) k.rest ∙ sym (drop-append-le (64 * (length m / 64)) m part front)

  -- the block is not complete yet
  pub begun : (b : List ℕ) → length m % 64 + length part < 64 → take (length m % 64 + length part) b ≡ take (length m % 64) buffer ++ part
      → Kept s b ((count + length part) % 2 ^ 64) (m ++ part)
  begun b small e =
      let q : length (m ++ part) / 64 ≡ length m / 64 = simp length-append (omega arith) in
      let r : length (m ++ part) % 64 ≡ length m % 64 + length part = simp length-append (omega arith) in
      record {
        size = size;
        whole = whole ∙ ap (λ i. chain i (m ++ part)) (sym q);
        rest = ap (λ i. take i b) r ∙ (e ∙ (rest ∙ ap (λ i. drop (64 * i) (m ++ part)) (sym q)));
      }

  -- the block is complete
  pub completed : (b block : List ℕ) → length m % 64 + length part ≡ 64 → block ≡ take (length m % 64) buffer ++ part
      → Kept (compress_of s block) b ((count + length part) % 2 ^ 64) (m ++ part)
  completed b block full e =
      let i = length m / 64 in
      let q : length (m ++ part) / 64 ≡ length m / 64 + 1 = simp length-append (omega arith) in
      let r : length (m ++ part) % 64 ≡ 0 = simp length-append (omega arith) in
      let l : length (drop (64 * i) (m ++ part)) ≤ 64 = simp (length-drop, length-append) (omega arith) in
      let z : length (m ++ part) ≤ 64 * (i + 1) = simp length-append (omega arith) in
      let x : block ≡ take 64 (drop (64 * i) (m ++ part)) = (e ∙ rest) ∙ sym (take_all 64 (drop (64 * i) (m ++ part)) l) in
      record {
        size = size;
        whole =
            ap (λ y. compress_of y block) whole
            ∙ (ap (compress_of (chain i (m ++ part))) x
            ∙ (sym (chain_more i (m ++ part)) ∙ ap (λ j. chain j (m ++ part)) (sym q)));
        rest =
            ap (λ j. take j b) r
            ∙ (sym (drop_all (64 * (i + 1)) (m ++ part) z) ∙ ap (λ j. drop (64 * j) (m ++ part)) (sym q));
      }

-- the eight bytes of a number of 64 bits
abbrev be64 : ℕ → List ℕ
be64 n =
    n / 72057594037927936 % 256 ∷ n / 281474976710656 % 256 ∷ n / 1099511627776 % 256 ∷ n / 4294967296 % 256
    ∷ n / 16777216 % 256 ∷ n / 65536 % 256 ∷ n / 256 % 256 ∷ n % 256 ∷ []

-- a byte does not depend on the bits above it
byte : (n j k : ℕ) → ((x : ℕ) → x % 2 ^ j % 256 ≡ x % 256) → n % 2 ^ (j + k) / 2 ^ k % 256 ≡ n / 2 ^ k % 256
byte n j k low = ap (λ x. x % 256) (field_of n j k) ∙ low (n / 2 ^ k)

be64_is : (n : ℕ) → be64 (n % 2 ^ 64) ≡ bytes_of 8 n
be64_is n =
    let h : n % 2 ^ 64 % 256 ≡ n / 1 % 256 = omega arith in
    let a = byte n 8 56 (λ x. omega arith) in
    let b = byte n 16 48 (λ x. omega arith) in
    let c = byte n 24 40 (λ x. omega arith) in
    let d = byte n 32 32 (λ x. omega arith) in
    let e = byte n 40 24 (λ x. omega arith) in
    let f = byte n 48 16 (λ x. omega arith) in
    let g = byte n 56 8 (λ x. omega arith) in
    cc

-- the bytes of the length, as the code counts them
pub length_bytes : (count : ℕ) (m : List ℕ) → count ≡ length m % 2 ^ 64 → be64 ((count * 8) % 2 ^ 64) ≡ bytes_of 8 (8 * length m)
length_bytes count m e =
    let n : (count * 8) % 2 ^ 64 ≡ (8 * length m) % 2 ^ 64 = omega arith in
    ap be64 n ∙ be64_is (8 * length m)

-- a message that is kept with its padding is hashed
pub finished : (s : State) (buffer : List ℕ) (count : ℕ) (m p : List ℕ) → Kept s buffer count p → p ≡ pad m → digest_of s ≡ sha256 m
unfolding sha256
finished s buffer count m p k e = ap digest_of (k.whole ∙ ap (λ x. chain (length x / 64) x) e)

-- the padding, as the code makes it
pub padded : (m : List ℕ) (k : ℕ) (last : List ℕ) → k ≡ zeros (length m) → last ≡ bytes_of 8 (8 * length m)
    → (m ++ take (k + 1) (0x80 ∷ replicate 63 0)) ++ last ≡ pad m
unfolding pad
padded m k last e f =
    let low : k ≤ 63 = omega arith in
    let p : take (k + 1) (0x80 ∷ replicate 63 0) ≡ 0x80 ∷ replicate (zeros (length m)) 0 =
    ap (λ n. take n (0x80 ∷ replicate 63 0)) (add-one k)
    ∙ (ap (λ x. 0x80 ∷ x) (take-replicate k 63 0 low) ∙ ap (λ n. 0x80 ∷ replicate n 0) e) in
    ap (λ x. (m ++ x) ++ last) p ∙ ap (λ x. (m ++ 0x80 ∷ replicate (zeros (length m)) 0) ++ x) f
