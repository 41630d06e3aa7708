use Rattle.std.proofs.Common.{◌≡◌, ℕ, zero, suc, ◌/◌, ◌%◌, ◌<◌, ◌==◌, Bool, true, ◌&&◌, List, [], ◌∷◌, slice_index, inl, inr, refl, ◌∙◌, arith, rules}
use Rattle.std.proofs.lemmas.Bool.{and_parts, cases_lt, eqb-true}
use Rattle.hex.specs.Hex.{encode_with, lower_digits}
use Rattle.sha256.specs.Hex.{hex_digit, hex_of}
use Rattle.sha256.proofs.hex.Goals as goal

-- the first n digits of the library's table are these
abbrev alike : ℕ → Bool
alike zero = true
alike (suc n) = slice_index lower_digits n == hex_digit n && alike n

alike_at : (n d : ℕ) → alike n ≡ true → d < n → slice_index lower_digits d ≡ hex_digit d
alike_at zero d h lt = absurd (omega arith)
alike_at (suc n) d h lt =
    let parts = and_parts (slice_index lower_digits n == hex_digit n) (alike n) h in
    elim (cases_lt d n) [
      | inl below ↦ alike_at n d parts.1 below
      | inr top ↦ let e : d ≡ n = omega arith in rw e (eqb-true (slice_index lower_digits n) (hex_digit n) parts.0)
    ]

digit : (d : ℕ) → d < 16 → slice_index lower_digits d ≡ hex_digit d
digit d lt = alike_at 16 d refl lt

encoded : (bs : List ℕ) → ((i : ℕ) → slice_index bs i < 256) → encode_with lower_digits bs ≡ hex_of bs
unfolding encode_with
encoded [] h = refl
encoded (b ∷ bs) h =
    let low : b < 256 = h 0 in
    let x : slice_index lower_digits (b / 16) ≡ hex_digit (b / 16) = digit (b / 16) (omega arith) in
    let y : slice_index lower_digits (b % 16) ≡ hex_digit (b % 16) = digit (b % 16) (omega arith) in
    let r : encode_with lower_digits bs ≡ hex_of bs = encoded bs (λ i. h (suc i)) in
    λ i. x i ∷ y i ∷ r i

pub returns : goal.returns
returns c = let e : c.encode_to_slice.new.output ≡ encode_with lower_digits c.args.digest.now = search rules in e ∙ encoded c.args.digest.now c.fits-digest
