-- Numbers read from a part of the bytes are those read from the whole. Assumes nothing.
use Rattle.std.proofs.Common.{◌≡◌, ℕ, zero, suc, ◌+◌, ◌*◌, ◌<◌, ◌≤◌, List, [], ◌∷◌, get_or, take, drop, sym, refl, ap, ◌∙◌, add_assoc, arith}
use Rattle.std.proofs.lemmas.List.{get_or-take, get_or-drop}
use Rattle.terms.specs.Bytes.{field}
use Rattle.commands.specs.Format.{balances}

module _ (bs : List ℕ) (a n : ℕ) where
  pub field_part : (k i : ℕ) → i + k ≤ n → field k (take n (drop a bs)) i ≡ field k bs (a + i)
  field_part zero i h = refl
  field_part (suc k) i h =
      let l : i + k < n = omega arith in
      let h' : i + k ≤ n = omega arith in
      let e : get_or (take n (drop a bs)) (i + k) 0 ≡ get_or bs (a + i + k) 0 =
      get_or-take n (drop a bs) (i + k) 0 l ∙ (get_or-drop a bs (i + k) 0 ∙ ap (λ j. get_or bs j 0) (sym (add_assoc a i k))) in
      ap (λ x. x * 256 + get_or (take n (drop a bs)) (i + k) 0) (field_part k i h')
      ∙ ap (λ y. field k bs (a + i) * 256 + y) e

  pub balances_part : 64 ≤ n → balances (take n (drop a bs)) 0 ≡ balances bs a
  balances_part h =
      let f : (i : ℕ) → i + 8 ≤ n → field 8 (take n (drop a bs)) i ≡ field 8 bs (a + i) = field_part 8 in
      let z : a + 0 ≡ a = omega arith in
      let e₀ = f 0 (omega arith) ∙ ap (field 8 bs) z in
      let e₁ = f 8 (omega arith) in
      let e₂ = f 16 (omega arith) in
      let e₃ = f 24 (omega arith) in
      let e₄ = f 32 (omega arith) in
      let e₅ = f 40 (omega arith) in
      let e₆ = f 48 (omega arith) in
      let e₇ = f 56 (omega arith) in
      λ i. e₀ i ∷ e₁ i ∷ e₂ i ∷ e₃ i ∷ e₄ i ∷ e₅ i ∷ e₆ i ∷ e₇ i ∷ []
