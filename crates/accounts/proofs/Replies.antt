-- When each answer of a change comes. Assumes nothing.
use Rattle.std.proofs.Common.{◌≡◌, ℕ, ◌<◌, ◌≤◌, false, ◌&&◌, ◌||◌, eqb, ltb, leb, ◌⊎◌, length, Ok, sym, ◌∙◌, inl, inr, arith}
use Rattle.std.proofs.lemmas.Bool.{cond-true, cond-false, or_from, or_left, or_right, and_from, and_left, and_right, eq-eqb, ne_eqb, lt-ltb, le-ltb, le-leb, lt-leb}
use Rattle.terms.specs.Ranges.{is_asset, is_balance}
use Rattle.terms.specs.Holdings.{Store, standing}
use Rattle.accounts.specs.Changes.{refused, open_answer, balance_answer, floor_answer}

module _ (s : Store) (n : ℕ) where
  pub open_out : (n ≡ 0) ⊎ (s.top < n) → refused 27 ≡ open_answer s n
  open_out (inl e) = sym (cond-true (eqb n 0 || ltb s.top n) _ _ (or_left _ _ (eq-eqb n 0 e)))
  open_out (inr h) = sym (cond-true (eqb n 0 || ltb s.top n) _ _ (or_right _ _ (lt-ltb s.top n h)))

  module _ (ne : n ≡ 0 → ⊥) (le : n ≤ s.top) where
    in_range : (eqb n 0 || ltb s.top n) ≡ false
    in_range = or_from _ _ (ne_eqb n 0 ne) (le-ltb s.top n le)

    pub open_stands : standing s n ≡ 1 → refused 28 ≡ open_answer s n
    open_stands e = sym (cond-false (eqb n 0 || ltb s.top n) _ _ in_range ∙ cond-true (ltb 0 (standing s n)) _ _ (lt-ltb 0 (standing s n) (omega arith)))

    pub open_full : standing s n ≡ 0 → s.capacity ≤ length s.accounts → refused 29 ≡ open_answer s n
    open_full e h =
        sym (cond-false (eqb n 0 || ltb s.top n) _ _ in_range ∙ cond-false (ltb 0 (standing s n)) _ _ (le-ltb 0 (standing s n) (omega arith))
        ∙ cond-true (leb s.capacity (length s.accounts)) _ _ (le-leb _ _ h))

    pub open_made : standing s n ≡ 0 → length s.accounts < s.capacity → Ok tt ≡ open_answer s n
    open_made e h =
        sym (cond-false (eqb n 0 || ltb s.top n) _ _ in_range ∙ cond-false (ltb 0 (standing s n)) _ _ (le-ltb 0 (standing s n) (omega arith))
        ∙ cond-false (leb s.capacity (length s.accounts)) _ _ (lt-leb _ _ h))

  pub balance_missing : (x v : ℕ) → standing s n ≡ 0 → refused 30 ≡ balance_answer s n x v
  balance_missing x v e = sym (cond-true (eqb (standing s n) 0) _ _ (eq-eqb _ 0 e))

  pub balance_out : (x v : ℕ) → standing s n ≡ 1 → (8 ≤ x) ⊎ (68719476736 ≤ v) → refused 31 ≡ balance_answer s n x v
  balance_out x v e h =
      sym (cond-false (eqb (standing s n) 0) _ _ (ne_eqb _ 0 (λ z. omega arith))
      ∙ cond-false (is_asset x && is_balance v) _ _ (elim h [ inl a ↦ and_left _ _ (le-ltb x 8 a) | inr a ↦ and_right _ _ (le-ltb v 68719476736 a) ]))

  pub balance_made : (x v : ℕ) → standing s n ≡ 1 → x < 8 → v < 68719476736 → Ok tt ≡ balance_answer s n x v
  balance_made x v e a b =
      sym (cond-false (eqb (standing s n) 0) _ _ (ne_eqb _ 0 (λ z. omega arith))
      ∙ cond-true (is_asset x && is_balance v) _ _ (and_from _ _ (lt-ltb x 8 a) (lt-ltb v 68719476736 b)))

  pub floor_missing : standing s n ≡ 0 → refused 30 ≡ floor_answer s n
  floor_missing e = sym (cond-true (eqb (standing s n) 0) _ _ (eq-eqb _ 0 e))

  pub floor_made : standing s n ≡ 1 → Ok tt ≡ floor_answer s n
  floor_made e = sym (cond-false (eqb (standing s n) 0) _ _ (ne_eqb _ 0 (λ z. omega arith)))
