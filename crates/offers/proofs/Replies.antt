-- When each answer of a change comes. Assumes nothing.
use Rattle.std.proofs.Common.{◌≡◌, ℕ, ◌<◌, ◌≤◌, Bool, true, false, cond, ◌&&◌, eqb, ltb, leb, length, Ok, sym, ap, ◌∙◌, arith}
use Rattle.std.proofs.lemmas.Bool.{cond-true, cond-false, eq-eqb, ne_eqb, lt-ltb, le-ltb, le-leb, lt-leb}
use Rattle.terms.specs.declared.Key.{Key}
use Rattle.terms.specs.Ranges.{fit_key, is_amount}
use Rattle.terms.specs.Holdings.{Book, amount_at}
use Rattle.accounts.specs.Changes.{refused}
use Rattle.offers.specs.Changes.{place_answer, reduce_answer, taken, replace_answer}

module _ (b : Book) (k : Key) (v : ℕ) where
  pub place_stands : 0 < amount_at b.offers k → refused 28 ≡ place_answer b k v
  place_stands h = sym (cond-true (ltb 0 (amount_at b.offers k)) _ _ (lt-ltb 0 _ h))

  module _ (absent : amount_at b.offers k ≡ 0) where
    pub place_full : b.capacity ≤ length b.offers → refused 29 ≡ place_answer b k v
    place_full h =
        sym (cond-false (ltb 0 (amount_at b.offers k)) _ _ (le-ltb 0 (amount_at b.offers k) (omega arith))
        ∙ cond-true (leb b.capacity (length b.offers)) _ _ (le-leb _ _ h))

    module _ (room : length b.offers < b.capacity) where
      pub place_out : (fit_key k && is_amount v) ≡ false → refused 31 ≡ place_answer b k v
      place_out f =
          sym (cond-false (ltb 0 (amount_at b.offers k)) _ _ (le-ltb 0 (amount_at b.offers k) (omega arith))
          ∙ cond-false (leb b.capacity (length b.offers)) _ _ (lt-leb _ _ room) ∙ cond-false (fit_key k && is_amount v) _ _ f)

      pub place_made : (fit_key k && is_amount v) ≡ true → Ok tt ≡ place_answer b k v
      place_made f =
          sym (cond-false (ltb 0 (amount_at b.offers k)) _ _ (le-ltb 0 (amount_at b.offers k) (omega arith))
          ∙ cond-false (leb b.capacity (length b.offers)) _ _ (lt-leb _ _ room) ∙ cond-true (fit_key k && is_amount v) _ _ f)

  pub reduce_missing : amount_at b.offers k ≡ 0 → refused 30 ≡ reduce_answer b k v
  reduce_missing e = sym (cond-true (eqb (amount_at b.offers k) 0) _ _ (eq-eqb _ 0 e))

  module _ (stands : 0 < amount_at b.offers k) where
    pub reduce_more : amount_at b.offers k < v → refused 31 ≡ reduce_answer b k v
    reduce_more m =
        sym (cond-false (eqb (amount_at b.offers k) 0) _ _ (ne_eqb _ 0 (λ z. omega arith)) ∙ cond-false (leb v (amount_at b.offers k)) _ _ (lt-leb _ _ m))

    pub reduce_made : v ≤ amount_at b.offers k → Ok tt ≡ reduce_answer b k v
    reduce_made m =
        sym (cond-false (eqb (amount_at b.offers k) 0) _ _ (ne_eqb _ 0 (λ z. omega arith)) ∙ cond-true (leb v (amount_at b.offers k)) _ _ (le-leb _ _ m))

module _ (b : Book) (j k : Key) (v : ℕ) where
  pub replace_stands : taken b j k ≡ true → refused 28 ≡ replace_answer b j k v
  replace_stands h = sym (cond-true (taken b j k) _ _ h)

  module _ (free : taken b j k ≡ false) where
    pub replace_missing : amount_at b.offers j ≡ 0 → refused 30 ≡ replace_answer b j k v
    replace_missing e =
        sym (cond-false (taken b j k) _ _ free ∙ cond-true (eqb (amount_at b.offers j) 0) _ _ (eq-eqb _ 0 e))

    module _ (stands : 0 < amount_at b.offers j) where
      pub replace_ends : (t : Bool) → (fit_key k && is_amount v) ≡ t → cond t (Ok tt) (refused 31) ≡ replace_answer b j k v
      replace_ends t f =
          sym (cond-false (taken b j k) _ _ free
          ∙ cond-false (eqb (amount_at b.offers j) 0) _ _ (ne_eqb _ 0 (λ z. omega arith)) ∙ ap (λ x. cond x (Ok tt) (refused 31)) f)
