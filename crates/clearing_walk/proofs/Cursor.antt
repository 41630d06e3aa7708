-- Sums up to a cursor, over keys that are in trade once. Assumes nothing.
use Rattle.std.proofs.Common.{◌≡◌, ℕ, ◌+◌, ◌*◌, ◌<◌, ◌≤◌, true, false, cond, ◌⊎◌, List, sum_by, sym, ap, ◌∙◌, subst, inl, inr, arith}
use Rattle.std.proofs.lemmas.Bool.{cases_Bool, cases_eq, both_ways}
use Rattle.terms.specs.declared.Key.{Key}
use Rattle.terms.specs.declared.Offer.{Offer}
use Rattle.terms.specs.Order.{lower, same, words, place, under}
use Rattle.terms.specs.Holdings.{amount_at}
use Rattle.terms.proofs.Order.{transitive, irreflexive, total, same_refl, same_is, key_is}
use Rattle.exchange.proofs.Rising.{sum_by_same, sum_by_plus, sum_by_grows, all_of}
use Rattle.exchange.proofs.Sums.{if_true, if_false, Once, under_const, under_gone}

-- one of two keys is lower, or they are the same
pub other : (c d : List ℕ) → same c d ≡ false → lower d c ≡ false → lower c d ≡ true
other c d n h =
    elim (cases_Bool (lower c d)) [
      | inl p ↦ p
      | inr p ↦ absurd (both_ways (same c d) n (subst (λ z. same c z ≡ true) (total c d p h) (same_refl c)))
    ]

-- c is not above d, which is below e
pub le_lt : (c d e : List ℕ) → lower d c ≡ false → lower d e ≡ true → lower c e ≡ true
le_lt c d e h p =
    elim (cases_Bool (same c d)) [
      | inl q ↦ subst (λ z. lower z e ≡ true) (sym (same_is c d q)) p
      | inr q ↦ transitive c d e (other c d q h) p
    ]

module _ (f : Key → ℕ) (c : List ℕ) where
  -- past the key k, with nothing between
  past : (k j : Key) → lower c (words k) ≡ true → (lower c (words j) ≡ true → lower (words j) (words k) ≡ true → f j ≡ 0)
      → cond (lower (words k) (words j)) 0 (f j) ≡ cond (lower c (words j)) 0 (f j) + cond (same (words j) (words k)) (f k) 0
  past k j up quiet =
      elim (cases_Bool (same (words j) (words k))) [
        | inl p ↦
            let e : j ≡ k = key_is j k (same_is (words j) (words k) p) in
            subst (λ z. cond (lower (words k) (words z)) 0 (f z) ≡ cond (lower c (words z)) 0 (f z) + cond (same (words z) (words k)) (f k) 0) (sym e)
            (omega (
              arith,
              if_false (lower (words k) (words k)) 0 (f k) (irreflexive (words k)),
              if_true (lower c (words k)) 0 (f k) up,
              if_true (same (words k) (words k)) (f k) 0 (same_refl (words k)),
            ))
        | inr p ↦
            elim (cases_Bool (lower (words k) (words j))) [
              | inl q ↦
                  omega (
                    arith,
                    if_true (lower (words k) (words j)) 0 (f j) q,
                    if_true (lower c (words j)) 0 (f j) (transitive c (words k) (words j) up q),
                    if_false (same (words j) (words k)) (f k) 0 p,
                  )
              | inr q ↦
                  elim (cases_Bool (lower c (words j))) [
                    | inl r ↦
                        omega (
                          arith,
                          if_false (lower (words k) (words j)) 0 (f j) q,
                          if_true (lower c (words j)) 0 (f j) r,
                          if_false (same (words j) (words k)) (f k) 0 p,
                          quiet r (other (words j) (words k) p q),
                        )
                    | inr r ↦
                        omega (arith, if_false (lower (words k) (words j)) 0 (f j) q, if_false (lower c (words j)) 0 (f j) r, if_false (same (words j) (words k)) (f k) 0 p)
                  ]
            ]
      ]

  -- below the key k, with nothing between
  short_of : (k j : Key) → lower c (words k) ≡ true → (lower c (words j) ≡ true → lower (words j) (words k) ≡ true → f j ≡ 0)
      → cond (lower (words j) (words k)) (f j) 0 ≡ cond (lower c (words j)) 0 (f j)
  short_of k j up quiet =
      elim (cases_Bool (lower c (words j))) [
        | inl p ↦
            elim (cases_Bool (lower (words j) (words k))) [
              | inl q ↦ omega (arith, if_true (lower (words j) (words k)) (f j) 0 q, if_true (lower c (words j)) 0 (f j) p, quiet p q)
              | inr q ↦ omega (arith, if_false (lower (words j) (words k)) (f j) 0 q, if_true (lower c (words j)) 0 (f j) p)
            ]
        | inr p ↦
            omega (arith, if_true (lower (words j) (words k)) (f j) 0 (le_lt (words j) c (words k) p up), if_false (lower c (words j)) 0 (f j) p)
      ]

  -- up to c is below k
  within : (k j : Key) → lower c (words k) ≡ true → cond (lower c (words j)) 0 (f j) ≤ cond (lower (words j) (words k)) (f j) 0
  within k j up =
      elim (cases_Bool (lower c (words j))) [
        | inl p ↦ omega (arith, if_true (lower c (words j)) 0 (f j) p)
        | inr p ↦ omega (arith, if_true (lower (words j) (words k)) (f j) 0 (le_lt (words j) c (words k) p up), if_false (lower c (words j)) 0 (f j) p)
      ]

  -- from c to d nothing changes
  still : (d : List ℕ) (j : Key) → (lower c (words j) ≡ false → lower d (words j) ≡ false) → (lower c (words j) ≡ true → lower d (words j) ≡ false → f j ≡ 0)
      → cond (lower d (words j)) 0 (f j) ≡ cond (lower c (words j)) 0 (f j)
  still d j on quiet =
      elim (cases_Bool (lower c (words j))) [
        | inl p ↦
            elim (cases_Bool (lower d (words j))) [
              | inl q ↦ omega (arith, if_true (lower d (words j)) 0 (f j) q, if_true (lower c (words j)) 0 (f j) p)
              | inr q ↦ omega (arith, if_false (lower d (words j)) 0 (f j) q, if_true (lower c (words j)) 0 (f j) p, quiet p q)
            ]
        | inr p ↦ omega (arith, if_false (lower d (words j)) 0 (f j) (on p), if_false (lower c (words j)) 0 (f j) p)
      ]

-- sums over offers whose keys stand once
module _ (T : List Offer) (once : Once place T) (f : Key → ℕ) (c : List ℕ) where
  abbrev to : List ℕ → ℕ
  to d = sum_by (λ o. cond (lower d (place o)) 0 (f o.key)) T

  -- the sum under one key
  under_key : (k : Key) → 0 < amount_at T k → sum_by (λ o. cond (same (place o) (words k)) (f k) 0) T ≡ f k
  under_key k some =
      let u = under_const place (f k) T (words k) in
      let one : under place (λ _. 1) T (words k) ≡ 1 =
      elim (cases_one (under place (λ _. 1) T (words k)) (once (record { key = k; amount = 0 })))
      [ inl z ↦ absurd (omega (arith, some, under_gone place (λ o. o.amount) T (words k) z)) | inr z ↦ z ] in
      omega (arith, u, ap (λ n. f k * n) one)
    where
      cases_one : (n : ℕ) → n ≤ 1 → (n ≡ 0) ⊎ (n ≡ 1)
      cases_one n h = elim (cases_eq n 0) [ inl p ↦ inl p | inr p ↦ inr (omega (arith, p)) ]

  pub sum_past : (k : Key) → lower c (words k) ≡ true → 0 < amount_at T k
      → ((j : Key) → lower c (words j) ≡ true → lower (words j) (words k) ≡ true → f j ≡ 0)
      → to (words k) ≡ to c + f k
  sum_past k up some quiet =
      sum_by_same _ _ T (all_of _ (λ o. past f c k o.key up (quiet o.key)) T)
      ∙ sum_by_plus (λ o. cond (lower c (place o)) 0 (f o.key)) (λ o. cond (same (place o) (words k)) (f k) 0) T
      ∙ ap (λ n. to c + n) (under_key k some)

  pub sum_short : (k : Key) → lower c (words k) ≡ true
      → ((j : Key) → lower c (words j) ≡ true → lower (words j) (words k) ≡ true → f j ≡ 0)
      → sum_by (λ o. cond (lower (place o) (words k)) (f o.key) 0) T ≡ to c
  sum_short k up quiet = sum_by_same _ _ T (all_of _ (λ o. short_of f c k o.key up (quiet o.key)) T)

  pub sum_within : (k : Key) → lower c (words k) ≡ true → to c ≤ sum_by (λ o. cond (lower (place o) (words k)) (f o.key) 0) T
  sum_within k up = sum_by_grows _ _ T (all_of _ (λ o. within f c k o.key up) T)

  pub sum_still : (d : List ℕ) → ((j : Key) → lower c (words j) ≡ false → lower d (words j) ≡ false)
      → ((j : Key) → lower c (words j) ≡ true → lower d (words j) ≡ false → f j ≡ 0)
      → to d ≡ to c
  sum_still d on quiet = sum_by_same _ _ T (all_of _ (λ o. still f c d o.key (on o.key) (quiet o.key)) T)
