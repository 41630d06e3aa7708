-- Walking a rising book by its next key. Assumes nothing.
use Rattle.std.proofs.Common.{◌≡◌, ℕ, ◌+◌, ◌*◌, ◌<◌, ◌≤◌, true, false, cond, ◌&&◌, List, [], ◌∷◌, sum_by, sym, ◌∙◌, subst, inl, inr, arith}
use Rattle.std.specs.List.{AllByRecursion}
use Rattle.std.proofs.lemmas.List.Sums.{sum_by-cons}
use Rattle.std.proofs.lemmas.Bool.{cases_Bool, both_ways, cond-true, cond-false}
use Rattle.std.proofs.ByRecursion.{All-weaker}
use Rattle.terms.specs.declared.Key.{Key}
use Rattle.terms.specs.declared.Offer.{Offer}
use Rattle.terms.specs.Order.{lower, same, Rising, words, place, above}
use Rattle.terms.specs.Holdings.{Book, amount_at, sound_book}
use Rattle.terms.proofs.Order.{same_is, same_refl, total, irreflexive, transitive, asymmetric}
use Rattle.exchange.proofs.Rising.{sum_by_zero, sum_by_same, sum_by_plus}
use Rattle.offers.proofs.Sound.{book_parts, offer_amount, part_fits}
use Rattle.fills.specs.Ahead.{between}

-- no key stands above l
pub none_above : (os : List Offer) (l : List ℕ) → [] ≡ above place os l → AllByRecursion (λ o. lower l (place o) ≡ false) os
none_above [] l e = tt
none_above (o ∷ os) l e =
    elim (cases_Bool (lower l (place o))) [
      | inl p ↦
          let q : [] ≡ place o = e ∙ cond-true (lower l (place o)) (place o) (above place os l) p in
          absurd (let z : ◌≡◌ {A = ℕ} 0 1 = cc in omega arith)
      | inr p ↦ (p, none_above os l (e ∙ cond-false (lower l (place o)) (place o) (above place os l) p))
    ]

-- k is the lowest key above l: it stands, and no other stands between
pub record Next (os : List Offer) (l k : List ℕ) : Type 0 where
  pub higher : lower l k ≡ true
  pub lowest : AllByRecursion (λ o. lower l (place o) ≡ true → lower (place o) k ≡ false) os
  pub some : 0 < sum_by (λ o. cond (same (place o) k) o.amount 0) os

pub next_above : (os : List Offer) → Rising place os → AllByRecursion (λ o. 0 < o.amount) os → (l : List ℕ) (k : Key) → words k ≡ above place os l → Next os l (words k)
next_above [] r a l k e = absurd (let z : ◌≡◌ {A = ℕ} 0 1 = cc in omega arith)
next_above (o ∷ os) r a l k e =
    let more = sum_by-cons (λ z. cond (same (place z) (words k)) z.amount 0) o os in
    elim (cases_Bool (lower l (place o))) [
      | inl p ↦
          let q : place o ≡ words k = sym (e ∙ cond-true (lower l (place o)) (place o) (above place os l) p) in
          record {
            higher = subst (λ z. lower l z ≡ true) q p;
            lowest = (
              (λ _. subst (λ z. lower (place o) z ≡ false) q (irreflexive (place o))),
              All-weaker _ _ (λ z h _. subst (λ w. lower (place z) w ≡ false) q (asymmetric (place o) (place z) h)) os r.0,
            );
            some = omega (arith, more, a.0, cond-true (same (place o) (words k)) o.amount 0 (subst (λ z. same (place o) z ≡ true) q (same_refl (place o))));
          }
      | inr p ↦
          let n = next_above os r.1 a.1 l k (e ∙ cond-false (lower l (place o)) (place o) (above place os l) p) in
          record {
            higher = n.higher;
            lowest = ((λ h. absurd (both_ways (lower l (place o)) p h)), n.lowest);
            some = omega (arith, more, n.some);
          }
    ]

-- the key at p counts as before, now that k is passed
passed : (l k h p : List ℕ) (a : ℕ) → lower l k ≡ true → lower k h ≡ true → (lower l p ≡ true → lower p k ≡ false)
    → cond (lower l p && lower p h) a 0 ≡ cond (same p k) a 0 + cond (lower k p && lower p h) a 0
passed l k h p a low high near =
    elim (cases_Bool (same p k)) [
      | inl s ↦
          let e : k ≡ p = sym (same_is p k s) in
          let u : lower l p ≡ true = subst (λ z. lower l z ≡ true) e low in
          let v : lower p h ≡ true = subst (λ z. lower z h ≡ true) e high in
          let w : lower k p ≡ false = subst (λ z. lower k z ≡ false) e (irreflexive k) in
          rw (s, u, v, w) (omega arith)
      | inr s ↦ elim (cases_Bool (lower l p)) [
        | inl u ↦
            let w : lower k p ≡ true =
            elim (cases_Bool (lower k p)) [
              | inl y ↦ y
              | inr y ↦ absurd (both_ways (same p k) s (subst (λ z. same p z ≡ true) (total p k (near u) y) (same_refl p)))
            ] in
            rw (s, u, w) (omega arith)
        | inr u ↦
            let w : lower k p ≡ false =
            elim (cases_Bool (lower k p)) [
              | inl y ↦ absurd (both_ways (lower l p) u (transitive l k p low y))
              | inr y ↦ y
            ] in
            rw (s, u, w) (omega arith)
      ]
    ]

-- nothing counts that stands from k on, where k is not below h
ended : (l k h p : List ℕ) (a : ℕ) → lower k h ≡ false → (lower l p ≡ true → lower p k ≡ false) → cond (lower l p && lower p h) a 0 ≡ 0
ended l k h p a high near =
    elim (cases_Bool (lower l p)) [
      | inr u ↦ rw u (omega arith)
      | inl u ↦
          let v : lower p h ≡ false =
          elim (cases_Bool (lower p h)) [
            | inr y ↦ y
            | inl y ↦ elim (cases_Bool (lower k p)) [
              | inl z ↦ absurd (both_ways (lower k h) high (transitive k p h z y))
              | inr z ↦ absurd (both_ways (lower k h) high (subst (λ w. lower w h ≡ true) (total p k (near u) z) y))
            ]
          ] in
          rw (u, v) (omega arith)
    ]

module _ (os : List Offer) (l h : List ℕ) where
  pub between_none : AllByRecursion (λ o. lower l (place o) ≡ false) os → between l h os ≡ 0
  between_none a = sum_by_zero _ os (All-weaker _ _ (λ o e. rw e (omega arith)) os a)

  module _ (k : Key) (n : Next os l (words k)) where
    pub between_next : lower (words k) h ≡ true → between l h os ≡ amount_at os k + between (words k) h os
    between_next below =
        sum_by_same _ _ os (All-weaker _ _ (λ o near. passed l (words k) h (place o) o.amount n.higher below near) os n.lowest)
        ∙ sum_by_plus (λ o. cond (same (place o) (words k)) o.amount 0) (λ o. cond (lower (words k) (place o) && lower (place o) h) o.amount 0) os

    pub between_end : lower (words k) h ≡ false → between l h os ≡ 0
    between_end beyond = sum_by_zero _ os (All-weaker _ _ (λ o near. ended l (words k) h (place o) o.amount beyond near) os n.lowest)

-- in a sound book
pub next_in : (bk : Book) → sound_book bk ≡ true → (l : List ℕ) (k : Key) → words k ≡ above place bk.offers l → Next bk.offers l (words k)
next_in bk ok l k e =
    let p = book_parts bk ok in
    next_above bk.offers p.up (All-weaker _ _ (λ o f. (offer_amount o f).0) bk.offers p.fit) l k e

pub between_fits : (bk : Book) → sound_book bk ≡ true → (l h : List ℕ) → between l h bk.offers ≤ 65536 * 68719476735
between_fits bk ok l h = part_fits bk (λ o. lower l (place o) && lower (place o) h) (book_parts bk ok)
