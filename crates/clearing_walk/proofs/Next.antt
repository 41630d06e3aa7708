-- The next key of a book: above the given key stands nothing below it. Assumes nothing.
use Rattle.std.proofs.Common.{◌≡◌, ℕ, ◌<◌, true, false, cond, List, [], ◌∷◌, Some, None, Option, sym, ap, ◌∙◌, subst, inl, inr, arith}
use Rattle.std.specs.List.{AllByRecursion}
use Rattle.std.proofs.lemmas.List.Sums.{sum_by-cons}
use Rattle.std.proofs.ByRecursion.{All-weaker}
use Rattle.std.proofs.lemmas.Bool.{cond-true, cond-false, cases_Bool, both_ways, true≢false, false≢true}
use Rattle.terms.specs.declared.Key.{Key}
use Rattle.terms.specs.declared.Offer.{Offer}
use Rattle.terms.specs.Order.{lower, same, words, place, under, above, Rising}
use Rattle.terms.specs.Holdings.{Book, sound_book, amount_at}
use Rattle.terms.proofs.Order.{same_is}
use Rattle.ordered.specs.Places.{told}
use Rattle.ordered.proofs.Rising.{under_first, under_none}
use Rattle.offers.proofs.Sound.{book_parts, offer_amount}
use Rattle.exchange.proofs.Rising.{absent_below}

-- the lowest key with an amount above k, or none
abbrev pub NextKey : List Offer → Key → Option Key → Type 0
NextKey os k None = (j : Key) → lower (words k) (words j) ≡ true → amount_at os j ≡ 0
NextKey os k (Some n) =
    (lower (words k) (words n) ≡ true) × (0 < amount_at os n)
    × ((j : Key) → lower (words k) (words j) ≡ true → lower (words j) (words n) ≡ true → amount_at os j ≡ 0)

-- an offer that is not above k is not at a key above k
elsewhere : (k : List ℕ) (o : Offer) (j : Key) → lower k (place o) ≡ false → lower k (words j) ≡ true → same (place o) (words j) ≡ false
elsewhere k o j p q =
    elim (cases_Bool (same (place o) (words j))) [
      | inl e ↦ absurd (both_ways (lower k (place o)) p (subst (λ z. lower k z ≡ true) (sym (same_is (place o) (words j) e)) q))
      | inr e ↦ e
    ]

none_above : (k : List ℕ) (os : List Offer) → [] ≡ above place os k → AllByRecursion (λ o. lower k (place o) ≡ false) os
none_above k [] e = tt
none_above k (o ∷ os) e =
    elim (cases_Bool (lower k (place o))) [
      | inl p ↦ let h : [] ≡ place o = e ∙ cond-true (lower k (place o)) (place o) (above place os k) p in absurd (false≢true (ap (lower []) h))
      | inr p ↦ (p, none_above k os (e ∙ cond-false (lower k (place o)) (place o) (above place os k) p))
    ]

some_above : (k : Key) (os : List Offer) → Rising place os → AllByRecursion (λ o. 0 < o.amount) os → (n : Key) → words n ≡ above place os (words k)
    → NextKey os k (Some n)
some_above k [] r a n e = absurd (true≢false (ap (lower []) e))
some_above k (o ∷ os) r a n e =
    elim (cases_Bool (lower (words k) (place o))) [
      | inl p ↦
          let h : words n ≡ place o = e ∙ cond-true (lower (words k) (place o)) (place o) (above place os (words k)) p in (
            subst (λ z. lower (words k) z ≡ true) (sym h) p,
            omega (arith, ap (under place (λ z. z.amount) (o ∷ os)) h, under_first place (λ z. z.amount) o os r, a.0),
            λ j q l. absent_below place (λ z. z.amount) o os (words j) r (subst (λ z. lower (words j) z ≡ true) h l),
          )
      | inr p ↦
          let (up, some, gap) = some_above k os r.1 a.1 n (e ∙ cond-false (lower (words k) (place o)) (place o) (above place os (words k)) p) in (
            up,
            omega (arith, some, sum_by-cons (λ z. cond (same (place z) (words n)) z.amount 0) o os),
            λ j q l. omega (
              arith,
              sum_by-cons (λ z. cond (same (place z) (words j)) z.amount 0) o os,
              cond-false (same (place o) (words j)) o.amount 0 (elsewhere (words k) o j p q),
              gap j q l,
            ),
          )
    ]

pub next_key : (b : Book) → sound_book b ≡ true → (k : Key) (r : Option Key) → told words r ≡ above place b.offers (words k) → NextKey b.offers k r
next_key b ok k None e =
    λ j q. under_none place (λ o. o.amount) b.offers (words j)
    (All-weaker _ _ (λ o p. elsewhere (words k) o j p q) b.offers (none_above (words k) b.offers e))
next_key b ok k (Some n) e =
    let f = book_parts b ok in
    some_above k b.offers f.up (All-weaker _ _ (λ o h. (offer_amount o h).0) b.offers f.fit) n e
