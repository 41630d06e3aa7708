-- The tests of order and range of an offer book, as facts, and back. Assumes nothing.
use Rattle.std.proofs.Common.{◌≡◌, ℕ, ◌*◌, ◌<◌, ◌≤◌, Bool, true, false, cond, length, sum_by, mul-le-mul_right, arith}
use Rattle.std.specs.List.{AllByRecursion}
use Rattle.std.proofs.ByRecursion.{All-weaker, sum_by_le}
use Rattle.std.proofs.lemmas.Bool.{and_parts, and_from, ltb-true, leb-true, le-leb}
use Rattle.terms.specs.declared.Offer.{Offer}
use Rattle.terms.specs.Order.{Rising, place}
use Rattle.terms.specs.Ranges.{fit_key, fit_offer, is_amount}
use Rattle.terms.specs.Holdings.{Book, sound_book}
use Rattle.ordered.proofs.Rising.{every_all, all_every, rising_is, is_rising}

pub record SoundBook (b : Book) : Type 0 where
  pub up : Rising place b.offers
  pub fit : AllByRecursion (λ o. fit_offer o ≡ true) b.offers
  pub few : length b.offers ≤ b.capacity
  pub small : b.capacity ≤ 65536

pub book_parts : (b : Book) → sound_book b ≡ true → SoundBook b
book_parts b e =
    let p = and_parts _ _ e in
    let q = and_parts _ _ p.1 in
    let r = and_parts _ _ q.1 in
    record { up = rising_is place b.offers p.0; fit = every_all fit_offer b.offers q.0; few = leb-true _ _ r.0; small = leb-true _ _ r.1 }

pub book_from : (b : Book) → SoundBook b → sound_book b ≡ true
book_from b f =
    and_from _ _ (is_rising place b.offers f.up)
    (and_from _ _ (all_every fit_offer b.offers f.fit) (and_from _ _ (le-leb _ _ f.few) (le-leb _ _ f.small)))

-- an amount in range
pub amount_parts : (v : ℕ) → is_amount v ≡ true → (0 < v) × (v ≤ 68719476735)
amount_parts v e =
    let p = and_parts _ _ e in
    (ltb-true 0 v p.0, omega (arith, ltb-true v 68719476736 p.1))

pub offer_amount : (o : Offer) → fit_offer o ≡ true → (0 < o.amount) × (o.amount ≤ 68719476735)
offer_amount o e = amount_parts o.amount (and_parts (fit_key o.key) (is_amount o.amount) e).1

-- a sum of some of the amounts fits a u64
pub part_fits : (b : Book) (t : Offer → Bool) → SoundBook b → sum_by (λ o. cond (t o) o.amount 0) b.offers ≤ 65536 * 68719476735
part_fits b t ok =
    let each : (o : Offer) → fit_offer o ≡ true → cond (t o) o.amount 0 ≤ 68719476735 = λ o e.
    elim (t o) as (λ v. cond v o.amount 0 ≤ 68719476735) [ true ↦ (offer_amount o e).1 | false ↦ omega arith ] in
    let h = sum_by_le (λ o. cond (t o) o.amount 0) 68719476735 b.offers (All-weaker _ _ each b.offers ok.fit) in
    omega (arith, h, mul-le-mul_right {m = length b.offers} {n = 65536} 68719476735 (omega (arith, ok.few, ok.small)))
