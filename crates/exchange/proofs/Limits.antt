-- What a filled offer gets, and who goes before it. Assumes nothing.
use Rattle.std.proofs.Common.{◌≡◌, ℕ, ◌+◌, ◌-◌, ◌*◌, ◌/◌, ◌<◌, ◌≤◌, min, Bool, true, false, cond, ◌&&◌, eqb, [], ◌∷◌, sym, refl, ap, ◌∙◌, subst, ap₂, inl, inr, mul-le-mul_right, mul-le-mul_left, zero-mul, div-mul-le_self, le_of_mul-le-mul_right, arith}
use native.Mathlib.Nat.{zero-div}
use Rattle.std.proofs.lemmas.Bool.{cond-true, cond-false, cases_Bool, leb-true, and_from, and_parts, eq-eqb, true≢false}
use Rattle.std.proofs.lemmas.Nat.{le-div}
use Rattle.std.proofs.ByRecursion.{all-has}
use Rattle.terms.specs.declared.Key.{Key}
use Rattle.terms.specs.declared.Offer.{Offer}
use Rattle.terms.specs.Order.{lower, same, words, place}
use Rattle.terms.specs.Holdings.{amount_at}
use Rattle.blocks.specs.Readable.{Block, pair}
use Rattle.exchange.specs.State.{State}
use Rattle.exchange.specs.Trade.{price, volume, eligible, eligible_in, before, sold, pay_for, paid, trading}
use Rattle.exchange.specs.Claims.{Served}
use Rattle.terms.proofs.Order.{transitive, not_both, same_is, key_is}
use Rattle.exchange.proofs.Rising.{sum_by_grows, sum_by_plus, all_of}
use Rattle.exchange.proofs.Sums.{if_false, some_of}
use Rattle.exchange.proofs.Fit.{Fit}
use Rattle.exchange.proofs.Trades.{sold_le}

-- n units at a price ratio that meets the limit l
pub at_limit : (n l ps pb : ℕ) → 0 < pb → l * pb ≤ ps * 65536 → n * l / 65536 ≤ n * ps / pb
at_limit n l ps pb some h =
    let q : ℕ = n * l / 65536 in
    let a : q * 65536 ≤ n * l = div-mul-le_self (n * l) 65536 in
    let b : q * 65536 * pb ≤ n * l * pb = mul-le-mul_right pb a in
    let c : n * (l * pb) ≤ n * (ps * 65536) = mul-le-mul_left n h in
    let d : (q * pb) * 65536 ≤ (n * ps) * 65536 = omega arith in
    le-div q (n * ps) pb some (le_of_mul-le-mul_right d (omega arith))

-- where p and q exclude each other and each gives r
one_of : (p q r : Bool) (n : ℕ) → (p ≡ true → r ≡ true) → (q ≡ true → r ≡ true) → (p ≡ true → q ≡ false) → cond p n 0 + cond q n 0 ≤ cond r n 0
one_of false false r n f g h = omega arith
one_of true false r n f g h = rw (f refl) (omega arith)
one_of false true r n f g h = rw (g refl) (omega arith)
one_of true true r n f g h = let z : true ≡ false = h refl in absurd (true≢false z)

module _ (s : State) (b : Block) (k : Key) where
  -- a filled offer is eligible, and the volume reaches it
  filled_is : 0 < sold s b k → (eligible b k ≡ true) × (before s b k < volume b k.sold k.bought)
  filled_is h =
      elim (cases_Bool (eligible b k)) [
        | inl e ↦ (e, omega (arith, h, cond-true (eligible b k) (min (amount_at (trading s b) k) (volume b k.sold k.bought - before s b k)) 0 e))
        | inr e ↦ absurd (omega (arith, h, cond-false (eligible b k) (min (amount_at (trading s b) k) (volume b k.sold k.bought - before s b k)) 0 e))
      ]

  module _ (j : Key) (x : j.sold ≡ k.sold) (y : j.bought ≡ k.bought) (e : eligible b j ≡ true) (l : lower (words j) (words k) ≡ true) where
    each : (o : Offer)
        → cond (eligible_in b j.sold j.bought o.key && lower (place o) (words j)) o.amount 0 + cond (same (place o) (words j)) o.amount 0
        ≤ cond (eligible_in b k.sold k.bought o.key && lower (place o) (words k)) o.amount 0
    each o = one_of _ _ _ o.amount lower_still this excluded
      where
        pair : eligible_in b j.sold j.bought o.key ≡ eligible_in b k.sold k.bought o.key
        pair = ap₂ (λ m n. eqb o.key.sold m && eqb o.key.bought n && eligible b o.key) x y

        lower_still : (eligible_in b j.sold j.bought o.key && lower (place o) (words j)) ≡ true → (eligible_in b k.sold k.bought o.key && lower (place o) (words k)) ≡ true
        lower_still h =
            let (p, q) = and_parts (eligible_in b j.sold j.bought o.key) (lower (place o) (words j)) h in
            and_from _ _ (sym pair ∙ p) (transitive (place o) (words j) (words k) q l)

        own : eligible_in b j.sold j.bought j ≡ true
        own = and_from (eqb j.sold j.sold && eqb j.bought j.bought) (eligible b j) (and_from _ _ (eq-eqb j.sold j.sold refl) (eq-eqb j.bought j.bought refl)) e

        this : same (place o) (words j) ≡ true → (eligible_in b k.sold k.bought o.key && lower (place o) (words k)) ≡ true
        this h =
            let w : place o ≡ words j = same_is (place o) (words j) h in
            let p : o.key ≡ j = key_is o.key j w in
            and_from _ _ (sym pair ∙ ap (eligible_in b j.sold j.bought) p ∙ own) (subst (λ z. lower z (words k) ≡ true) (sym w) l)

        excluded : (eligible_in b j.sold j.bought o.key && lower (place o) (words j)) ≡ true → same (place o) (words j) ≡ false
        excluded h = not_both (place o) (words j) (and_parts (eligible_in b j.sold j.bought o.key) (lower (place o) (words j)) h).1

    before_grows : before s b j + amount_at (trading s b) j ≤ before s b k
    before_grows =
        omega (
          arith,
          sum_by_plus (λ o. cond (eligible_in b j.sold j.bought o.key && lower (place o) (words j)) o.amount 0) (λ o. cond (same (place o) (words j)) o.amount 0) (trading s b),
          sum_by_grows _ (λ o. cond (eligible_in b k.sold k.bought o.key && lower (place o) (words k)) o.amount 0) (trading s b) (all_of _ each (trading s b)),
        )

    sold_whole : 0 < sold s b k → sold s b j ≡ amount_at (trading s b) j
    sold_whole h =
        let v : volume b j.sold j.bought ≡ volume b k.sold k.bought = ap₂ (volume b) x y in
        cond-true (eligible b j) _ 0 e ∙ omega (arith, (filled_is h).1, before_grows, v)

-- only a pair of the block is filled, and its assets are among the eight
bought_asset : (s : State) (b : Block) → Fit b → (k : Key) → 0 < sold s b k → k.bought < 8
bought_asset s b f k h =
    let (v, m, p) = some_of (λ v. cond (same (pair v) (k.sold ∷ k.bought ∷ [])) v.amount 0) b.volumes (omega (arith, sold_le s b k)) in
    let e : same (pair v) (k.sold ∷ k.bought ∷ []) ≡ true =
    elim (cases_Bool (same (pair v) (k.sold ∷ k.bought ∷ [])))
    [ inl y ↦ y | inr y ↦ absurd (omega (arith, p, if_false (same (pair v) (k.sold ∷ k.bought ∷ [])) v.amount 0 y)) ] in
    let w : pair v ≡ k.sold ∷ k.bought ∷ [] = same_is (pair v) (k.sold ∷ k.bought ∷ []) e in
    let y : v.bought ≡ k.bought = cc in
    subst (λ n. n < 8) y (all-has _ b.volumes v f.assets m).1

pub served : (s : State) (b : Block) → Fit b → (k : Key) → 0 < sold s b k → Served s b k
served s b f k h =
    let some : 0 < price b k.bought = f.priced k.bought (bought_asset s b f k h) in
    let meets : k.limit * price b k.bought ≤ price b k.sold * 65536 = omega (arith, leb-true _ _ (filled_is s b k h).0) in
    record {
      pays = at_limit (sold s b k) k.limit (price b k.sold) (price b k.bought) some meets;
      first = λ j x y e p. sold_whole s b k j x y e p h;
    }

pub unpaid : (s : State) (b : Block) (k : Key) → sold s b k ≡ 0 → paid s b k ≡ 0
unpaid s b k e =
    ap (pay_for b k.sold k.bought) e ∙ ap (λ n. n / price b k.bought) (zero-mul (price b k.sold)) ∙ zero-div (price b k.bought)
