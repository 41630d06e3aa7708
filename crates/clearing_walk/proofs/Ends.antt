-- The two ends of the walk over a pair. Assumes nothing.
use Rattle.std.proofs.Common.{◌≡◌, ℕ, ◌+◌, ◌-◌, ◌<◌, ◌≤◌, Bool, true, false, cond, ◌&&◌, eqb, ◌⊎◌, List, [], ◌∷◌, Some, None, Ok, Option, Result, sym, refl, ap, ◌∙◌, subst, subst₂, inl, inr, arith}
use Rattle.std.proofs.lemmas.Bool.{cases_Bool, cases_lt, cases_eq, both_ways, eqb-true, and_parts, true≢false}
use Rattle.std.proofs.lemmas.Bool.Decides.{nat_tests}
use Rattle.std.proofs.ByRecursion.{All-weaker}
use Rattle.terms.specs.declared.Fault.{Fault}
use Rattle.terms.specs.declared.Key.{Key}
use Rattle.terms.specs.declared.Offer.{Offer}
use Rattle.terms.specs.Order.{lower, words, place}
use Rattle.terms.specs.Holdings.{Store, amount_at}
use Rattle.terms.proofs.Order.{transitive}
use Rattle.blocks.specs.Readable.{Block}
use Rattle.exchange.specs.State.{State}
use Rattle.exchange.specs.Trade.{trading, volume, eligible, sold}
use Rattle.exchange.proofs.Rising.{sum_by_zero}
use Rattle.exchange.proofs.Sums.{if_true, if_false}
use Rattle.clearing_walk.specs.declared.Fill.{Fill}
use Rattle.clearing_walk.specs.declared.rates.Rates.{Rates}
use Rattle.clearing_walk.specs.Walk.{Ready, sum_to, pay_in, weight, Walked, At, Used, Priced, Turned, Going, PairDone}
use Rattle.clearing_walk.proofs.Walks.{none_sold, traded, on, on_in}
use Rattle.clearing_walk.proofs.Pairs.{head_up, head_down, tail_up, tail_down, w₂, w₃, w₄, used_full}

-- what lies up to a cursor lies up to a higher one
pub rise : (c d : List ℕ) → lower c d ≡ true → (j : Key) → lower c (words j) ≡ false → lower d (words j) ≡ false
rise c d up j p =
    elim (cases_Bool (lower d (words j))) [ inl q ↦ absurd (both_ways _ p (transitive c d (words j) up q)) | inr q ↦ q ]

pair_head : (x y : ℕ) (xs : List ℕ) (z : ℕ) → lower (x ∷ y ∷ []) (x ∷ y ∷ z ∷ xs) ≡ true
pair_head x y xs z = grind (arith, nat_tests)

pair_next : (x y : ℕ) (xs : List ℕ) → lower (x ∷ y ∷ xs) (x ∷ (y + 1) ∷ []) ≡ true
pair_next x y xs = grind (arith, nat_tests)

-- not below the pair of k and not above k: its limit is not above that of k
low_limit : (k j : Key) → k.sold ≤ j.sold → (k.sold ≡ j.sold → k.bought ≤ j.bought) → lower (words k) (words j) ≡ false → j.limit ≤ k.limit
low_limit k j a b q =
    let s₂ = head_down k.sold j.sold (w₂ k) (w₂ j) q in
    let s : k.sold ≡ j.sold = omega arith in
    let q₁ = tail_down k.sold j.sold (w₂ k) (w₂ j) s q in
    let b₂ = head_down k.bought j.bought (w₃ k) (w₃ j) q₁ in
    let e : k.bought ≡ j.bought = omega (arith, b s) in
    let q₂ = tail_down k.bought j.bought (w₃ k) (w₃ j) e q₁ in
    head_down k.limit j.limit (w₄ k) (w₄ j) q₂

-- above the beginning of a pair
above_pair : (x y : ℕ) (j : Key) → lower (x ∷ y ∷ []) (words j) ≡ true → (x ≤ j.sold) × (x ≡ j.sold → y ≤ j.bought)
above_pair x y j p =
    (head_up x j.sold (y ∷ []) (w₂ j) p, λ e. head_up y j.bought [] (w₃ j) (tail_up x j.sold (y ∷ []) (w₂ j) e p))

-- above a key of the pair, and not of a later pair
in_pair : (x y : ℕ) (k j : Key) → k.sold ≡ x → k.bought ≡ y → lower (words k) (words j) ≡ true → lower (x ∷ (y + 1) ∷ []) (words j) ≡ false
    → (j.sold ≡ x) × (j.bought ≡ y)
in_pair x y k j es eb p q =
    let s₁ = head_up k.sold j.sold (w₂ k) (w₂ j) p in
    let s₂ = head_down x j.sold ((y + 1) ∷ []) (w₂ j) q in
    let s : j.sold ≡ x = omega (arith, es, s₁, s₂) in
    let p₁ = tail_up k.sold j.sold (w₂ k) (w₂ j) (es ∙ sym s) p in
    let q₁ = tail_down x j.sold ((y + 1) ∷ []) (w₂ j) (sym s) q in
    let b₁ = head_up k.bought j.bought (w₃ k) (w₃ j) p₁ in
    let b₂ = head_down (y + 1) j.bought [] (w₃ j) q₁ in (
      s,
      elim (cases_eq j.bought (y + 1)) [
        | inl e ↦ absurd (true≢false (tail_down (y + 1) j.bought [] (w₃ j) (sym e) q₁))
        | inr n ↦ omega (arith, eb, b₁, b₂, n)
      ],
    )

module _ (s : State) (b : Block) (st₀ : Store) (ready : Ready s b st₀) (st : Store) (os : List Offer) where
  -- no limit is 0
  no_first : (j : Key) → j.limit ≡ 0 → amount_at (trading s b) j ≡ 0
  no_first j e =
      elim (cases_lt 0 (amount_at (trading s b) j))
      [ inl p ↦ absurd (omega (arith, e, traded s b st₀ ready (λ k. 0 < k.limit) ready.limits j p)) | inr p ↦ omega arith ]

  -- the walk over the pair of k begins at k, whose limit is 0
  pub begin : (k : Key) → k.limit ≡ 0 → Walked s b st₀ (k.sold ∷ k.bought ∷ []) st os → Going s b st₀ k.sold k.bought k (volume b k.sold k.bought) 0 st os
  begin k low w = record {
    at = record {
      walked = on s b st₀ ready (k.sold ∷ k.bought ∷ []) st os w (words k) (rise (k.sold ∷ k.bought ∷ []) (words k) up) quiet;
      sells = refl;
      buys = refl;
      left = omega (arith, nothing);
    };
    pays = λ z. on_in s b st₀ ready (k.sold ∷ k.bought ∷ []) st os w (words k) (rise (k.sold ∷ k.bought ∷ []) (words k) up) quiet z
        ∙ still (eqb k.bought z) (sum_to s b (k.sold ∷ k.bought ∷ []) (pay_in s b z));
  }
    where
      still : (p : Bool) (n : ℕ) → n ≡ n + cond p 0 0
      still true n = omega arith
      still false n = omega arith

      up : lower (k.sold ∷ k.bought ∷ []) (words k) ≡ true
      up = pair_head k.sold k.bought (w₄ k) k.limit

      quiet : (j : Key) → lower (k.sold ∷ k.bought ∷ []) (words j) ≡ true → lower (words k) (words j) ≡ false → sold s b j ≡ 0
      quiet j p q = let (l, m) = above_pair k.sold k.bought j p in none_sold s b j (no_first j (omega (arith, low, low_limit k j l m q)))

      nothing : sum_to s b (words k) (weight s b k.sold k.bought) ≡ 0
      nothing = sum_by_zero _ (trading s b) (All-weaker _ _ zero (trading s b) ready.limits)
        where
          zero : (o : Offer) → 0 < o.key.limit → cond (lower (words k) (place o)) 0 (weight s b k.sold k.bought o.key) ≡ 0
          zero o l =
              elim (cases_Bool (lower (words k) (place o))) [
                | inl p ↦ if_true _ 0 (weight s b k.sold k.bought o.key) p
                | inr p ↦ if_false _ 0 (weight s b k.sold k.bought o.key) p ∙ out (cases_Bool (eqb o.key.sold k.sold && eqb o.key.bought k.bought && eligible b o.key)) p
              ]
            where
              out : ((eqb o.key.sold k.sold && eqb o.key.bought k.bought && eligible b o.key) ≡ true) ⊎ ((eqb o.key.sold k.sold && eqb o.key.bought k.bought && eligible b o.key) ≡ false)
                  → lower (words k) (place o) ≡ false → weight s b k.sold k.bought o.key ≡ 0
              out (inr q) p = if_false _ (amount_at (trading s b) o.key) 0 q
              out (inl q) p =
                  let (r, _) = and_parts (eqb o.key.sold k.sold && eqb o.key.bought k.bought) (eligible b o.key) q in
                  let (es, eb) = and_parts (eqb o.key.sold k.sold) (eqb o.key.bought k.bought) r in
                  let ex = eqb-true o.key.sold k.sold es in
                  let ey = eqb-true o.key.bought k.bought eb in
                  absurd (omega (arith, l, low, low_limit k o.key (omega (arith, ex)) (λ _. omega (arith, ey)) p))

module _ (s : State) (b : Block) (st₀ : Store) (ready : Ready s b st₀) (x y : ℕ) (st : Store) (os : List Offer) where
  module _ (k : Key) (rest out : ℕ) (here : Going s b st₀ x y k rest out st os) (used : Used s b x y k) where
    up : lower (words k) (x ∷ (y + 1) ∷ []) ≡ true
    up = subst (λ m. lower (m ∷ w₂ k) (x ∷ (y + 1) ∷ []) ≡ true) (sym here.at.sells) (subst (λ m. lower (x ∷ m ∷ w₃ k) (x ∷ (y + 1) ∷ []) ≡ true) (sym here.at.buys) (pair_next x y (w₃ k)))

    quiet : (j : Key) → lower (words k) (words j) ≡ true → lower (x ∷ (y + 1) ∷ []) (words j) ≡ false → sold s b j ≡ 0
    quiet j p q = let (es, eb) = in_pair x y k j here.at.sells here.at.buys p q in used j es eb p

    pub end : Walked s b st₀ (x ∷ (y + 1) ∷ []) st os
    end = on s b st₀ ready (words k) st os here.at.walked (x ∷ (y + 1) ∷ []) (rise (words k) (x ∷ (y + 1) ∷ []) up) quiet

    pub end_pays : (z : ℕ) → sum_to s b (x ∷ (y + 1) ∷ []) (pay_in s b z) ≡ sum_to s b (x ∷ y ∷ []) (pay_in s b z) + cond (eqb y z) out 0
    end_pays z = on_in s b st₀ ready (words k) st os here.at.walked (x ∷ (y + 1) ∷ []) (rise (words k) (x ∷ (y + 1) ∷ []) up) quiet z ∙ here.pays z

-- a turn at the pair that the walk is of
module _ (s : State) (b : Block) (st₀ : Store) (x y : ℕ) (rates : Rates) (at : Key) (rest out : ℕ) (st st' : Store) (os os' : List Offer)
    (prices : Priced s b st₀ x y rates) (here : Going s b st₀ x y at rest out st os) where
  turn_of : (r : Result (Option Fill) Fault)
      → (Priced s b st₀ at.sold at.bought rates → At s b st₀ at.sold at.bought at rest st os → Turned s b st₀ at.sold at.bought at rest st' os' r)
      → Turned s b st₀ x y at rest st' os' r
  turn_of r h =
      subst₂ (λ m n. Priced s b st₀ m n rates → At s b st₀ m n at rest st os → Turned s b st₀ m n at rest st' os' r)
      here.at.sells here.at.buys h prices here.at

  abbrev Turns : Result (Option Fill) Fault → Type 0
  Turns r = Priced s b st₀ at.sold at.bought rates → At s b st₀ at.sold at.bought at rest st os → Turned s b st₀ at.sold at.bought at rest st' os' r

  -- an offer is filled
  pub going_on : (f : Fill) → Turns (Ok (Some f)) → Going s b st₀ x y f.key (rest - f.sold) (out + f.paid) st' os'
  going_on f h =
      let (a, p) = turn_of (Ok (Some f)) h in
      record { at = a; pays = λ z. p z ∙ ap (λ n. n + cond (eqb y z) f.paid 0) (here.pays z) ∙ sum (eqb y z) (sum_to s b (x ∷ y ∷ []) (pay_in s b z)) out f.paid }
    where
      sum : (p : Bool) (n m k : ℕ) → n + cond p m 0 + cond p k 0 ≡ n + cond p (m + k) 0
      sum true n m k = omega arith
      sum false n m k = omega arith

  -- the pair has no more to sell
  pub stop : Turns (Ok None) → PairDone s b st₀ x y st' os' (Ok out)
  stop h =
      let (a, u) = turn_of (Ok None) h in
      let there : Going s b st₀ x y at rest out st' os' = record { at = a; pays = here.pays } in
      (end s b st₀ prices.ready x y st' os' at rest out there u, end_pays s b st₀ prices.ready x y st' os' at rest out there u)

-- a turn does not refuse
pub never : (s : State) (b : Block) (st₀ : Store) (x y : ℕ) (rates : Rates) (at : Key) (rest out : ℕ) (st : Store) (os : List Offer)
    → Priced s b st₀ x y rates → Going s b st₀ x y at rest out st os
    → (Priced s b st₀ at.sold at.bought rates → At s b st₀ at.sold at.bought at rest st os → ⊥) → ⊥
never s b st₀ x y rates at rest out st os prices here h =
    subst₂ (λ m n. Priced s b st₀ m n rates → At s b st₀ m n at rest st os → ⊥) here.at.sells here.at.buys h prices here.at

-- the volume is used
pub full : (s : State) (b : Block) (st₀ : Store) (x y : ℕ) (k : Key) (rest out : ℕ) (st : Store) (os : List Offer) → Ready s b st₀
    → Going s b st₀ x y k rest out st os → rest ≡ 0 → PairDone s b st₀ x y st os (Ok out)
full s b st₀ x y k rest out st os ready here z =
    let u = used_full s b st₀ ready x y k rest st os here.at z in
    (end s b st₀ ready x y st os k rest out here u, end_pays s b st₀ ready x y st os k rest out here u)
