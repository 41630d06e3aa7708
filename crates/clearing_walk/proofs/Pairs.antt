-- The next key of the walk over a pair: it is filled, or the walk ends before it. Assumes nothing.
use Rattle.std.proofs.Common.{◌≡◌, ℕ, ◌+◌, ◌-◌, ◌*◌, ◌/◌, ◌<◌, ◌≤◌, min, true, false, cond, ◌&&◌, eqb, leb, List, [], ◌∷◌, Some, None, Ok, sym, refl, ap, ◌∙◌, subst, ap₂, inl, inr, mul-le-mul_right, arith}
use Rattle.std.proofs.lemmas.Bool.{cases_Bool, both_ways, eq-eqb, leb-false, lt-leb, and_cases, and_from}
use Rattle.std.proofs.lemmas.Bool.Decides.{nat_tests}
use Rattle.terms.specs.declared.Key.{Key}
use Rattle.terms.specs.declared.Offer.{Offer}
use Rattle.terms.specs.Order.{lower, same, words}
use Rattle.terms.specs.Holdings.{Store, Book, balance_at, amount_at}
use Rattle.accounts.specs.Changes.{BalanceSet}
use Rattle.blocks.specs.Readable.{Block}
use Rattle.exchange.specs.State.{State}
use Rattle.exchange.specs.Trade.{trading, price, volume, eligible, before, sold, paid}
use Rattle.exchange.proofs.Sums.{if_true, if_false}
use Rattle.clearing_walk.specs.declared.Fill.{Fill}
use Rattle.clearing_walk.specs.declared.rates.Rates.{Rates}
use Rattle.clearing_walk.specs.Walk.{largest, Ready, sum_to, pay_in, weight, At, Used, Priced, Turned, Settled, Able}
use Rattle.clearing_walk.proofs.Next.{NextKey}
use Rattle.clearing_walk.proofs.Cursor.{sum_within}
use Rattle.clearing_walk.proofs.Walks.{ahead, none_sold, before_is, sold_next, left_next, pays_in, owner, roomy, filled}

-- what an order of two lists says of their first numbers, and where these are equal, of the rest

pub head_up : (x y : ℕ) (xs ys : List ℕ) → lower (x ∷ xs) (y ∷ ys) ≡ true → x ≤ y
head_up x y xs ys p = grind (arith, nat_tests)

pub head_down : (x y : ℕ) (xs ys : List ℕ) → lower (x ∷ xs) (y ∷ ys) ≡ false → y ≤ x
head_down x y xs ys p = grind (arith, nat_tests)

pub tail_up : (x y : ℕ) (xs ys : List ℕ) → x ≡ y → lower (x ∷ xs) (y ∷ ys) ≡ true → lower xs ys ≡ true
tail_up x y xs ys e p = grind (arith, nat_tests)

pub tail_down : (x y : ℕ) (xs ys : List ℕ) → x ≡ y → lower (x ∷ xs) (y ∷ ys) ≡ false → lower xs ys ≡ false
tail_down x y xs ys e p = grind (arith, nat_tests)

-- the words of a key from its fourth, its third and its second on
abbrev pub w₄ : Key → List ℕ
w₄ k = k.account ∷ k.sequence ∷ []

abbrev pub w₃ : Key → List ℕ
w₃ k = k.limit ∷ w₄ k

abbrev pub w₂ : Key → List ℕ
w₂ k = k.bought ∷ w₃ k

-- a key between two of a pair is of the pair, and its limit is not above the second's
pub between : (a k j : Key) → a.sold ≡ j.sold → a.bought ≡ j.bought → lower (words a) (words k) ≡ true → lower (words j) (words k) ≡ false
    → (k.sold ≡ j.sold) × (k.bought ≡ j.bought) × (k.limit ≤ j.limit)
between a k j es eb p q =
    let s₁ = head_up a.sold k.sold (w₂ a) (w₂ k) p in
    let s₂ = head_down j.sold k.sold (w₂ j) (w₂ k) q in
    let s : k.sold ≡ j.sold = omega arith in
    let p₁ = tail_up a.sold k.sold (w₂ a) (w₂ k) (es ∙ sym s) p in
    let q₁ = tail_down j.sold k.sold (w₂ j) (w₂ k) (sym s) q in
    let b₁ = head_up a.bought k.bought (w₃ a) (w₃ k) p₁ in
    let b₂ = head_down j.bought k.bought (w₃ j) (w₃ k) q₁ in
    let b : k.bought ≡ j.bought = omega arith in
    let q₂ = tail_down j.bought k.bought (w₃ j) (w₃ k) (sym b) q₁ in
    (s, b, head_down j.limit k.limit (w₄ j) (w₄ k) q₂)

module _ (s : State) (b : Block) (st₀ : Store) (ready : Ready s b st₀) (x y : ℕ) (at : Key) (rest : ℕ) (st : Store) (os : List Offer)
    (here : At s b st₀ x y at rest st os) where
  -- the volume is used
  pub used_full : rest ≡ 0 → Used s b x y at
  used_full z j ex ey up =
      elim (cases_Bool (eligible b j)) [
        | inl e ↦
            omega (
              arith,
              if_true (eligible b j) (min (amount_at (trading s b) j) (volume b j.sold j.bought - before s b j)) 0 e,
              before_is s b st₀ ready j,
              ap₂ (volume b) ex ey,
              here.left,
              z,
              sum_within (trading s b) ready.once (weight s b j.sold j.bought) (words at) j up,
              ap₂ (λ m n. sum_to s b (words at) (weight s b m n)) ex ey,
            )
        | inr e ↦ if_false (eligible b j) (min (amount_at (trading s b) j) (volume b j.sold j.bought - before s b j)) 0 e
      ]

  -- the book has no key above
  pub used_none : NextKey os at None → Used s b x y at
  used_none none j ex ey up = none_sold s b j (sym (ahead s b st₀ ready (words at) st os here.walked j up) ∙ none j up)

  -- the next key is not of the pair, or not eligible
  pub used_next : (k : Key) → NextKey os at (Some k) → (k.sold ≡ x → k.bought ≡ y → eligible b k ≡ false) → Used s b x y at
  used_next k (up, some, gap) out j ex ey p =
      elim (cases_Bool (lower (words j) (words k))) [
        | inl q ↦ none_sold s b j (sym (ahead s b st₀ ready (words at) st os here.walked j p) ∙ gap j p q)
        | inr q ↦
            let (es, eb, lim) = between at k j (here.sells ∙ sym ex) (here.buys ∙ sym ey) up q in
            let l : price b k.sold * 65536 < k.limit * price b k.bought = leb-false _ _ (out (es ∙ ex) (eb ∙ ey)) in
            let m : k.limit * price b j.bought ≤ j.limit * price b j.bought = mul-le-mul_right (price b j.bought) lim in
            let f : eligible b j ≡ false = lt-leb _ _ (omega (arith, l, m, ap (λ n. k.limit * price b n) eb, ap (λ n. price b n * 65536) es)) in
            if_false (eligible b j) (min (amount_at (trading s b) j) (volume b j.sold j.bought - before s b j)) 0 f
      ]

  -- the next key is filled
  module _ (rates : Rates) (prices : Priced s b st₀ x y rates) (k : Key) (next : NextKey os at (Some k)) (es : k.sold ≡ x) (eb : k.bought ≡ y)
      (e : leb (k.limit * rates.bought) (rates.sold * 65536) ≡ true) where
    fit : eligible b k ≡ true
    fit = ap₂ (λ m n. leb (k.limit * n) (m * 65536)) (ap (price b) es ∙ sym prices.price_sold) (ap (price b) eb ∙ sym prices.price_bought) ∙ e

    left_here : rest ≡ volume b k.sold k.bought - sum_to s b (words at) (weight s b k.sold k.bought)
    left_here = here.left ∙ ap₂ (λ m n. volume b m n - sum_to s b (words at) (weight s b m n)) (sym es) (sym eb)

    sold_here : sold s b k ≡ min (amount_at os k) rest
    sold_here = sold_next s b st₀ ready (words at) st os here.walked k next.0 next.1 next.2 fit rest left_here

    paid_here : (n : ℕ) → n ≡ min (amount_at os k) rest → n * rates.sold / rates.bought ≡ paid s b k
    paid_here n h =
        ap (λ z. z * rates.sold / rates.bought) (h ∙ sym sold_here)
        ∙ ap₂ (λ m n. sold s b k * m / n) (prices.price_sold ∙ ap (price b) (sym es)) (prices.price_bought ∙ ap (price b) (sym eb))

    pub able : Able k rest rates st os
    able = record {
      some = next.1;
      owner = owner s b st₀ ready (words at) st os here.walked k next.0 next.1 next.2;
      bought = subst (λ n. n < 8) (sym eb) prices.bought;
      room =
          subst (λ n. balance_at st k.account k.bought + n ≤ largest) (sym (paid_here (min (amount_at os k) rest) refl))
          (roomy s b st₀ ready (words at) st os here.walked k next.0 next.1 next.2 (subst (λ n. n < 8) (sym eb) prices.bought));
    }

    pub turned : (bk bk' : Book) → bk.offers ≡ os → (st' : Store) (f : Fill) → f.key ≡ k → Settled k rest rates st st' bk bk' f.sold f.paid
        → Turned s b st₀ x y at rest st' bk'.offers (Ok (Some f))
    turned bk bk' eo st' f ek done =
        let es' : f.sold ≡ min (amount_at os k) rest = done.sold ∙ ap (λ z. min (amount_at z k) rest) eo in
        let ep' : f.paid ≡ paid s b k = done.paid ∙ paid_here f.sold es' in
        subst (λ z. At s b st₀ x y z (rest - f.sold) st' bk'.offers
        × ((v : ℕ) → sum_to s b (words z) (pay_in s b v) ≡ sum_to s b (words at) (pay_in s b v) + cond (eqb y v) f.paid 0)) (sym ek) (
          record {
            walked =
                filled s b st₀ ready (words at) st os here.walked k next.0 next.1 next.2 st' bk'.offers
                (λ j. done.book.amounts j ∙ ap₂ (λ m z. cond (same (words j) (words k)) (amount_at z k - m) (amount_at z j)) (es' ∙ sym sold_here) eo)
                (subst (λ p. BalanceSet st k.account k.bought (balance_at st k.account k.bought + p) st') ep' done.store);
            sells = es;
            buys = eb;
            left =
                ap (λ n. rest - n) es'
                ∙ left_next s b st₀ ready (words at) st os here.walked k next.0 next.1 next.2 fit rest left_here
                ∙ ap₂ (λ m n. volume b m n - sum_to s b (words k) (weight s b m n)) es eb;
          },
          λ v. pays_in s b st₀ ready (words at) st os here.walked k next.0 next.1 next.2 v
              ∙ ap₂ (λ m n. sum_to s b (words at) (pay_in s b v) + cond (eqb m v) n 0) eb (sym ep'),
        )

-- a key that does not serve is of another pair or not eligible
pub unfit : (s : State) (b : Block) (st₀ : Store) (rates : Rates) (at : Key) → Priced s b st₀ at.sold at.bought rates → (k : Key)
    → (eqb k.sold at.sold && eqb k.bought at.bought && leb (k.limit * rates.bought) (rates.sold * 65536)) ≡ false
    → k.sold ≡ at.sold → k.bought ≡ at.bought → eligible b k ≡ false
unfit s b st₀ rates at p k out es eb =
    let same_test : eligible b k ≡ leb (k.limit * rates.bought) (rates.sold * 65536) =
    ap₂ (λ m n. leb (k.limit * n) (m * 65536)) (ap (price b) es ∙ sym p.price_sold) (ap (price b) eb ∙ sym p.price_bought) in
    elim (and_cases _ _ out) [
      | inl q ↦ absurd (both_ways _ q (and_from _ _ (eq-eqb _ _ es) (eq-eqb _ _ eb)))
      | inr q ↦ same_test ∙ q
    ]
