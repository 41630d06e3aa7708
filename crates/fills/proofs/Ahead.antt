-- What is in trade under a key and ahead of it: what stands, less the cancelled, and what is newly placed. Assumes nothing.
use Rattle.std.proofs.Common.{◌≡◌, ℕ, ◌+◌, ◌-◌, ◌*◌, ◌<◌, ◌≤◌, min, Bool, true, false, cond, ◌&&◌, eqb, ltb, leb, [], ◌∷◌, filter, sym, refl, ap, ◌∙◌, inl, inr, mul-le-mul_right, arith}
use Rattle.std.specs.List.{AllByRecursion}
use Rattle.std.proofs.lemmas.Bool.Decides.{nat_tests}
use Rattle.std.proofs.lemmas.Bool.{cases_Bool, cases_lt, both_ways, eqb-true, ne_eqb, le-leb, lt-leb, leb-true, lt-ltb, ltb-true, and_parts}
use Rattle.std.proofs.lemmas.List.Sums.{sum_by-append}
use Rattle.std.proofs.ByRecursion.{All-weaker}
use Rattle.terms.specs.declared.Key.{Key}
use Rattle.terms.specs.declared.Offer.{Offer}
use Rattle.terms.specs.Order.{lower, same, words, place}
use Rattle.terms.specs.Ranges.{fit_key, fit_offer, is_pair, is_number, is_word, is_amount}
use Rattle.terms.specs.Holdings.{Book, amount_at, up_to}
use Rattle.terms.proofs.Order.{key_is, same_is}
use Rattle.blocks.specs.Readable.{Block}
use Rattle.exchange.specs.State.{State}
use Rattle.exchange.specs.Trade.{placements, cancels_of, price, volume, eligible, eligible_in, trading, before, sold}
use Rattle.exchange.proofs.Rising.{sum_by_same, sum_by_plus, all_of}
use Rattle.exchange.proofs.Sums.{if_true, sum_by_kept}
use Rattle.exchange.proofs.Keyed.{eqb_sym, sum_by_cond, through}
use Rattle.fills.specs.Ahead.{ahead, sum_ahead, between}

-- under a key: what stands there unless it is cancelled, and what is newly placed there
pub in_trade : (s : State) (b : Block) (k : Key)
    → amount_at (trading s b) k ≡ cond (eqb (cancels_of b k) 0) (amount_at s.book.offers k) 0 + amount_at (placements b) k
in_trade s b k =
    sum_by-append at (filter (λ o. eqb (cancels_of b o.key) 0) s.book.offers) (placements b)
    ∙ ap (λ n. n + amount_at (placements b) k)
    (sum_by_kept (λ o. eqb (cancels_of b o.key) 0) at s.book.offers
    ∙ sum_by_same _ _ s.book.offers (all_of _ each s.book.offers)
    ∙ sym (sum_by_cond (eqb (cancels_of b k) 0) at s.book.offers))
  where
    at : Offer → ℕ
    at o = cond (same (place o) (words k)) o.amount 0

    each : (o : Offer) → cond (eqb (cancels_of b o.key) 0) (at o) 0 ≡ cond (eqb (cancels_of b k) 0) (at o) 0
    each o =
        through (eqb (cancels_of b o.key) 0) (eqb (cancels_of b k) 0) (same (place o) (words k)) o.amount
        (λ e. ap (λ j. eqb (cancels_of b j) 0) (key_is o.key k (same_is (place o) (words k) e)))
        ∙ sym (through (eqb (cancels_of b k) 0) (eqb (cancels_of b k) 0) (same (place o) (words k)) o.amount (λ _. refl))

never : (x y a : ℕ) → cond (ltb x y && ltb y x) a 0 ≡ 0
never x y a = grind (arith, nat_tests)

below_limit : (r l : ℕ) → 0 < r → leb r (l - 1) ≡ ltb r l
below_limit r l h = grind (arith, nat_tests)

-- An offer ahead of a key has a lower limit, or the same limit and stands between the pair and limit alone and the key.
split : (p q r n t x y l m u a : ℕ) → 0 < r → 0 < n
    → cond (eqb p x && eqb q y && lower (p ∷ q ∷ r ∷ n ∷ t ∷ []) (x ∷ y ∷ l ∷ m ∷ u ∷ [])) a 0
    ≡ cond (eqb p x && (eqb q y && leb r (l - 1))) a 0
    + cond (lower (x ∷ y ∷ l ∷ 0 ∷ 0 ∷ []) (p ∷ q ∷ r ∷ n ∷ t ∷ []) && lower (p ∷ q ∷ r ∷ n ∷ t ∷ []) (x ∷ y ∷ l ∷ m ∷ u ∷ [])) a 0
split p q r n t x y l m u a some own =
    elim (cases_Bool (eqb p x)) [
      | inr e ↦
          let e' : eqb x p ≡ false = eqb_sym x p ∙ e in
          rw (e, e') (omega (arith, never x p a))
      | inl e ↦
          let e' : eqb x p ≡ true = eqb_sym x p ∙ e in
          elim (cases_Bool (eqb q y)) [
            | inr f ↦
                let f' : eqb y q ≡ false = eqb_sym y q ∙ f in
                rw (e, e', f, f') (omega (arith, never y q a))
            | inl f ↦
                let f' : eqb y q ≡ true = eqb_sym y q ∙ f in
                elim (cases_Bool (eqb r l)) [
                  | inr h ↦
                      let h' : eqb l r ≡ false = eqb_sym l r ∙ h in
                      let d = below_limit r l some in
                      rw (e, e', f, f', h, h', d) (omega (arith, never l r a))
                  | inl h ↦
                      let h' : eqb l r ≡ true = eqb_sym l r ∙ h in
                      let d : leb r (l - 1) ≡ false = lt-leb r (l - 1) (omega (arith, eqb-true r l h)) in
                      let o : eqb 0 n ≡ false = ne_eqb 0 n (λ z. omega arith) in
                      let o' : ltb 0 n ≡ true = lt-ltb 0 n own in
                      rw (e, e', f, f', h, h', d, o, o') (omega arith)
                ]
          ]
    ]

-- limit and account of an offer in a book are not 0
numbers : (o : Offer) → fit_offer o ≡ true → (0 < o.key.limit) × (0 < o.key.account)
numbers o e =
    let k : Key = o.key in
    let whole = (and_parts (fit_key k) (is_amount o.amount) e).0 in
    let rest = (and_parts (is_pair k.sold k.bought) (is_number k.limit && (is_number k.account && is_word k.sequence)) whole).1 in
    let limit = and_parts (is_number k.limit) (is_number k.account && is_word k.sequence) rest in
    let account = (and_parts (is_number k.account) (is_word k.sequence) limit.1).0 in (
      ltb-true 0 k.limit (and_parts (ltb 0 k.limit) (is_word k.limit) limit.0).0,
      ltb-true 0 k.account (and_parts (ltb 0 k.account) (is_word k.account) account).0,
    )

pub standing_split : (bk : Book) (k : Key) → AllByRecursion (λ o. fit_offer o ≡ true) bk.offers
    → sum_ahead k bk.offers ≡ up_to bk k.sold k.bought (k.limit - 1) + between (k.sold ∷ k.bought ∷ k.limit ∷ 0 ∷ 0 ∷ []) (words k) bk.offers
standing_split bk k fit =
    sum_by_same _ _ bk.offers
    (All-weaker _ _
    (λ o e.
    let n = numbers o e in
    let j = o.key in
    split j.sold j.bought j.limit j.account j.sequence k.sold k.bought k.limit k.account k.sequence o.amount n.0 n.1)
    bk.offers fit)
    ∙ sum_by_plus (λ o. cond (eqb o.key.sold k.sold && (eqb o.key.bought k.bought && leb o.key.limit (k.limit - 1))) o.amount 0)
    (λ o. cond (lower (k.sold ∷ k.bought ∷ k.limit ∷ 0 ∷ 0 ∷ []) (place o) && lower (place o) (words k)) o.amount 0) bk.offers

-- ahead of an eligible key all is eligible

ahead_limit : (p q r n t x y l m u : ℕ) → eqb p x ≡ true → eqb q y ≡ true → lower (p ∷ q ∷ r ∷ n ∷ t ∷ []) (x ∷ y ∷ l ∷ m ∷ u ∷ []) ≡ true → r ≤ l
ahead_limit p q r n t x y l m u e f h =
    elim (cases_lt l r) [
      | inr g ↦ g
      | inl g ↦
          let d : eqb r l ≡ false = ne_eqb r l (λ z. omega arith) in
          let i : ltb r l ≡ false = grind (arith, nat_tests) in
          let no : lower (p ∷ q ∷ r ∷ n ∷ t ∷ []) (x ∷ y ∷ l ∷ m ∷ u ∷ []) ≡ false = rw (e, f, d) i in
          absurd (both_ways (lower (p ∷ q ∷ r ∷ n ∷ t ∷ []) (x ∷ y ∷ l ∷ m ∷ u ∷ [])) no h)
    ]

joint : (p q r l : Bool) → (p ≡ true → q ≡ true → l ≡ true → r ≡ true) → (p && q && r && l) ≡ (p && q && l)
joint false q r l h = refl
joint true false r l h = refl
joint true true r false h = elim r as (λ z. (z && false) ≡ false) [ true ↦ refl | false ↦ refl ]
joint true true r true h = rw (h refl refl refl) refl

pub before_is : (s : State) (b : Block) (k : Key) → eligible b k ≡ true → before s b k ≡ sum_ahead k (trading s b)
before_is s b k met = sum_by_same _ _ (trading s b) (all_of _ (λ o. ap (λ z. cond z o.amount 0) (each o.key)) (trading s b))
  where
    each : (j : Key) → (eligible_in b k.sold k.bought j && lower (words j) (words k)) ≡ ahead k j
    each j =
        joint (eqb j.sold k.sold) (eqb j.bought k.bought) (eligible b j) (lower (words j) (words k))
        (λ e f h.
        let d : price b j.sold ≡ price b k.sold = ap (price b) (eqb-true j.sold k.sold e) in
        let g : price b j.bought ≡ price b k.bought = ap (price b) (eqb-true j.bought k.bought f) in
        let r : j.limit ≤ k.limit = ahead_limit j.sold j.bought j.limit j.account j.sequence k.sold k.bought k.limit k.account k.sequence e f h in
        let m : j.limit * price b k.bought ≤ k.limit * price b k.bought = mul-le-mul_right {m = j.limit} {n = k.limit} (price b k.bought) r in
        let w : k.limit * price b k.bought ≤ price b k.sold * 65536 = leb-true _ _ met in
        let v : j.limit * price b j.bought ≡ j.limit * price b k.bought = ap (λ z. j.limit * z) g in
        le-leb (j.limit * price b j.bought) (price b j.sold * 65536) (omega (arith, d, m, w, v)))

-- what is sold of an eligible key, from volume, amount in trade and what is ahead
pub sold_is : (s : State) (b : Block) (k : Key) (v a n : ℕ) → eligible b k ≡ true
    → v ≡ volume b k.sold k.bought → a ≡ amount_at (trading s b) k → n ≡ sum_ahead k (trading s b) → min a (v - n) ≡ sold s b k
sold_is s b k v a n met ev ea en =
    let share : ℕ = min (amount_at (trading s b) k) (volume b k.sold k.bought - before s b k) in
    omega (arith, ev, ea, en, before_is s b k met, if_true (eligible b k) share 0 met)
