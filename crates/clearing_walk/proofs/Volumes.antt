-- From pair to pair. Assumes nothing.
use Rattle.std.proofs.Common.{◌≡◌, ℕ, zero, suc, ◌+◌, ◌-◌, ◌<◌, ◌≤◌, min, Bool, true, false, cond, ◌&&◌, eqb, ◌⊎◌, List, [], ◌∷◌, length, get_or, set, replicate, Ok, sum_by, sym, refl, ap, ◌∙◌, subst, ap₂, inl, inr, add-one, arith, get_or-set_other, get_or-set_same}
use Rattle.std.specs.List.{AllByRecursion}
use Rattle.std.proofs.lemmas.List.{get_or_default, get_or-replicate}
use Rattle.std.proofs.lemmas.List.Sums.{sum_by-cons}
use Rattle.std.proofs.lemmas.Bool.{cases_Bool, cases_eq, eq-eqb, ne_eqb, and_parts, ltb-true, true≢false}
use Rattle.std.proofs.lemmas.Bool.Decides.{nat_tests}
use Rattle.std.proofs.ByRecursion.{All-weaker, All-get_or}
use Rattle.terms.specs.declared.Key.{Key}
use Rattle.terms.specs.declared.Offer.{Offer}
use Rattle.terms.specs.declared.Volume.{Volume}
use Rattle.terms.specs.Order.{lower, same, words, place, under, Rising}
use Rattle.terms.specs.Ranges.{every, is_price, fit_volume}
use Rattle.terms.specs.Holdings.{Store, balance_at, amount_at}
use Rattle.terms.proofs.Order.{transitive, not_both}
use Rattle.blocks.specs.Readable.{Block, pair, fit_block}
use Rattle.exchange.specs.State.{State}
use Rattle.exchange.specs.Trade.{trading, volume, eligible, before, sold, paid}
use Rattle.exchange.proofs.Rising.{sum_by_zero, sum_by_same, sum_by_grows, all_of, absent_below}
use Rattle.exchange.proofs.Sums.{if_true, if_false, lookup, rising_once}
use Rattle.exchange.proofs.Fit.{Fit, fits, all_from}
use Rattle.offers.proofs.Sound.{amount_parts}
use Rattle.clearing_walk.specs.declared.rates.Rates.{Rates}
use Rattle.clearing_walk.specs.Walk.{largest, Ready, Filled, sum_to, pay_to, pay_in, Walked, Priced, PairDone, Holds, last, pair_start, Passing}
use Rattle.clearing_walk.proofs.Walks.{on, on_in, none_paid, cond_le}
use Rattle.clearing_walk.proofs.Ends.{rise}

-- the pair of a key
abbrev pair_k : Key → List ℕ
pair_k j = j.sold ∷ j.bought ∷ []

-- no volume has a pair between two that follow each other
gap : (vs : List Volume) → Rising pair vs → (i : ℕ) → i < length vs → (p : List ℕ)
    → lower (pair (get_or vs i last)) p ≡ true → lower p (pair (get_or vs (suc i) last)) ≡ true → under pair (λ v. v.amount) vs p ≡ 0
gap [] r i l p a b = refl
gap (v ∷ []) r zero l p a b =
    sum_by-cons (λ z. cond (same (pair z) p) z.amount 0) v [] ∙ omega (arith, if_false (same (pair v) p) v.amount 0 (not_both (pair v) p a))
gap (v ∷ u ∷ vs) r zero l p a b =
    omega (
      arith,
      sum_by-cons (λ z. cond (same (pair z) p) z.amount 0) v (u ∷ vs),
      if_false (same (pair v) p) v.amount 0 (not_both (pair v) p a),
      absent_below pair (λ z. z.amount) u vs p r.1 b,
    )
gap (v ∷ vs) r (suc i) l p a b =
    let in' : i < length vs = omega arith in
    let q : lower (pair v) (pair (get_or vs i last)) ≡ true = All-get_or (λ u. lower (pair v) (pair u) ≡ true) vs i last in' r.0 in
    omega (
      arith,
      sum_by-cons (λ z. cond (same (pair z) p) z.amount 0) v vs,
      if_false (same (pair v) p) v.amount 0 (not_both (pair v) p (transitive (pair v) (pair (get_or vs i last)) p q a)),
      gap vs r.1 i in' p a b,
    )

head_gap : (vs : List Volume) → Rising pair vs → (p : List ℕ) → lower p (pair (get_or vs 0 last)) ≡ true → under pair (λ v. v.amount) vs p ≡ 0
head_gap [] r p b = refl
head_gap (v ∷ vs) r p b = absent_below pair (λ z. z.amount) v vs p r b

past_pair : (x y z u : ℕ) (xs : List ℕ) → lower (x ∷ (y + 1) ∷ []) (z ∷ u ∷ xs) ≡ true → lower (x ∷ y ∷ []) (z ∷ u ∷ []) ≡ true
past_pair x y z u xs p = grind (arith, nat_tests)

before_pair : (x y z u v : ℕ) (xs : List ℕ) → lower (x ∷ y ∷ []) (z ∷ u ∷ v ∷ xs) ≡ false → lower (z ∷ u ∷ []) (x ∷ y ∷ []) ≡ true
before_pair x y z u v xs p = grind (arith, nat_tests)

next_pair : (x y z u : ℕ) → lower (x ∷ y ∷ []) (z ∷ u ∷ []) ≡ true → (lower (x ∷ (y + 1) ∷ []) (z ∷ u ∷ []) ≡ true) ⊎ ((x ≡ z) × (y + 1 ≡ u))
next_pair x y z u p =
    elim (cases_Bool (lower (x ∷ (y + 1) ∷ []) (z ∷ u ∷ [])))
    [ inl q ↦ inl q | inr q ↦ inr (let h : (x ≡ z) × (y + 1 ≡ u) = (grind (arith, nat_tests), grind (arith, nat_tests)) in h) ]

module _ (s : State) (b : Block) where
  -- a pair without volume sells nothing
  unsold : (j : Key) → under pair (λ v. v.amount) b.volumes (pair_k j) ≡ 0 → sold s b j ≡ 0
  unsold j e = go (eligible b j)
    where
      go : (p : Bool) → cond p (min (amount_at (trading s b) j) (volume b j.sold j.bought - before s b j)) 0 ≡ 0
      go true = omega (arith, e)
      go false = refl

  module _ (st₀ : Store) (ready : Ready s b st₀) (ok : fit_block b ≡ true) (st : Store) (os : List Offer) where
    fit : Fit b
    fit = fits b ok

    -- from before the first key to the first pair
    pub start : (outs : List ℕ) → ((y : ℕ) → y < 8 → get_or outs y 0 ≡ 0) → Walked s b st₀ [] st os → Passing s b st₀ 0 st os outs
    start outs zeros w = record {
      walked = on s b st₀ ready [] st os w (pair_start b.volumes 0) (λ j p. absurd (true≢false p)) quiet;
      paid = λ y l. zeros y l ∙ sym (on_in s b st₀ ready [] st os w (pair_start b.volumes 0) (λ j p. absurd (true≢false p)) quiet y ∙ none (trading s b) (pay_in s b y));
    }
      where
        none : (T : List Offer) (f : Key → ℕ) → sum_by (λ o. cond (lower [] (place o)) 0 (f o.key)) T ≡ 0
        none T f = sum_by_zero _ T (all_of _ (λ o. refl) T)

        quiet : (j : Key) → lower [] (words j) ≡ true → lower (pair_start b.volumes 0) (words j) ≡ false → sold s b j ≡ 0
        quiet j p q = unsold j (head_gap b.volumes fit.pairs (pair_k j) (before_pair _ _ j.sold j.bought j.limit (j.account ∷ j.sequence ∷ []) q))

    module _ (i : ℕ) (l : i < length b.volumes) where
      abbrev x : ℕ
      x = (get_or b.volumes i last).sold

      abbrev y : ℕ
      y = (get_or b.volumes i last).bought

      module _ (w : Walked s b st₀ (x ∷ (y + 1) ∷ []) st os) where
        up : (j : Key) → lower (x ∷ (y + 1) ∷ []) (words j) ≡ false → lower (pair_start b.volumes (suc i)) (words j) ≡ false
        up j p =
            elim (next_pair x y _ _ (rises b.volumes fit.pairs fit.assets i l)) [
              | inl q ↦ rise (x ∷ (y + 1) ∷ []) (pair_start b.volumes (suc i)) q j p
              | inr (ex, ey) ↦ subst (λ c. lower c (words j) ≡ false) (ap₂ (λ m n. m ∷ n ∷ []) ex ey) p
            ]
          where
            rises : (vs : List Volume) → Rising pair vs → AllByRecursion (λ v. (v.sold < 8) × (v.bought < 8)) vs → (i : ℕ) → i < length vs
                → lower (pair (get_or vs i last)) (pair (get_or vs (suc i) last)) ≡ true
            rises [] r a i l = absurd (omega arith)
            rises (v ∷ []) r a zero l = below v.sold v.bought a.0.0
              where
                below : (m n : ℕ) → m < 8 → lower (m ∷ n ∷ []) (8 ∷ 0 ∷ []) ≡ true
                below m n h = grind (arith, nat_tests)
            rises (v ∷ u ∷ vs) r a zero l = r.0.0
            rises (v ∷ vs) r a (suc i) l = rises vs r.1 a.1 i (omega arith)

        quiet : (j : Key) → lower (x ∷ (y + 1) ∷ []) (words j) ≡ true → lower (pair_start b.volumes (suc i)) (words j) ≡ false → sold s b j ≡ 0
        quiet j p q =
            unsold j
            (gap b.volumes fit.pairs i l (pair_k j) (past_pair x y j.sold j.bought (j.limit ∷ j.account ∷ j.sequence ∷ []) p)
            (before_pair _ _ j.sold j.bought j.limit (j.account ∷ j.sequence ∷ []) q))

        pub onward : Walked s b st₀ (pair_start b.volumes (suc i)) st os
        onward = on s b st₀ ready (x ∷ (y + 1) ∷ []) st os w (pair_start b.volumes (suc i)) up quiet

        pub onward_in : (z : ℕ) → sum_to s b (pair_start b.volumes (suc i)) (pay_in s b z) ≡ sum_to s b (x ∷ (y + 1) ∷ []) (pay_in s b z)
        onward_in z = on_in s b st₀ ready (x ∷ (y + 1) ∷ []) st os w (pair_start b.volumes (suc i)) up quiet z

    -- past the last pair nothing is sold
    module _ (i : ℕ) (l : length b.volumes ≤ i) (outs : List ℕ) (h : Passing s b st₀ i st os outs) where
      ends : pair_start b.volumes i ≡ 8 ∷ 0 ∷ []
      ends = go b.volumes i l
        where
          go : (vs : List Volume) (i : ℕ) → length vs ≤ i → pair_start vs i ≡ 8 ∷ 0 ∷ []
          go [] i l = refl
          go (v ∷ vs) zero l = absurd (omega arith)
          go (v ∷ vs) (suc i) l = go vs i (omega arith)

      large : (x y z u : ℕ) (xs : List ℕ) → lower (8 ∷ 0 ∷ []) (x ∷ y ∷ xs) ≡ true → z < 8 → same (z ∷ u ∷ []) (x ∷ y ∷ []) ≡ false
      large x y z u xs p h = grind (arith, nat_tests)

      above : (j : Key) → lower (8 ∷ 0 ∷ []) (words j) ≡ true → sold s b j ≡ 0
      above j p =
          unsold j (sum_by_zero _ b.volumes
          (All-weaker _ _ (λ v a. if_false (same (pair v) (pair_k j)) v.amount 0 (large j.sold j.bought v.sold v.bought (j.limit ∷ j.account ∷ j.sequence ∷ []) p a.0)) b.volumes fit.assets))

      w : Walked s b st₀ (8 ∷ 0 ∷ []) st os
      w = subst (λ c. Walked s b st₀ c st os) ends h.walked

      whole : (f : Key → ℕ) → ((j : Key) → sold s b j ≡ 0 → f j ≡ 0) → sum_to s b (8 ∷ 0 ∷ []) f ≡ sum_by (λ o. f o.key) (trading s b)
      whole f none = sum_by_same _ _ (trading s b) (all_of _ (λ o. point o.key (cases_Bool (lower (8 ∷ 0 ∷ []) (place o)))) (trading s b))
        where
          point : (j : Key) → (lower (8 ∷ 0 ∷ []) (words j) ≡ true) ⊎ (lower (8 ∷ 0 ∷ []) (words j) ≡ false) → cond (lower (8 ∷ 0 ∷ []) (words j)) 0 (f j) ≡ f j
          point j (inl p) = if_true (lower (8 ∷ 0 ∷ []) (words j)) 0 (f j) p ∙ sym (none j (above j p))
          point j (inr p) = if_false (lower (8 ∷ 0 ∷ []) (words j)) 0 (f j) p

      none_if : (p : Bool) (j : Key) → sold s b j ≡ 0 → cond p (paid s b j) 0 ≡ 0
      none_if true j e = none_paid s b j e
      none_if false j e = refl

      pub all_filled : Filled s b st₀ st os outs
      all_filled = record {
        kept = w.kept;
        amounts = λ j. total j (cases_Bool (lower (8 ∷ 0 ∷ []) (words j)));
        balances = λ n y. w.balances n y ∙ ap (λ m. balance_at st₀ n y + m) (whole (pay_to s b n y) (λ j e. none_if (eqb j.account n && eqb j.bought y) j e));
        paid = λ y l. h.paid y l ∙ ap (λ c. sum_to s b c (pay_in s b y)) ends ∙ whole (pay_in s b y) (λ j e. none_if (eqb j.bought y) j e);
      }
        where
          total : (j : Key) → (lower (8 ∷ 0 ∷ []) (words j) ≡ true) ⊎ (lower (8 ∷ 0 ∷ []) (words j) ≡ false) → amount_at os j + sold s b j ≡ amount_at (trading s b) j
          total j (inl p) = omega (arith, w.amounts j, if_true (lower (8 ∷ 0 ∷ []) (words j)) 0 (sold s b j) p, above j p)
          total j (inr p) = omega (arith, w.amounts j, if_false (lower (8 ∷ 0 ∷ []) (words j)) 0 (sold s b j) p)

-- what an index past the end of a slice of volumes stands for; never read
abbrev pub none : Volume
none = record { sold = 0; bought = 0; amount = 0 }

-- a volume of a readable block is of a pair, and in range; so is a price
pub in_pair : (vs : List Volume) → every fit_volume vs ≡ true → (i : ℕ) → i < length vs
    → ((get_or vs i none).sold < 8) × ((get_or vs i none).bought < 8) × ((get_or vs i none).amount ≤ largest)
in_pair vs e i l =
    let (p, n) = and_parts _ _ (All-get_or (λ v. fit_volume v ≡ true) vs i none l (all_from fit_volume vs e)) in
    let (x, q) = and_parts _ _ p in
    let (y, _) = and_parts _ _ q in
    (ltb-true _ 8 x, ltb-true _ 8 y, (amount_parts _ n).1)

pub in_price : (ps : List ℕ) → every is_price ps ≡ true → length ps ≡ 8 → (x : ℕ) → x < 8 → (0 < get_or ps x 0) × (get_or ps x 0 < 16777216)
in_price ps e n x l =
    let (p, q) = and_parts _ _ (All-get_or (λ p. is_price p ≡ true) ps x 0 (subst (λ m. x < m) (sym n) l) (all_from is_price ps e)) in
    (ltb-true 0 _ p, ltb-true _ 16777216 q)

-- at most the largest u64
abbrev pub capped : ℕ → ℕ
capped n = min n 18446744073709551615

-- the i-th pair, as the code holds it
module _ (s : State) (b : Block) (st₀ : Store) (ready : Ready s b st₀) (ps : List ℕ) (vs : List Volume) (h : Holds b ps vs) (i : ℕ) (l : i < length vs) where
  abbrev t : Volume
  t = get_or vs i none

  is : get_or b.volumes i last ≡ t
  is = ap (λ z. get_or z i last) h.volumes ∙ get_or_default vs i last none l

  within : i < length b.volumes
  within = omega (arith, l, ap length h.volumes)

  -- the volume of its pair, at its prices
  pub total_is : t.amount ≡ volume b t.sold t.bought
  total_is =
      sym (subst (λ v. under pair (λ u. u.amount) b.volumes (pair v) ≡ v.amount) is
      (All-get_or (λ v. under pair (λ u. u.amount) b.volumes (pair v) ≡ v.amount) b.volumes i last within
      (lookup pair (λ u. u.amount) b.volumes (rising_once pair b.volumes (fits b h.fit).pairs))))

  pub priced : (rates : Rates) → rates.sold ≡ get_or ps t.sold 0 → rates.bought ≡ get_or ps t.bought 0 → t.bought < 8
      → Priced s b st₀ t.sold t.bought rates
  priced rates e f in8 = record {
    ready = ready;
    bought = in8;
    price_sold = e ∙ ap (λ z. get_or z t.sold 0) (sym h.prices);
    price_bought = f ∙ ap (λ z. get_or z t.bought 0) (sym h.prices);
  }

  module _ (st : Store) (os : List Offer) (outs : List ℕ) (p : Passing s b st₀ i st os outs) where
    -- the walk stands before the pair, and after it
    pub enter : Walked s b st₀ (t.sold ∷ t.bought ∷ []) st os
    enter = subst (λ v. Walked s b st₀ (v.sold ∷ v.bought ∷ []) st os) is p.walked

    module _ (st' : Store) (os' : List Offer) (out : ℕ) (in8 : t.bought < 8) (len : length outs ≡ 8)
        (done : PairDone s b st₀ t.sold t.bought st' os' (Ok out)) where
      past : Walked s b st₀ ((get_or b.volumes i last).sold ∷ ((get_or b.volumes i last).bought + 1) ∷ []) st' os'
      past = subst (λ v. Walked s b st₀ (v.sold ∷ (v.bought + 1) ∷ []) st' os') (sym is) done.0

      sums : (z : ℕ) → sum_to s b (pair_start b.volumes (suc i)) (pay_in s b z) ≡ sum_to s b (pair_start b.volumes i) (pay_in s b z) + cond (eqb t.bought z) out 0
      sums z =
          onward_in s b st₀ ready h.fit st' os' i within past z
          ∙ ap (λ v. sum_to s b (v.sold ∷ (v.bought + 1) ∷ []) (pay_in s b z)) is
          ∙ done.1 z
          ∙ ap (λ v. sum_to s b (v.sold ∷ v.bought ∷ []) (pay_in s b z) + cond (eqb t.bought z) out 0) (sym is)

      small : (z : ℕ) → z < 8 → sum_to s b (pair_start b.volumes (suc i)) (pay_in s b z) ≤ largest
      small z in' =
          omega (
            arith,
            ready.paid z in',
            sum_by_grows (λ o. cond (lower (pair_start b.volumes (suc i)) (place o)) 0 (pay_in s b z o.key)) (λ o. pay_in s b z o.key) (trading s b)
                (all_of _ (λ o. cond_le (lower (pair_start b.volumes (suc i)) (place o)) (pay_in s b z o.key)) (trading s b)),
          )

      pub leave : Passing s b st₀ (i + 1) st' os' (set outs t.bought (capped (get_or outs t.bought 0 + out)))
      leave =
          subst (λ k. Passing s b st₀ k st' os' (set outs t.bought (capped (get_or outs t.bought 0 + out)))) (sym (add-one i))
          (record { walked = onward s b st₀ ready h.fit st' os' i within past; paid = λ z in'. each z in' (cases_eq z t.bought) })
        where
          in_outs : t.bought < length outs
          in_outs = omega (arith, in8, len)

          each : (z : ℕ) → z < 8 → (z ≡ t.bought) ⊎ (z ≡ t.bought → ⊥)
              → get_or (set outs t.bought (capped (get_or outs t.bought 0 + out))) z 0 ≡ sum_to s b (pair_start b.volumes (suc i)) (pay_in s b z)
          each z in' (inl e) =
              subst (λ k. get_or (set outs t.bought (capped (get_or outs t.bought 0 + out))) k 0 ≡ sum_to s b (pair_start b.volumes (suc i)) (pay_in s b k)) (sym e)
              (get_or-set_same outs t.bought (capped (get_or outs t.bought 0 + out)) 0 in_outs
              ∙ omega (arith, sums t.bought, small t.bought in8, p.paid t.bought in8, if_true (eqb t.bought t.bought) out 0 (eq-eqb t.bought t.bought refl)))
          each z in' (inr n) =
              get_or-set_other outs t.bought z (capped (get_or outs t.bought 0 + out)) 0 n
              ∙ omega (arith, sums z, p.paid z in', if_false (eqb t.bought z) out 0 (ne_eqb t.bought z (λ e. n (sym e))))

-- past the last volume
pub ended : (b : Block) (ps : List ℕ) (vs : List Volume) → Holds b ps vs → (i : ℕ) → length vs ≤ i → length b.volumes ≤ i
ended b ps vs h i l = omega (arith, l, ap length h.volumes)

-- before the first key
pub fresh_walk : (s : State) (b : Block) (st : Store) (os : List Offer) → ((j : Key) → amount_at os j ≡ amount_at (trading s b) j) → Walked s b st [] st os
fresh_walk s b st os same = record {
  kept = record { capacity = refl; top = refl; count = refl; stand = λ n. refl; floors = λ n. refl };
  amounts = λ j. omega (arith, same j);
  balances = λ n y. omega (arith, sum_by_zero (λ o. cond (lower [] (place o)) 0 (pay_to s b n y o.key)) (trading s b) (all_of _ (λ o. refl) (trading s b)));
}

pub zeros : (y : ℕ) → y < 8 → ◌≡◌ {A = ℕ} (get_or (replicate 8 0) y 0) 0
zeros y h = get_or-replicate 8 y 0 0 h
