-- What is eligible of a pair: the book's offers, without the cancelled and with the new. Assumes nothing.
use Rattle.std.proofs.Common.{◌≡◌, ℕ, ◌+◌, ◌*◌, ◌/◌, ◌^◌, ◌<◌, ◌≤◌, min, Bool, true, cond, ◌&&◌, eqb, ltb, leb, List, [], ◌∷◌, get_or, sum_by, filter, Result, sym, refl, ap, ◌∙◌, subst, ap₂, inl, inr, le-div_iff_mul-le, arith}
use Rattle.std.specs.List.{flat_map, ContainsAt as Has}
use Rattle.std.proofs.lemmas.Bool.Decides.{nat_tests}
use Rattle.std.proofs.lemmas.Bool.{cases_Bool, cases_eq, eqb-true, eq-eqb, ne_eqb, le-leb, lt-leb, cases_lt, ltb-true, lt-ltb, and_parts}
use Rattle.std.proofs.lemmas.List.Sums.{sum_by-append}
use Rattle.std.proofs.ByRecursion.{All-weaker}
use Rattle.terms.specs.declared.Key.{Key}
use Rattle.terms.specs.declared.Offer.{Offer}
use Rattle.terms.specs.declared.Volume.{Volume}
use Rattle.terms.specs.declared.Fault.{Fault}
use Rattle.terms.specs.declared.Action.{Action}
use Rattle.terms.specs.declared.Action.TheVariants.{Create, Pay, Place, Cancel}
use Rattle.terms.specs.declared.Transaction.{Transaction}
use Rattle.terms.specs.Order.{same, under, words, place, Rising}
use Rattle.terms.specs.Ranges.{fit_key, fit_offer, is_pair, is_number, is_word, is_amount}
use Rattle.terms.specs.Holdings.{Book, amount_at, up_to, sound_book}
use Rattle.terms.proofs.Order.{key_is, same_is}
use Rattle.blocks.specs.Readable.{Block, pair}
use Rattle.exchange.specs.State.{State}
use Rattle.exchange.specs.Trade.{places, cancels, placed, cancelled, placements, cancellations, cancels_of, eligible_in, trading, supply, volume}
use Rattle.exchange.specs.Faults.{Bad}
use Rattle.exchange.specs.Faults.Cause.{cancelled_twice}
use Rattle.exchange.proofs.Rising.{sum_by_same, sum_by_plus, all_of}
use Rattle.exchange.proofs.Sums.{if_true, if_false, sum_by_kept, sum_by_joined, some_of}
use Rattle.exchange.proofs.Keyed.{by_keys}
use Rattle.offers.proofs.Sound.{book_parts}
use Rattle.tally.specs.declared.effects.Effect.{Effect}
use Rattle.tally.specs.declared.rules.Place as spots
use Rattle.tally.specs.Least.{Told, Broken, spot}
use Rattle.tally.proofs.Tells.{told_by}
use Rattle.tally.proofs.Nets.{standing, found}
use Rattle.judging_rules.specs.Rows.{scene, no_store, bundle, deal}
use Rattle.judging_volumes.specs.Trades.{trades_by, trades}

-- where no transaction cancels an offer that another cancels too, each offer is cancelled at most once
pub at_most_once : (s : State) (b : Block) → ((i j : ℕ) → Bad s b cancelled_twice i j → ⊥) → (k : Key) → cancels_of b k ≤ 1
at_most_once s b clean k = elim (cases_lt 1 (cancels_of b k)) [ inl p ↦ absurd (again p) | inr p ↦ p ]
  where
    again : 1 < cancels_of b k → ⊥
    again p =
        let (x, m, q) = some_of (λ x. sum_by (λ j. cond (same (words j) (words k)) 1 0) (cancelled x)) b.transactions (omega (arith, sum_by_joined (λ j. cond (same (words j) (words k)) 1 0) cancelled b.transactions)) in
        let (j, n, r) = some_of (λ j. cond (same (words j) (words k)) 1 0) (cancelled x) q in
        let e : same (words j) (words k) ≡ true =
        elim (cases_Bool (same (words j) (words k))) [ inl y ↦ y | inr y ↦ absurd (omega (arith, r, if_false (same (words j) (words k)) 1 0 y)) ] in
        clean x.source x.sequence (x, (m, refl, refl), (j, n, subst (λ z. 1 < cancels_of b z) (sym (key_is j k (same_is (words j) (words k) e))) p))

-- a sum over the offers in trade: with the cancelled it is the standing and the new
module _ (s : State) (b : Block) (once : (k : Key) → cancels_of b k ≤ 1) (P : Key → Bool) where
  abbrev counted : Offer → ℕ
  counted o = cond (P o.key) o.amount 0

  pub corrected : sum_by counted (trading s b) + sum_by (λ k. cond (P k) (amount_at s.book.offers k) 0) (cancellations b)
      ≡ sum_by counted s.book.offers + sum_by counted (placements b)
  corrected =
      let n : Offer → ℕ = λ o. cancels_of b o.key in
      let all = sum_by-append counted (filter (λ o. eqb (cancels_of b o.key) 0) s.book.offers) (placements b) in
      let stay = sum_by_kept (λ o. eqb (cancels_of b o.key) 0) counted s.book.offers in
      let leave = by_keys place words (λ o. P o.key) P (λ o k e. ap P (sym (key_is o.key k e))) (λ o. o.amount) s.book.offers (cancellations b) in
      let both = sum_by_plus (λ o. cond (eqb (n o) 0) (counted o) 0) (λ o. counted o * under words (λ _. 1) (cancellations b) (place o)) s.book.offers in
      let each = sum_by_same (λ o. cond (eqb (n o) 0) (counted o) 0 + counted o * under words (λ _. 1) (cancellations b) (place o)) counted s.book.offers (all_of _ part s.book.offers) in
      omega (arith, all, stay, leave, both, each)
    where
      part : (o : Offer) → cond (eqb (cancels_of b o.key) 0) (counted o) 0 + counted o * under words (λ _. 1) (cancellations b) (place o) ≡ counted o
      part o =
          let m : under words (λ _. 1) (cancellations b) (place o) ≡ cancels_of b o.key = refl in
          elim (cases_eq (cancels_of b o.key) 0) [
            | inl e ↦ omega (arith, if_true (eqb (cancels_of b o.key) 0) (counted o) 0 (eq-eqb (cancels_of b o.key) 0 e), ap (λ z. counted o * z) (m ∙ e))
            | inr e ↦
                let one : cancels_of b o.key ≡ 1 = omega (arith, once o.key, e) in
                omega (arith, if_false (eqb (cancels_of b o.key) 0) (counted o) 0 (ne_eqb (cancels_of b o.key) 0 e), ap (λ z. counted o * z) (m ∙ one))
          ]

-- the limits that the prices p and q meet are those up to p * 65536 / q, where q is not 0
pub limits : (p q l : ℕ) → 0 < q → leb l (p * 65536 / q) ≡ leb (l * q) (p * 65536)
limits p q l some =
    elim (cases_lt (p * 65536 / q) l) [
      | inr h ↦ le-leb l _ h ∙ sym (le-leb (l * q) _ ((le-div_iff_mul-le {k = q} {x = l} {y = p * 65536} some).0 h))
      | inl h ↦
          lt-leb l _ h
          ∙ sym (elim (cases_lt (p * 65536) (l * q)) [
            | inl r ↦ lt-leb (l * q) _ r
            | inr r ↦ let z : l ≤ p * 65536 / q = (le-div_iff_mul-le {k = q} {x = l} {y = p * 65536} some).1 r in absurd (omega arith)
          ])
    ]

-- no limit of 32 bits is above the largest
pub all_limits : (l m : ℕ) → l < 4294967296 → 4294967295 ≤ m → leb l 4294967295 ≡ leb l m
all_limits l m h k = grind (arith, nat_tests)

module _ (bk : Book) (ps : List ℕ) (ts : List Transaction) (x y : ℕ) where
  abbrev s : State
  s = scene no_store bk 0 []

  abbrev b : Block
  b = deal ps [] ts

  abbrev worth : Offer → ℕ
  worth o = cond (eligible_in b x y o.key) o.amount 0

  abbrev gone : Key → ℕ
  gone k = cond (eligible_in b x y k) (amount_at bk.offers k) 0

  abbrev pub under_pair : (Effect spots.Place → ℕ) → ℕ
  under_pair f = under (λ e. spot e.key) f (flat_map (trades ps (amount_at bk.offers)) ts) (x ∷ y ∷ [])

  new_ones : under_pair (λ e. e.plus) ≡ sum_by worth (placements b)
  new_ones =
      sum_by_joined at (trades ps (amount_at bk.offers)) ts
      ∙ sum_by_same _ _ ts (all_of _ (λ t. each t.source t.sequence t.action) ts)
      ∙ sym (sum_by_joined worth placed ts)
    where
      at : Effect spots.Place → ℕ
      at e = cond (same (spot e.key) (x ∷ y ∷ [])) e.plus 0

      each : (n q : ℕ) (a : Action) → sum_by at (trades_by ps (amount_at bk.offers) n q a) ≡ sum_by worth (places n q a)
      each n q (Create m) = refl
      each n q (Pay r z m) = refl
      each n q (Place z w l m) = grind (arith, nat_tests)
      each n q (Cancel z w l m) = grind (arith, nat_tests)

  lost_ones : under_pair (λ e. e.minus) ≡ sum_by gone (cancellations b)
  lost_ones =
      sum_by_joined at (trades ps (amount_at bk.offers)) ts
      ∙ sum_by_same _ _ ts (all_of _ (λ t. each t.source t.sequence t.action) ts)
      ∙ sym (sum_by_joined gone cancelled ts)
    where
      at : Effect spots.Place → ℕ
      at e = cond (same (spot e.key) (x ∷ y ∷ [])) e.minus 0

      each : (n q : ℕ) (a : Action) → sum_by at (trades_by ps (amount_at bk.offers) n q a) ≡ sum_by gone (cancels n a)
      each n q (Create m) = refl
      each n q (Pay r z m) = refl
      each n q (Place z w l m) = grind (arith, nat_tests)
      each n q (Cancel z w l m) = grind (arith, nat_tests)

  -- a limit of the book has 32 bits
  limit_fits : (o : Offer) → fit_offer o ≡ true → o.key.limit < 4294967296
  limit_fits o e =
      let k : Key = o.key in
      let whole = (and_parts (fit_key k) (is_amount o.amount) e).0 in
      let numbers = (and_parts (is_pair k.sold k.bought) (is_number k.limit && (is_number k.account && is_word k.sequence)) whole).1 in
      let limit = (and_parts (is_number k.limit) (is_number k.account && is_word k.sequence) numbers).0 in
      ltb-true k.limit 4294967296 (and_parts (ltb 0 k.limit) (is_word k.limit) limit).1

  -- what rests up to the highest limit that the prices meet is what rests of eligible offers
  resting : sound_book bk ≡ true → (m : ℕ) → ((l : ℕ) → l < 4294967296 → leb l m ≡ leb (l * get_or ps y 0) (get_or ps x 0 * 65536))
      → up_to bk x y m ≡ sum_by worth bk.offers
  resting ok m met = sum_by_same _ _ bk.offers (All-weaker _ _ (λ o e. ap (λ t. cond t o.amount 0) (each o.key (limit_fits o e))) bk.offers (book_parts bk ok).fit)
    where
      each : (k : Key) → k.limit < 4294967296 → (eqb k.sold x && (eqb k.bought y && leb k.limit m)) ≡ eligible_in b x y k
      each k h =
          elim (cases_Bool (eqb k.sold x)) [
            | inr e ↦ rw e refl
            | inl e ↦ elim (cases_Bool (eqb k.bought y)) [
              | inr f ↦ rw (e, f) refl
              | inl f ↦
                  let d : get_or ps x 0 ≡ get_or ps k.sold 0 = ap (λ n. get_or ps n 0) (sym (eqb-true k.sold x e)) in
                  let g : get_or ps y 0 ≡ get_or ps k.bought 0 = ap (λ n. get_or ps n 0) (sym (eqb-true k.bought y f)) in
                  rw (e, f) (met k.limit h ∙ ap₂ (λ p n. leb (k.limit * p) (n * 65536)) g d)
            ]
          ]

  pub supplied : sound_book bk ≡ true → ((k : Key) → cancels_of (bundle ts) k ≤ 1)
      → (m : ℕ) → ((l : ℕ) → l < 4294967296 → leb l m ≡ leb (l * get_or ps y 0) (get_or ps x 0 * 65536))
      → supply s b x y + under_pair (λ e. e.minus) ≡ up_to bk x y m + under_pair (λ e. e.plus)
  supplied ok once m met = omega (arith, corrected s b once (eligible_in b x y), new_ones, lost_ones, resting ok m met)

-- sums far from the end of 128 bits, compared
pub fewer : (d m u p a : ℕ) → d + m ≡ u + p → u < 2 ^ 64 → a < 2 ^ 64 → p < 2 ^ 127 → m < 2 ^ 127
    → ltb (min (u + p) 340282366920938463463374607431768211455) (min (a + m) 340282366920938463463374607431768211455) ≡ ltb d a
fewer d m u p a e hu ha hp hm = grind (arith, nat_tests)

module _ (bk : Book) (ps : List ℕ) (vs : List Volume) (ts : List Transaction) (up : Rising pair vs) where
  volume_found : (v : Volume) (i j : ℕ) → Has vs v → v.sold ≡ i → v.bought ≡ j → volume (deal ps vs ts) i j ≡ v.amount
  volume_found v i j m p q =
      ap₂ (λ a b. under pair (λ w. w.amount) vs (a ∷ b ∷ [])) (sym p) (sym q) ∙ standing pair (λ w. w.amount) vs up v m

  abbrev needed : ℕ → ℕ → ℕ
  needed i j = supply (scene no_store bk 0 []) (deal ps [] ts) i j

  pub told_volumes : (n : ℕ) (r : Result (Unit {0}) Fault)
      → Told (Broken (λ v. v.sold) (λ v. v.bought) (λ v. ltb (needed v.sold v.bought) v.amount) vs) n r
      → Told (λ i j. supply (scene no_store bk 0 []) (deal ps vs ts) i j < volume (deal ps vs ts) i j) n r
  told_volumes n r = told_by _ _ n r to from
    where
      to : (i j : ℕ) → Broken (λ v. v.sold) (λ v. v.bought) (λ v. ltb (needed v.sold v.bought) v.amount) vs i j → needed i j < volume (deal ps vs ts) i j
      to i j (v, m, p, q, o) = omega (arith, volume_found v i j m p q, ap₂ needed p q, ltb-true _ _ o)

      from : (i j : ℕ) → needed i j < volume (deal ps vs ts) i j → Broken (λ v. v.sold) (λ v. v.bought) (λ v. ltb (needed v.sold v.bought) v.amount) vs i j
      from i j h =
          elim (found pair vs (i ∷ j ∷ [])) [
            | inl z ↦ absurd (omega (arith, h, z (λ v. v.amount)))
            | inr (v, m, e) ↦
                let p : v.sold ≡ i = cc in
                let q : v.bought ≡ j = cc in
                (v, m, p, q, lt-ltb _ _ (omega (arith, volume_found v i j m p q, ap₂ needed p q, h)))
          ]
