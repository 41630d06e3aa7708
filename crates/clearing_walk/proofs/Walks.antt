-- One turn of the walk over a pair. Assumes nothing.
use Rattle.std.proofs.Common.{◌≡◌, ℕ, ◌+◌, ◌-◌, ◌*◌, ◌/◌, ◌<◌, ◌≤◌, min, Bool, true, false, cond, ◌&&◌, eqb, ◌⊎◌, List, sum_by, sym, refl, ap, ◌∙◌, subst, ap₂, inl, inr, arith}
use native.Mathlib.Nat.{zero-div}
use Rattle.std.specs.List.{AllByRecursion}
use Rattle.std.proofs.lemmas.Bool.{cases_Bool, and_from, and_parts, eq-eqb, eqb-true}
use Rattle.std.proofs.lemmas.Bool.Decides.{nat_tests}
use Rattle.std.proofs.ByRecursion.{All-weaker, all-has}
use Rattle.terms.specs.declared.Key.{Key}
use Rattle.terms.specs.declared.Offer.{Offer}
use Rattle.terms.specs.Order.{lower, same, words, place}
use Rattle.terms.specs.Holdings.{Store, standing, balance_at, amount_at}
use Rattle.terms.proofs.Order.{transitive, irreflexive, same_refl, same_is, key_is}
use Rattle.accounts.specs.Changes.{BalanceSet}
use Rattle.blocks.specs.Readable.{Block}
use Rattle.exchange.specs.State.{State}
use Rattle.exchange.specs.Trade.{trading, price, volume, eligible, eligible_in, before, sold, paid}
use Rattle.exchange.proofs.Rising.{sum_by_same, sum_by_grows, all_of}
use Rattle.exchange.proofs.Sums.{if_true, if_false, Once, lookup, some_of}
use Rattle.exchange.proofs.Trades.{sold_within}
use Rattle.clearing_walk.specs.Walk.{largest, Ready, sum_to, pay_to, pay_in, weight, Walked}
use Rattle.clearing_walk.proofs.Cursor.{other, sum_past, sum_short, sum_still}

and_flip : (r l : Bool) (a d : ℕ) → a ≡ d → cond (r && l) d 0 ≡ cond l (cond r a 0) 0
and_flip true true a d e = sym e
and_flip true false a d e = refl
and_flip false true a d e = refl
and_flip false false a d e = refl

-- a part of what is counted
pub cond_le : (p : Bool) (v : ℕ) → cond p 0 v ≤ v
cond_le true v = omega arith
cond_le false v = omega arith

-- nothing, at any price
none_div : (n p q : ℕ) → n ≡ 0 → n * p / q ≡ 0
none_div n p q e = let z : n * p ≡ 0 = ap (λ m. m * p) e ∙ omega arith in ap (λ m. m / q) z ∙ zero-div q

module _ (s : State) (b : Block) where
  abbrev T : List Offer
  T = trading s b

  -- nothing in trade is nothing sold, and nothing sold is nothing paid
  pub none_sold : (j : Key) → amount_at T j ≡ 0 → sold s b j ≡ 0
  none_sold j e = omega (arith, sold_within s b j, e)

  pub none_paid : (j : Key) → sold s b j ≡ 0 → paid s b j ≡ 0
  none_paid j e = none_div (sold s b j) (price b j.sold) (price b j.bought) e

  none_to : (n y : ℕ) (j : Key) → sold s b j ≡ 0 → pay_to s b n y j ≡ 0
  none_to n y j e = go (eqb j.account n && eqb j.bought y)
    where
      go : (p : Bool) → cond p (paid s b j) 0 ≡ 0
      go true = none_paid j e
      go false = refl

  none_in : (y : ℕ) (j : Key) → sold s b j ≡ 0 → pay_in s b y j ≡ 0
  none_in y j e = go (eqb j.bought y)
    where
      go : (p : Bool) → cond p (paid s b j) 0 ≡ 0
      go true = none_paid j e
      go false = refl

  none_weight : (x y : ℕ) (j : Key) → amount_at T j ≡ 0 → weight s b x y j ≡ 0
  none_weight x y j e = go (eqb j.sold x && eqb j.bought y && eligible b j)
    where
      go : (p : Bool) → cond p (amount_at T j) 0 ≡ 0
      go true = e
      go false = refl

  module _ (st₀ : Store) (ready : Ready s b st₀) where
    once : Once place T
    once = ready.once

    -- what goes before a key
    pub before_is : (k : Key) → before s b k ≡ sum_by (λ o. cond (lower (place o) (words k)) (weight s b k.sold k.bought o.key) 0) T
    before_is k =
        sum_by_same _ _ T
        (All-weaker _ _ (λ o e. and_flip (eligible_in b k.sold k.bought o.key) (lower (place o) (words k)) (amount_at T o.key) o.amount e) T (lookup place (λ o. o.amount) T once))

    -- what holds of each traded offer's key holds of a key with an amount
    pub traded : (P : Key → Type 0) → AllByRecursion (λ o. P o.key) T → (k : Key) → 0 < amount_at T k → P k
    traded P h k some =
        let (z, m, p) = some_of (λ z. cond (same (place z) (words k)) z.amount 0) T some in
        let q : same (place z) (words k) ≡ true =
        elim (cases_Bool (same (place z) (words k))) [ inl y ↦ y | inr y ↦ absurd (omega (arith, p, if_false (same (place z) (words k)) z.amount 0 y)) ] in
        subst P (key_is z.key k (same_is (place z) (words k) q)) (all-has _ T z h m)

    module _ (c : List ℕ) (st : Store) (os : List Offer) (w : Walked s b st₀ c st os) where
      -- above the cursor the book is as traded
      pub ahead : (j : Key) → lower c (words j) ≡ true → amount_at os j ≡ amount_at T j
      ahead j p = omega (arith, w.amounts j, if_true (lower c (words j)) 0 (sold s b j) p)

      -- the cursor goes on over keys of which nothing is sold
      pub on : (d : List ℕ) → ((j : Key) → lower c (words j) ≡ false → lower d (words j) ≡ false)
          → ((j : Key) → lower c (words j) ≡ true → lower d (words j) ≡ false → sold s b j ≡ 0)
          → Walked s b st₀ d st os
      on d up quiet = record {
        kept = w.kept;
        amounts = λ j. w_amounts j (cases_Bool (lower c (words j))) (cases_Bool (lower d (words j)));
        balances = λ n y. w.balances n y ∙ ap (λ m. balance_at st₀ n y + m) (sym (sum_still T once (pay_to s b n y) c d up (λ j p q. none_to n y j (quiet j p q))));
      }
        where
          w_amounts : (j : Key) → (lower c (words j) ≡ true) ⊎ (lower c (words j) ≡ false) → (lower d (words j) ≡ true) ⊎ (lower d (words j) ≡ false)
              → amount_at os j + cond (lower d (words j)) 0 (sold s b j) ≡ amount_at T j
          w_amounts j (inl p) (inl q) = omega (arith, w.amounts j, if_true (lower c (words j)) 0 (sold s b j) p, if_true (lower d (words j)) 0 (sold s b j) q)
          w_amounts j (inl p) (inr q) = omega (arith, w.amounts j, if_true (lower c (words j)) 0 (sold s b j) p, if_false (lower d (words j)) 0 (sold s b j) q, quiet j p q)
          w_amounts j (inr p) q = omega (arith, w.amounts j, if_false (lower c (words j)) 0 (sold s b j) p, if_false (lower d (words j)) 0 (sold s b j) (up j p))

      pub on_in : (d : List ℕ) → ((j : Key) → lower c (words j) ≡ false → lower d (words j) ≡ false)
          → ((j : Key) → lower c (words j) ≡ true → lower d (words j) ≡ false → sold s b j ≡ 0)
          → (z : ℕ) → sum_to s b d (pay_in s b z) ≡ sum_to s b c (pay_in s b z)
      on_in d up quiet z = sum_still T once (pay_in s b z) c d up (λ j p q. none_in z j (quiet j p q))

      -- at the next key
      module _ (k : Key) (up : lower c (words k) ≡ true) (some : 0 < amount_at os k)
          (gap : (j : Key) → lower c (words j) ≡ true → lower (words j) (words k) ≡ true → amount_at os j ≡ 0) where
        quiet : (j : Key) → lower c (words j) ≡ true → lower (words j) (words k) ≡ true → amount_at T j ≡ 0
        quiet j p q = omega (arith, gap j p q, ahead j p)

        there : 0 < amount_at T k
        there = omega (arith, some, ahead k up)

        before_next : before s b k ≡ sum_to s b c (weight s b k.sold k.bought)
        before_next = before_is k ∙ sum_short T once (weight s b k.sold k.bought) c k up (λ j p q. none_weight k.sold k.bought j (quiet j p q))

        weight_past : eligible b k ≡ true
            → sum_to s b (words k) (weight s b k.sold k.bought) ≡ sum_to s b c (weight s b k.sold k.bought) + amount_at os k
        weight_past e =
            sum_past T once (weight s b k.sold k.bought) c k up there (λ j p q. none_weight k.sold k.bought j (quiet j p q))
            ∙ ap (λ n. sum_to s b c (weight s b k.sold k.bought) + n)
            (if_true _ (amount_at T k) 0 (and_from (eqb k.sold k.sold && eqb k.bought k.bought) (eligible b k)
            (and_from _ _ (eq-eqb k.sold k.sold refl) (eq-eqb k.bought k.bought refl)) e) ∙ sym (ahead k up))

        module _ (e : eligible b k ≡ true) (rest : ℕ) (left : rest ≡ volume b k.sold k.bought - sum_to s b c (weight s b k.sold k.bought)) where
          pub sold_next : sold s b k ≡ min (amount_at os k) rest
          sold_next =
              omega (
                arith,
                left,
                ahead k up,
                before_next,
                if_true (eligible b k) (min (amount_at T k) (volume b k.sold k.bought - before s b k)) 0 e,
              )

          pub left_next : rest - min (amount_at os k) rest ≡ volume b k.sold k.bought - sum_to s b (words k) (weight s b k.sold k.bought)
          left_next = omega (arith, left, weight_past e)

        pays : (n y : ℕ) → sum_to s b (words k) (pay_to s b n y) ≡ sum_to s b c (pay_to s b n y) + pay_to s b n y k
        pays n y = sum_past T once (pay_to s b n y) c k up there (λ j p q. none_to n y j (none_sold j (quiet j p q)))

        pub pays_in : (z : ℕ) → sum_to s b (words k) (pay_in s b z) ≡ sum_to s b c (pay_in s b z) + pay_in s b z k
        pays_in z = sum_past T once (pay_in s b z) c k up there (λ j p q. none_in z j (none_sold j (quiet j p q)))

        pub owner : 0 < standing st k.account
        owner = omega (arith, w.kept.stand k.account, ready.stand k.account, traded (λ j. 0 < standing s.store j.account) ready.owners k there)

        -- the owner's balance has room for the payout
        pub roomy : k.bought < 8 → balance_at st k.account k.bought + paid s b k ≤ largest
        roomy in8 =
            omega (
              arith,
              w.balances k.account k.bought,
              pays k.account k.bought,
              mine,
              sum_by_grows (λ o. cond (lower (words k) (place o)) 0 (pay_to s b k.account k.bought o.key)) (λ o. pay_to s b k.account k.bought o.key) T
                  (all_of _ (λ o. cond_le (lower (words k) (place o)) (pay_to s b k.account k.bought o.key)) T),
              ready.room k.account k.bought (traded (λ j. 0 < standing s.store j.account) ready.owners k there) in8,
            )
          where
            mine : pay_to s b k.account k.bought k ≡ paid s b k
            mine = if_true _ (paid s b k) 0 (and_from _ _ (eq-eqb k.account k.account refl) (eq-eqb k.bought k.bought refl))

        -- filled and paid, the walk stands at k
        pub filled : (st' : Store) (os' : List Offer)
            → ((j : Key) → amount_at os' j ≡ cond (same (words j) (words k)) (amount_at os k - sold s b k) (amount_at os j))
            → BalanceSet st k.account k.bought (balance_at st k.account k.bought + paid s b k) st'
            → Walked s b st₀ (words k) st' os'
        filled st' os' amounts set = record {
          kept = record {
            capacity = set.capacity ∙ w.kept.capacity;
            top = set.top ∙ w.kept.top;
            count = set.count ∙ w.kept.count;
            stand = λ n. set.stand n ∙ w.kept.stand n;
            floors = λ n. set.floors n ∙ w.kept.floors n;
          };
          amounts = λ j. new_amounts j (cases_Bool (same (words j) (words k)));
          balances = λ n y. new_balances n y (cases_Bool (eqb n k.account && eqb y k.bought));
        }
          where
            new_amounts : (j : Key) → (same (words j) (words k) ≡ true) ⊎ (same (words j) (words k) ≡ false)
                → amount_at os' j + cond (lower (words k) (words j)) 0 (sold s b j) ≡ amount_at T j
            new_amounts j (inl p) =
                subst (λ z. amount_at os' z + cond (lower (words k) (words z)) 0 (sold s b z) ≡ amount_at T z) (sym (key_is j k (same_is (words j) (words k) p)))
                (omega (
                  arith,
                  amounts k,
                  if_true (same (words k) (words k)) (amount_at os k - sold s b k) (amount_at os k) (same_refl (words k)),
                  if_false (lower (words k) (words k)) 0 (sold s b k) (irreflexive (words k)),
                  sold_within s b k,
                  ahead k up,
                ))
            new_amounts j (inr p) =
                elim (cases_Bool (lower (words k) (words j))) [
                  | inl q ↦
                      omega (
                        arith,
                        amounts j,
                        if_false (same (words j) (words k)) (amount_at os k - sold s b k) (amount_at os j) p,
                        if_true (lower (words k) (words j)) 0 (sold s b j) q,
                        ahead j (transitive c (words k) (words j) up q),
                      )
                  | inr q ↦
                      elim (cases_Bool (lower c (words j))) [
                        | inl r ↦
                            omega (
                              arith,
                              amounts j,
                              if_false (same (words j) (words k)) (amount_at os k - sold s b k) (amount_at os j) p,
                              if_false (lower (words k) (words j)) 0 (sold s b j) q,
                              gap j r (other (words j) (words k) p q),
                              ahead j r,
                              sold_within s b j,
                            )
                        | inr r ↦
                            omega (
                              arith,
                              amounts j,
                              if_false (same (words j) (words k)) (amount_at os k - sold s b k) (amount_at os j) p,
                              if_false (lower (words k) (words j)) 0 (sold s b j) q,
                              w.amounts j,
                              if_false (lower c (words j)) 0 (sold s b j) r,
                            )
                      ]
                ]

            flip : (n y : ℕ) → (eqb k.account n && eqb k.bought y) ≡ (eqb n k.account && eqb y k.bought)
            flip n y = grind (arith, nat_tests)

            new_balances : (n y : ℕ) → ((eqb n k.account && eqb y k.bought) ≡ true) ⊎ ((eqb n k.account && eqb y k.bought) ≡ false)
                → balance_at st' n y ≡ balance_at st₀ n y + sum_to s b (words k) (pay_to s b n y)
            new_balances n y (inl p) =
                let (en, ey) = and_parts (eqb n k.account) (eqb y k.bought) p in
                omega (
                  arith,
                  set.balances n y,
                  if_true _ (balance_at st k.account k.bought + paid s b k) (balance_at st n y) p,
                  w.balances n y,
                  pays n y,
                  if_true _ (paid s b k) 0 (flip n y ∙ p),
                  ap₂ (balance_at st) (eqb-true n k.account en) (eqb-true y k.bought ey),
                )
            new_balances n y (inr p) =
                omega (
                  arith,
                  set.balances n y,
                  if_false _ (balance_at st k.account k.bought + paid s b k) (balance_at st n y) p,
                  w.balances n y,
                  pays n y,
                  if_false _ (paid s b k) 0 (flip n y ∙ p),
                )
