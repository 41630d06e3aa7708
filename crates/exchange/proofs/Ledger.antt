-- A commit of a block without fault leaves the offers owned, and keeps of each asset the sum of free balances, offered amounts and
-- remainder. Assumes nothing.
use Rattle.std.proofs.Common.{◌≡◌, ℕ, ◌+◌, ◌*◌, ◌<◌, ◌≤◌, Bool, true, false, cond, ◌&&◌, eqb, List, [], ◌∷◌, get_or, None, sum_by, sym, refl, ap, ◌∙◌, subst, ap₂, subst₂, inl, inr, arith}
use Rattle.std.specs.List.{AllByRecursion}
use Rattle.std.proofs.lemmas.Bool.{cases_Bool, cases_eq}
use Rattle.std.proofs.ByRecursion.{All-weaker, All-append, all_kept_by, all-has}
use Rattle.terms.specs.declared.Key.{Key}
use Rattle.terms.specs.declared.Offer.{Offer}
use Rattle.terms.specs.declared.Volume.{Volume}
use Rattle.terms.specs.declared.Transaction.{Transaction}
use Rattle.terms.specs.Order.{same, under, name, place}
use Rattle.terms.specs.Holdings.{standing, floor_at, balance_at, amount_at, free_of, offered_of}
use Rattle.blocks.specs.Readable.{Block, pair}
use Rattle.exchange.specs.State.{State, remainder}
use Rattle.exchange.specs.Trade.{placed, payments, placements, cancellations, incoming, outgoing, volume_of, trading, sold, paid, payout, paid_in}
use Rattle.exchange.specs.Faults.{Verdict}
use Rattle.exchange.specs.Commit.{Owned, Committed}
use Rattle.terms.proofs.Order.{same_is, key_is}
use Rattle.exchange.proofs.Rising.{sum_by_same, sum_by_plus, all_of, swapped}
use Rattle.exchange.proofs.Sums.{if_false, all_2, all_joined, all_by_has, some_of, under_gone, lookup, rising_once, under_const}
use Rattle.exchange.proofs.Keyed.{and_nest, eqb_sym, by_keys}
use Rattle.exchange.proofs.Fit.{Fit}
use Rattle.exchange.proofs.Trades.{pair_of, placed_by, fresh, payers, receivers, cancellers, placers, traders, traded_once, moved, newly, undone, traded_sum, filled_volumes, by_volumes, paid_within}

module _ (s : State) (b : Block) (so : Owned s) (clean : Verdict s b None) where
  module _ (t : State) (c : Committed s b t) where
    pub once_standing : (n : ℕ) → 0 < standing s.store n → standing t.store n ≡ 1
    once_standing n h =
        omega (arith, c.stand n, rising_once name t.store.accounts c.ordered.accounts (record { number = n; floor = 0; balances = [] }))

    -- a sum over the accounts of what each has of a list, where every owner stands, is the sum over the list
    spread : {Y : Type 0} (own : Y → ℕ) (q : Y → Bool) (v : Y → ℕ) (ys : List Y) → AllByRecursion (λ y. 0 < standing s.store (own y)) ys
        → sum_by (λ a. sum_by (λ y. cond (eqb (own y) a.number && q y) (v y) 0) ys) t.store.accounts ≡ sum_by (λ y. cond (q y) (v y) 0) ys
    spread {Y} own q v ys h =
        swapped (λ a y. cond (eqb (own y) a.number && q y) (v y) 0) t.store.accounts ys
        ∙ sum_by_same _ _ ys (All-weaker _ _ point ys h)
      where
        point : (y : Y) → 0 < standing s.store (own y)
            → sum_by (λ a. cond (eqb (own y) a.number && q y) (v y) 0) t.store.accounts ≡ cond (q y) (v y) 0
        point y p =
            let w : ℕ = cond (q y) (v y) 0 in
            sum_by_same _ (λ a. cond (same (name a) (own y ∷ [])) w 0) t.store.accounts
            (all_of _ (λ a. and_nest (eqb (own y) a.number) (q y) (v y) ∙ ap (λ e. cond (e && true) w 0) (eqb_sym (own y) a.number)) t.store.accounts)
            ∙ under_const name w t.store.accounts (own y ∷ [])
            ∙ ap (λ n. w * n) (once_standing (own y) p)
            ∙ omega arith

    -- the free balances
    module _ (x : ℕ) (in8 : x < 8) where
      outs : sum_by (λ a. outgoing s b a.number x) t.store.accounts ≡ moved b x + newly b x
      outs =
          sum_by_plus _ _ t.store.accounts
          ∙ ap₂ ◌+◌
          (spread (λ p. p.payer) (λ p. eqb p.asset x) (λ p. p.amount) (payments b) (payers s b so clean))
          (spread (λ o. o.key.account) (λ o. eqb o.key.sold x) (λ o. o.amount) (placements b) (placers s b so clean))

      ins : sum_by (λ a. incoming s b a.number x) t.store.accounts ≡ moved b x + undone s b x
      ins =
          sum_by_plus _ _ t.store.accounts
          ∙ ap₂ ◌+◌
          (spread (λ p. p.receiver) (λ p. eqb p.asset x) (λ p. p.amount) (payments b) (receivers s b so clean))
          (spread (λ k. k.account) (λ k. eqb k.sold x) (λ k. amount_at s.book.offers k) (cancellations b) (cancellers s b so clean))

      outs_of_fills : sum_by (λ a. payout s b a.number x) t.store.accounts ≡ paid_in s b x
      outs_of_fills = spread (λ o. o.key.account) (λ o. eqb o.key.bought x) (λ o. paid s b o.key) (trading s b) (traders s b so clean)

      olds : sum_by (λ a. balance_at s.store a.number x) t.store.accounts ≡ free_of s.store x
      olds =
          spread (λ a. a.number) (λ _. true) (λ a. get_or a.balances x 0) s.store.accounts
          (All-weaker _ _ (λ a e. omega (arith, e)) s.store.accounts
          (lookup name (λ _. 1) s.store.accounts (rising_once name s.store.accounts so.ordered.accounts)))

      news : sum_by (λ a. balance_at t.store a.number x) t.store.accounts ≡ free_of t.store x
      news =
          sum_by_same _ _ t.store.accounts
          (lookup name (λ a. get_or a.balances x 0) t.store.accounts (rising_once name t.store.accounts c.ordered.accounts))

      free_moves : free_of t.store x + (moved b x + newly b x) ≡ free_of s.store x + (moved b x + undone s b x) + paid_in s b x
      free_moves =
          ap₂ ◌+◌ (sym news) (sym outs)
          ∙ sym (sum_by_plus (λ a. balance_at t.store a.number x) (λ a. outgoing s b a.number x) t.store.accounts)
          ∙ sum_by_same _ _ t.store.accounts (all_of _ (λ a. c.balances a.number x in8) t.store.accounts)
          ∙ sum_by_plus (λ a. balance_at s.store a.number x + incoming s b a.number x) (λ a. payout s b a.number x) t.store.accounts
          ∙ ap₂ ◌+◌ (sum_by_plus (λ a. balance_at s.store a.number x) (λ a. incoming s b a.number x) t.store.accounts ∙ ap₂ ◌+◌ olds ins) outs_of_fills

    module _ (x : ℕ) (in8 : x < 8) where
      -- each offer that is left was traded
      pub left : AllByRecursion (λ o. under place (λ _. 1) (trading s b) (place o) ≡ 1) t.book.offers
      left =
          all_2 _ go t.book.offers c.ordered.some
          (lookup place (λ o. o.amount) t.book.offers (rising_once place t.book.offers c.ordered.offers))
        where
          go : (o : Offer) → 0 < o.amount → amount_at t.book.offers o.key ≡ o.amount → under place (λ _. 1) (trading s b) (place o) ≡ 1
          go o p e =
              elim (cases_eq (under place (λ _. 1) (trading s b) (place o)) 0) [
                | inl z ↦ absurd (omega (arith, p, e, c.amounts o.key, under_gone place (λ o. o.amount) (trading s b) (place o) z))
                | inr z ↦ omega (arith, z, traded_once s b so clean o)
              ]

      offered_moves : offered_of t.book x + sum_by (λ o. cond (eqb o.key.sold x) (sold s b o.key) 0) (trading s b)
          ≡ sum_by (λ o. cond (eqb o.key.sold x) o.amount 0) (trading s b)
      offered_moves =
          ap (λ n. n + sum_by (λ o. cond (eqb o.key.sold x) (sold s b o.key) 0) (trading s b))
          (sym (by_keys place place (λ o. eqb o.key.sold x) (λ o. eqb o.key.sold x) (λ o k e. ap (λ j. eqb j.sold x) (sym (key_is o.key k.key e)))
          (λ o. o.amount) t.book.offers (trading s b)
          ∙ sum_by_same _ _ t.book.offers (All-weaker _ _ (λ o e. ap (λ n. cond (eqb o.key.sold x) o.amount 0 * n) e ∙ omega arith) t.book.offers left)))
          ∙ sym (sum_by_plus _ _ (trading s b))
          ∙ sum_by_same _ _ (trading s b)
          (All-weaker _ _ (λ o e. add_in (eqb o.key.sold x) _ _ o.amount (c.amounts o.key ∙ e)) (trading s b)
          (lookup place (λ o. o.amount) (trading s b) (traded_once s b so clean)))
        where
          add_in : (p : Bool) (m n k : ℕ) → m + n ≡ k → cond p m 0 + cond p n 0 ≡ cond p k 0
          add_in true m n k e = e
          add_in false m n k e = refl

      sold_is_volume : Fit b → sum_by (λ o. cond (eqb o.key.sold x) (sold s b o.key) 0) (trading s b) ≡ volume_of b x
      sold_is_volume f =
          by_volumes s b so clean f (λ o. eqb o.key.sold x) (λ v. eqb v.sold x) tied (λ o. sold s b o.key) (λ o e. e) (λ v. v.amount)
          (All-weaker _ _ (λ v e. e) b.volumes (filled_volumes s b so clean f))
        where
          tied : (o : Offer) (v : Volume) → pair_of o ≡ pair v → eqb v.sold x ≡ eqb o.key.sold x
          tied o v e = let p : v.sold ≡ o.key.sold = cc in ap (λ n. eqb n x) p

      pub conserved : Fit b → free_of t.store x + offered_of t.book x + remainder t x ≡ free_of s.store x + offered_of s.book x + remainder s x
      conserved f = omega (arith, free_moves x in8, traded_sum s b so clean x, offered_moves, sold_is_volume f, c.remain x in8, paid_within s b so clean x in8 f)

    floor_grows : (n : ℕ) → floor_at s.store n ≤ floor_at t.store n
    floor_grows n =
        elim (c.last n) [
          | inl (e, nil) ↦ omega (arith, e)
          | inr (x, m, k, e) ↦ omega (arith, e, fresh s b so clean x m, ap (floor_at s.store) k)
        ]

    numbered : AllByRecursion (λ o. o.key.sequence ≤ floor_at t.store o.key.account) (trading s b)
    numbered =
        All-append _ _ (placements b)
        (all_kept_by _ _ s.book.offers (All-weaker _ _ (λ o l. omega (arith, l, floor_grows o.key.account)) s.book.offers so.numbers))
        (all_joined _ placed b.transactions (all_by_has _ b.transactions (λ x m. go x (c.used x m))))
      where
        go : (x : Transaction) → x.sequence ≤ floor_at t.store x.source → AllByRecursion (λ o. o.key.sequence ≤ floor_at t.store o.key.account) (placed x)
        go x h =
            All-weaker _ _ (λ o e. subst₂ (λ q n. q ≤ floor_at t.store n) (sym e.1) (sym e.0) h) (placed x)
            (placed_by x.source x.sequence x.action)

    -- what holds of each traded key holds of each offer that is left
    pub from_traded : (P : Key → Type 0) → AllByRecursion (λ o. P o.key) (trading s b) → AllByRecursion (λ o. P o.key) t.book.offers
    from_traded P h = All-weaker _ _ go t.book.offers (left 0 (omega arith))
      where
        go : (o : Offer) → under place (λ _. 1) (trading s b) (place o) ≡ 1 → P o.key
        go o e =
            let (z, m, p) = some_of (λ z. cond (same (place z) (place o)) 1 0) (trading s b) (omega (arith, e)) in
            let q : same (place z) (place o) ≡ true =
            elim (cases_Bool (same (place z) (place o))) [ inl y ↦ y | inr y ↦ absurd (omega (arith, p, if_false (same (place z) (place o)) 1 0 y)) ] in
            subst P (key_is z.key o.key (same_is (place z) (place o) q)) (all-has _ (trading s b) z h m)

    pub still_owned : Owned t
    still_owned = record {
      ordered = c.ordered;
      owners = from_traded (λ k. 0 < standing t.store k.account) (All-weaker _ _ (λ o h. omega (arith, h, c.stand o.key.account)) (trading s b) (traders s b so clean));
      numbers = from_traded (λ k. k.sequence ≤ floor_at t.store k.account) numbered;
    }
