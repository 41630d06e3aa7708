-- No balance can pass the largest, and no sum of a block either. Assumes nothing.
use Rattle.std.proofs.Common.{◌≡◌, ℕ, ◌+◌, ◌-◌, ◌*◌, ◌<◌, ◌≤◌, Bool, true, false, cond, ◌&&◌, eqb, List, [], ◌∷◌, get_or, None, sum_by, ap, ◌∙◌, subst, ap₂, inl, inr, arith}
use Rattle.std.specs.List.{AllByRecursion}
use Rattle.std.proofs.lemmas.List.Sums.{sum_by-cons}
use Rattle.std.proofs.lemmas.Bool.{cases_Bool, cases_lt}
use Rattle.std.proofs.ByRecursion.{All-weaker}
use Rattle.terms.specs.declared.Account.{Account}
use Rattle.terms.specs.declared.Offer.{Offer}
use Rattle.terms.specs.declared.Volume.{Volume}
use Rattle.terms.specs.Order.{same, name, place}
use Rattle.terms.specs.Holdings.{standing, balance_at, amount_at, free_of, offered_of}
use Rattle.terms.proofs.Order.{same_is}
use Rattle.blocks.specs.Readable.{Block, pair}
use Rattle.exchange.specs.State.{State}
use Rattle.exchange.specs.Trade.{payments, placements, cancellations, incoming, outgoing, volume_of, trading, sold, paid, payout, paid_in}
use Rattle.exchange.specs.Faults.{Verdict}
use Rattle.exchange.specs.Faults.Cause.{overdrawn}
use Rattle.exchange.specs.Commit.{Owned}
use Rattle.exchange.proofs.Causes.{faulty}
use Rattle.exchange.proofs.Rising.{sum_by_same, sum_by_grows, sum_by_plus, all_of, swapped}
use Rattle.exchange.proofs.Sums.{if_false, member_le, some_of, lookup, rising_one, rising_once, under_const}
use Rattle.exchange.proofs.Keyed.{and_nest, eqb_sym}
use Rattle.exchange.proofs.Fit.{Fit}
use Rattle.exchange.proofs.Trades.{pair_of, moved, newly, undone, payers, receivers, cancellers, placers, traders, traded_once, traded_sum, filled_volumes, by_volumes, paid_within, sold_within}

sub_sum : {X : Type 0} (f g : X → ℕ) (xs : List X) → AllByRecursion (λ x. g x ≤ f x) xs → sum_by (λ x. f x - g x) xs + sum_by g xs ≡ sum_by f xs
sub_sum f g [] a = omega arith
sub_sum f g (x ∷ xs) a = omega (arith, sum_by-cons (λ z. f z - g z) x xs, sum_by-cons f x xs, sum_by-cons g x xs, sub_sum f g xs a.1, a.0)

cond_grows : (p : Bool) (m n : ℕ) → m ≤ n → cond p m 0 ≤ cond p n 0
cond_grows true m n h = h
cond_grows false m n h = omega arith

module _ (s : State) (b : Block) (so : Owned s) (clean : Verdict s b None) where
  once_standing : (n : ℕ) → 0 < standing s.store n → standing s.store n ≡ 1
  once_standing n h = omega (arith, h, rising_one name s.store.accounts so.ordered.accounts (n ∷ []))

  -- a sum over the accounts of what each has of a list, where every owner stands, is the sum over the list
  spread : {Y : Type 0} (own : Y → ℕ) (q : Y → Bool) (v : Y → ℕ) (ys : List Y) → AllByRecursion (λ y. 0 < standing s.store (own y)) ys
      → sum_by (λ a. sum_by (λ y. cond (eqb (own y) a.number && q y) (v y) 0) ys) s.store.accounts ≡ sum_by (λ y. cond (q y) (v y) 0) ys
  spread {Y} own q v ys h =
      swapped (λ a y. cond (eqb (own y) a.number && q y) (v y) 0) s.store.accounts ys
      ∙ sum_by_same _ _ ys (All-weaker _ _ point ys h)
    where
      point : (y : Y) → 0 < standing s.store (own y)
          → sum_by (λ a. cond (eqb (own y) a.number && q y) (v y) 0) s.store.accounts ≡ cond (q y) (v y) 0
      point y p =
          let w : ℕ = cond (q y) (v y) 0 in
          sum_by_same _ (λ a. cond (same (name a) (own y ∷ [])) w 0) s.store.accounts
          (all_of _ (λ a. and_nest (eqb (own y) a.number) (q y) (v y) ∙ ap (λ e. cond (e && true) w 0) (eqb_sym (own y) a.number)) s.store.accounts)
          ∙ under_const name w s.store.accounts (own y ∷ [])
          ∙ ap (λ n. w * n) (once_standing (own y) p)
          ∙ omega arith

  module _ (x : ℕ) where
    outs : sum_by (λ a. outgoing s b a.number x) s.store.accounts ≡ moved b x + newly b x
    outs =
        sum_by_plus _ _ s.store.accounts
        ∙ ap₂ ◌+◌
        (spread (λ p. p.payer) (λ p. eqb p.asset x) (λ p. p.amount) (payments b) (payers s b so clean))
        (spread (λ o. o.key.account) (λ o. eqb o.key.sold x) (λ o. o.amount) (placements b) (placers s b so clean))

    ins : sum_by (λ a. incoming s b a.number x) s.store.accounts ≡ moved b x + undone s b x
    ins =
        sum_by_plus _ _ s.store.accounts
        ∙ ap₂ ◌+◌
        (spread (λ p. p.receiver) (λ p. eqb p.asset x) (λ p. p.amount) (payments b) (receivers s b so clean))
        (spread (λ k. k.account) (λ k. eqb k.sold x) (λ k. amount_at s.book.offers k) (cancellations b) (cancellers s b so clean))

    payouts : sum_by (λ a. payout s b a.number x) s.store.accounts ≡ paid_in s b x
    payouts = spread (λ o. o.key.account) (λ o. eqb o.key.bought x) (λ o. paid s b o.key) (trading s b) (traders s b so clean)

    olds : sum_by (λ a. balance_at s.store a.number x) s.store.accounts ≡ free_of s.store x
    olds =
        sum_by_same _ _ s.store.accounts
        (lookup name (λ a. get_or a.balances x 0) s.store.accounts (rising_once name s.store.accounts so.ordered.accounts))

    sold_is_volume : Fit b → sum_by (λ o. cond (eqb o.key.sold x) (sold s b o.key) 0) (trading s b) ≡ volume_of b x
    sold_is_volume f =
        by_volumes s b so clean f (λ o. eqb o.key.sold x) (λ v. eqb v.sold x) tied (λ o. sold s b o.key) (λ o e. e) (λ v. v.amount)
        (filled_volumes s b so clean f)
      where
        tied : (o : Offer) (v : Volume) → pair_of o ≡ pair v → eqb v.sold x ≡ eqb o.key.sold x
        tied o v e = let p : v.sold ≡ o.key.sold = cc in ap (λ n. eqb n x) p

    module _ (in8 : x < 8) (f : Fit b) (within : free_of s.store x + offered_of s.book x ≤ 68719476735) where
      sold_most : volume_of b x ≤ sum_by (λ o. cond (eqb o.key.sold x) o.amount 0) (trading s b)
      sold_most =
          subst (λ n. n ≤ sum_by (λ o. cond (eqb o.key.sold x) o.amount 0) (trading s b)) (sold_is_volume f)
          (sum_by_grows _ _ (trading s b)
          (All-weaker _ _ (λ o e. cond_grows (eqb o.key.sold x) (sold s b o.key) o.amount (omega (arith, e, sold_within s b o.key))) (trading s b)
          (lookup place (λ o. o.amount) (trading s b) (traded_once s b so clean))))

      -- all that comes in is at most what goes out and the largest amount
      flows : free_of s.store x + (moved b x + undone s b x) + paid_in s b x ≤ 68719476735 + (moved b x + newly b x)
      flows = omega (arith, traded_sum s b so clean x, sold_most, paid_within s b so clean x in8 f, within)

      pub enough : (n : ℕ) → outgoing s b n x ≤ balance_at s.store n x + incoming s b n x
      enough n =
          elim (cases_lt (balance_at s.store n x + incoming s b n x) (outgoing s b n x)) [
            | inl p ↦ absurd (clean _ (faulty s b overdrawn n x (in8, p)))
            | inr p ↦ p
          ]

      -- all that goes out is at most what was there and came in
      covered : moved b x + newly b x ≤ free_of s.store x + (moved b x + undone s b x)
      covered =
          omega (
            arith,
            outs,
            ins,
            olds,
            sum_by_plus (λ a. balance_at s.store a.number x) (λ a. incoming s b a.number x) s.store.accounts,
            sum_by_grows (λ a. outgoing s b a.number x) (λ a. balance_at s.store a.number x + incoming s b a.number x) s.store.accounts
                (all_of _ (λ a. enough a.number) s.store.accounts),
          )

      pub paid_most : paid_in s b x ≤ 68719476735
      paid_most = omega (arith, flows, covered)

      pub volume_most : volume_of b x ≤ 68719476735
      volume_most = omega (arith, traded_sum s b so clean x, sold_most, within, covered)

      pub roomy : (n : ℕ) → 0 < standing s.store n
          → balance_at s.store n x + incoming s b n x + payout s b n x ≤ 68719476735 + outgoing s b n x
      roomy n h =
          let F : Account → ℕ = λ a. balance_at s.store a.number x + incoming s b a.number x + payout s b a.number x in
          let G : Account → ℕ = λ a. outgoing s b a.number x in
          let (a, m, p) = some_of (λ a. cond (same (name a) (n ∷ [])) 1 0) s.store.accounts h in
          let q : same (name a) (n ∷ []) ≡ true =
          elim (cases_Bool (same (name a) (n ∷ []))) [ inl y ↦ y | inr y ↦ absurd (omega (arith, p, if_false (same (name a) (n ∷ [])) 1 0 y)) ] in
          let ns : name a ≡ n ∷ [] = same_is (name a) (n ∷ []) q in
          let e : a.number ≡ n = cc in
          let d = sub_sum F G s.store.accounts (all_of _ (λ a. omega (arith, enough a.number)) s.store.accounts) in
          let one = member_le (λ a. F a - G a) s.store.accounts a m in
          let three = sum_by_plus (λ a. balance_at s.store a.number x + incoming s b a.number x) (λ a. payout s b a.number x) s.store.accounts in
          let two = sum_by_plus (λ a. balance_at s.store a.number x) (λ a. incoming s b a.number x) s.store.accounts in
          subst (λ k. balance_at s.store k x + incoming s b k x + payout s b k x ≤ 68719476735 + outgoing s b k x) e
          (omega (arith, d, one, three, two, outs, ins, payouts, olds, flows))
