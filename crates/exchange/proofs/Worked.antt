-- The worked cases on states and blocks. Assumes nothing.
use Rattle.std.proofs.Common.{◌≡◌, ℕ, zero, suc, ◌+◌, ◌<◌, ◌≤◌, true, false, ◌⊎◌, List, [], ◌∷◌, Some, None, sym, refl, ap, ◌∙◌, subst, inl, inr, arith, lit<, lit≤}
use Rattle.std.specs.List.{ContainsAt as Has, AllByRecursion}
use Rattle.std.proofs.lemmas.Bool.Decides.{nat_tests}
use Rattle.std.proofs.lemmas.Bool.{cases_eq, cases_Bool, true≢false}
use Rattle.std.proofs.ByRecursion.{all-has}
use Rattle.terms.specs.declared.Key.{Key}
use Rattle.terms.specs.declared.Transaction.{Transaction}
use Rattle.terms.specs.Order.{lower, same, under, words}
use Rattle.terms.specs.Holdings.{standing, floor_at, balance_at, amount_at}
use Rattle.blocks.specs.Readable.{Block}
use Rattle.exchange.specs.State.{State, no_counts, remainder}
use Rattle.exchange.specs.Trade.{created, paying, cancelled, incoming, outgoing, trading, sold, payout, left_over}
use Rattle.exchange.specs.Faults.{Cause, Bad, number, Verdict, fault, in_window, tag}
use Rattle.exchange.specs.Faults.Cause.{wrong_height, wrong_parent, uncleared, no_source, out_of_window, repeated, no_receiver, bad_account, no_offer, cancelled_twice, overdrawn, accounts_full, offers_full, excess_volume}
use Rattle.exchange.specs.Commit.{Committed, counted, one_passed}
use Rattle.exchange.specs.Cases.{start, after, trade, block, pay, offer, offers, key_of, numbered, after_numbered}
use Rattle.exchange.proofs.Digests.{digest_numbered, digest_committed}
use Rattle.terms.proofs.Order.{same_is, key_is}
use Rattle.exchange.proofs.Sums.{if_false}
use Rattle.exchange.proofs.Causes.{least}
use Rattle.exchange.proofs.Trades.{sold_within}

-- A block of payments and offers on the founded state, in which nothing is wrong up to 17, but perhaps 10.
record Plain (b : Block) : Type 0 where
  height : b.height ≡ 1
  parent : b.parent ≡ start.own.digest
  sources : AllByRecursion (λ t. 0 < standing start.store t.source) b.transactions
  window : AllByRecursion (λ t. in_window (floor_at start.store t.source) t.sequence ≡ true) b.transactions
  once : (i j : ℕ) → under tag (λ _. 1) b.transactions (i ∷ j ∷ []) ≤ 1
  receivers : AllByRecursion (λ t. AllByRecursion (λ p. 0 < standing start.store p.receiver) (paying t)) b.transactions
  uncreated : AllByRecursion (λ t. created t ≡ []) b.transactions
  uncancelled : AllByRecursion (λ t. cancelled t ≡ []) b.transactions

not_in_empty : {X : Type 0} (x : X) → Has [] x → ⊥
not_in_empty x (k, l, _) = omega arith

module _ (b : Block) (h : Plain b) (cleared : (k l : ℕ) → Bad start b uncleared k l → ⊥) where
  none : (d : Cause) → number d < 18 → (k l : ℕ) → Bad start b d k l → ⊥
  none wrong_height n k l (p, _, _) = p h.height
  none wrong_parent n k l (p, _, _) = p h.parent
  none uncleared n k l p = cleared k l p
  none no_source n k l (t, (m, e, f), p) =
      omega (arith, subst (λ i. standing start.store i ≡ 0) (sym e) p, all-has _ b.transactions t h.sources m)
  none out_of_window n k l (t, (m, e, f), p) =
      true≢false (sym (all-has _ b.transactions t h.window m)
      ∙ (λ i. in_window (floor_at start.store (e i)) (f i)) ∙ p)
  none repeated n k l p = omega (arith, h.once k l)
  none no_receiver n k l (t, (m, e, f), (p, q, r)) =
      omega (arith, r, all-has (λ z. 0 < standing start.store z.receiver) (paying t) p (all-has _ b.transactions t h.receivers m) q)
  none bad_account n k l (t, (m, e, f), (a, q, r)) = not_in_empty a (subst (λ z. Has z a) (all-has _ b.transactions t h.uncreated m) q)
  none no_offer n k l (t, (m, e, f), (j, q, r)) = not_in_empty j (subst (λ z. Has z j) (all-has _ b.transactions t h.uncancelled m) q)
  none cancelled_twice n k l (t, (m, e, f), (j, q, r)) = not_in_empty j (subst (λ z. Has z j) (all-has _ b.transactions t h.uncancelled m) q)
  none overdrawn n k l p = omega arith
  none accounts_full n k l p = omega arith
  none offers_full n k l p = omega arith
  none excess_volume n k l p = omega arith

  -- nor after 17
  clean : ((k l : ℕ) → Bad start b overdrawn k l → ⊥) → ((k l : ℕ) → Bad start b accounts_full k l → ⊥)
      → ((k l : ℕ) → Bad start b offers_full k l → ⊥) → ((k l : ℕ) → Bad start b excess_volume k l → ⊥)
      → Verdict start b None
  clean p q r v f (wrong_height, e, x) = none wrong_height (lit< tt) f.first f.second x
  clean p q r v f (wrong_parent, e, x) = none wrong_parent (lit< tt) f.first f.second x
  clean p q r v f (uncleared, e, x) = none uncleared (lit< tt) f.first f.second x
  clean p q r v f (no_source, e, x) = none no_source (lit< tt) f.first f.second x
  clean p q r v f (out_of_window, e, x) = none out_of_window (lit< tt) f.first f.second x
  clean p q r v f (repeated, e, x) = none repeated (lit< tt) f.first f.second x
  clean p q r v f (no_receiver, e, x) = none no_receiver (lit< tt) f.first f.second x
  clean p q r v f (bad_account, e, x) = none bad_account (lit< tt) f.first f.second x
  clean p q r v f (no_offer, e, x) = none no_offer (lit< tt) f.first f.second x
  clean p q r v f (cancelled_twice, e, x) = none cancelled_twice (lit< tt) f.first f.second x
  clean p q r v f (overdrawn, e, x) = p f.first f.second x
  clean p q r v f (accounts_full, e, x) = q f.first f.second x
  clean p q r v f (offers_full, e, x) = r f.first f.second x
  clean p q r v f (excess_volume, e, x) = v f.first f.second x

-- the volumes

before_10 : (b : Block) → b.height ≡ 1 → b.parent ≡ start.own.digest → (d : Cause) → number d < 10 → (k l : ℕ) → Bad start b d k l → ⊥
before_10 b x y wrong_height h k l (p, _, _) = p x
before_10 b x y wrong_parent h k l (p, _, _) = p y
before_10 b x y uncleared h k l p = omega arith
before_10 b x y no_source h k l p = omega arith
before_10 b x y out_of_window h k l p = omega arith
before_10 b x y repeated h k l p = omega arith
before_10 b x y no_receiver h k l p = omega arith
before_10 b x y bad_account h k l p = omega arith
before_10 b x y no_offer h k l p = omega arith
before_10 b x y cancelled_twice h k l p = omega arith
before_10 b x y overdrawn h k l p = omega arith
before_10 b x y accounts_full h k l p = omega arith
before_10 b x y offers_full h k l p = omega arith
before_10 b x y excess_volume h k l p = omega arith

pub too_little : Verdict start (trade 100 149) (Some (fault 10 1 0))
too_little = least start (trade 100 149) uncleared 1 0 (lit< tt, lit< tt, refl) (before_10 (trade 100 149) refl refl) here
  where
    here : (k l : ℕ) → Bad start (trade 100 149) uncleared k l → lower (k ∷ l ∷ []) (1 ∷ 0 ∷ []) ≡ false
    here zero l (p, q, r) = absurd (omega arith)
    here (suc k) l (p, q, r) = grind (arith, nat_tests)

pub too_much : Verdict start (trade 100 151) (Some (fault 10 0 0))
too_much = least start (trade 100 151) uncleared 0 0 (lit< tt, lit< tt, refl) (before_10 (trade 100 151) refl refl) (λ k l p. grind (arith, nat_tests))

-- the payments

uncleared_none : (ts : List Transaction) (k l : ℕ) → Bad start (block [] ts) uncleared k l → ⊥
uncleared_none ts k l (p, q, r) = omega arith

abbrev twice_600 : List Transaction
twice_600 = pay 1 1 2 0 600 ∷ pay 1 2 2 0 600 ∷ []

plain_600 : Plain (block [] twice_600)
plain_600 = record {
  height = refl;
  parent = refl;
  sources = (lit< tt, (lit< tt, tt));
  window = (refl, (refl, tt));
  once = λ i j. grind (arith, nat_tests);
  receivers = ((lit< tt, tt), ((lit< tt, tt), tt));
  uncreated = (refl, (refl, tt));
  uncancelled = (refl, (refl, tt));
}

pub overspent : Verdict start (block [] twice_600) (Some (fault 18 1 0))
overspent = least start (block [] twice_600) overdrawn 1 0 (lit< tt, lit< tt) (none (block [] twice_600) plain_600 (uncleared_none twice_600)) here
  where
    here : (k l : ℕ) → Bad start (block [] twice_600) overdrawn k l → lower (k ∷ l ∷ []) (1 ∷ 0 ∷ []) ≡ false
    here zero l (p, q) = absurd (omega arith)
    here (suc k) l (p, q) = grind (arith, nat_tests)

-- each other, of asset 5: so much from account 2
abbrev exchanged : ℕ → List Transaction
exchanged n = pay 1 1 2 5 100 ∷ pay 2 1 1 5 n ∷ []

plain_exchanged : (n : ℕ) → Plain (block [] (exchanged n))
plain_exchanged n = record {
  height = refl;
  parent = refl;
  sources = (lit< tt, (lit< tt, tt));
  window = (refl, (refl, tt));
  once = λ i j. grind (arith, nat_tests);
  receivers = ((lit< tt, tt), ((lit< tt, tt), tt));
  uncreated = (refl, (refl, tt));
  uncancelled = (refl, (refl, tt));
}

pub even : Verdict start (block [] (exchanged 100)) None
even =
    clean (block [] (exchanged 100)) (plain_exchanged 100) (uncleared_none (exchanged 100))
    (λ k l (p, q). omega arith) (λ k l (p, q, r). omega arith) (λ k l (p, q, r). omega arith) (λ k l p. omega arith)

pub uneven : Verdict start (block [] (exchanged 99)) (Some (fault 18 1 5))
uneven = least start (block [] (exchanged 99)) overdrawn 1 5 (lit< tt, lit< tt) (none (block [] (exchanged 99)) (plain_exchanged 99) (uncleared_none (exchanged 99))) here
  where
    here : (k l : ℕ) → Bad start (block [] (exchanged 99)) overdrawn k l → lower (k ∷ l ∷ []) (1 ∷ 5 ∷ []) ≡ false
    here k l (p, q) = grind (arith, nat_tests)

-- numbers 7 and 3

plain_numbered : Plain numbered
plain_numbered = record {
  height = refl;
  parent = refl;
  sources = (lit< tt, (lit< tt, tt));
  window = (refl, (refl, tt));
  once = λ i j. grind (arith, nat_tests);
  receivers = ((lit< tt, tt), ((lit< tt, tt), tt));
  uncreated = (refl, (refl, tt));
  uncancelled = (refl, (refl, tt));
}

abbrev Covers : Block → ℕ → ℕ → Type 0
Covers b k l = balance_at start.store k l + incoming start b k l < outgoing start b k l → ⊥

covers_numbered : (k l : ℕ) → Covers numbered k l
covers_numbered k zero q = grind (arith, nat_tests)
covers_numbered k (suc l) q = grind (arith, nat_tests)

pub numbers_good : Verdict start numbered None
numbers_good =
    clean numbered plain_numbered (uncleared_none numbered.transactions)
    (λ k l (p, q). covers_numbered k l q) (λ k l (p, q, r). omega arith) (λ k l (p, q, r). omega arith) (λ k l p. omega arith)

-- nets and payouts reach the balances
abbrev Moves : State → Block → State → ℕ → ℕ → Type 0
Moves s b t n x = balance_at t.store n x + outgoing s b n x ≡ balance_at s.store n x + incoming s b n x + payout s b n x

numbered_0 : (n : ℕ) → Moves start numbered after_numbered n 0
numbered_0 n = grind (arith, nat_tests)

numbered_1 : (n x : ℕ) → Moves start numbered after_numbered n (suc x)
numbered_1 n x = grind (arith, nat_tests)

pub numbers_used : Committed start numbered after_numbered
numbers_used = record {
  ordered = record { accounts = ((refl, (refl, tt)), ((refl, tt), (tt, tt))); offers = tt; eight = (refl, (refl, (refl, tt))); some = tt; remainders = refl };
  capacities = record { accounts = refl; top = refl; offers = refl };
  stand = λ n. omega arith;
  used = λ x m. all-has (λ x. x.sequence ≤ floor_at after_numbered.store x.source) numbered.transactions x (lit≤ tt, (lit≤ tt, tt)) m;
  last = last;
  balances = balances;
  amounts = λ k. omega (arith, sold_within start numbered k);
  remain = remain;
  height = refl;
  digest = digest_numbered;
  founded = refl;
  counts = refl;
}
  where
    balances : (n x : ℕ) → x < 8 → Moves start numbered after_numbered n x
    balances n zero l = numbered_0 n
    balances n (suc x) l = numbered_1 n x

    last : (n : ℕ)
        → ((floor_at after_numbered.store n ≡ floor_at start.store n) × ((x : Transaction) → Has numbered.transactions x → x.source ≡ n → ⊥))
        ⊎ ((x : Transaction) × Has numbered.transactions x × (x.source ≡ n) × (floor_at after_numbered.store n ≡ x.sequence))
    last n =
        elim (cases_eq n 1) [
          | inl e ↦ inr (pay 1 7 2 0 10, (0, lit< tt, λ d. refl), sym e, ap (floor_at after_numbered.store) e)
          | inr a ↦ inl (grind (arith, nat_tests), λ x m e. all-has (λ x. x.source ≡ n → ⊥) numbered.transactions x ((λ e. a (sym e)), ((λ e. a (sym e)), tt)) m e)
        ]

    remain : (x : ℕ) → x < 8 → remainder after_numbered x ≡ remainder start x + left_over start numbered x
    remain x l = omega arith

-- the whole block

plain_trade : Plain (trade 100 150)
plain_trade = record {
  height = refl;
  parent = refl;
  sources = (lit< tt, (lit< tt, (lit< tt, tt)));
  window = (refl, (refl, (refl, tt)));
  once = λ i j. grind (arith, nat_tests);
  receivers = (tt, (tt, (tt, tt)));
  uncreated = (refl, (refl, (refl, tt)));
  uncancelled = (refl, (refl, (refl, tt)));
}

cleared : (k l : ℕ) → Bad start (trade 100 150) uncleared k l → ⊥
cleared k l (p, q, r) = grind (arith, nat_tests)

covers_trade : (k l : ℕ) → Covers (trade 100 150) k l
covers_trade k zero q = grind (arith, nat_tests)
covers_trade k (suc zero) q = grind (arith, nat_tests)
covers_trade k (suc (suc l)) q = grind (arith, nat_tests)

pub trade_good : Verdict start (trade 100 150) None
trade_good =
    clean (trade 100 150) plain_trade cleared
    (λ k l (p, q). covers_trade k l q) (λ k l (p, q, r). omega arith) (λ k l (p, q, r). omega arith) (λ k l p. grind (arith, nat_tests))

-- after its check
abbrev pub checked_start : State
checked_start = counted start (one_passed no_counts)

abbrev Fits : Key → Type 0
Fits j = amount_at after.book.offers j + sold start (trade 100 150) j ≡ amount_at (trading start (trade 100 150)) j

moves_0 : (n : ℕ) → Moves start (trade 100 150) after n 0
moves_0 n = grind (arith, nat_tests)

moves_1 : (n : ℕ) → Moves start (trade 100 150) after n 1
moves_1 n = grind (arith, nat_tests)

moves_2 : (n x : ℕ) → Moves start (trade 100 150) after n (suc (suc x))
moves_2 n x = grind (arith, nat_tests)

pub committed : Committed checked_start (trade 100 150) after
committed = record {
  ordered = record { accounts = ((refl, (refl, tt)), ((refl, tt), (tt, tt))); offers = ((refl, tt), (tt, tt)); eight = (refl, (refl, (refl, tt))); some = (lit< tt, (lit< tt, tt)); remainders = refl };
  capacities = record { accounts = refl; top = refl; offers = refl };
  stand = λ n. omega arith;
  used = λ x m. all-has (λ x. x.sequence ≤ floor_at after.store x.source) offers x (lit≤ tt, (lit≤ tt, (lit≤ tt, tt))) m;
  last = last;
  balances = balances;
  amounts = amounts;
  remain = remain;
  height = refl;
  digest = digest_committed;
  founded = refl;
  counts = refl;
}
  where
    balances : (n x : ℕ) → x < 8 → Moves start (trade 100 150) after n x
    balances n zero l = moves_0 n
    balances n (suc zero) l = moves_1 n
    balances n (suc (suc x)) l = moves_2 n x

    last : (n : ℕ) → ((floor_at after.store n ≡ floor_at start.store n) × ((x : Transaction) → Has offers x → x.source ≡ n → ⊥))
        ⊎ ((x : Transaction) × Has offers x × (x.source ≡ n) × (floor_at after.store n ≡ x.sequence))
    last n =
        elim (cases_eq n 1) [
          | inl e ↦ inr (offer 1 0 1 98304 40, (0, lit< tt, λ d. refl), sym e, ap (floor_at after.store) e)
          | inr a ↦
              elim (cases_eq n 2) [
                | inl e ↦ inr (offer 2 1 0 32768 200, (2, lit< tt, λ d. refl), sym e, ap (floor_at after.store) e)
                | inr b ↦
                    elim (cases_eq n 3) [
                      | inl e ↦ inr (offer 3 0 1 65536 67, (1, lit< tt, λ d. refl), sym e, ap (floor_at after.store) e)
                      | inr c ↦
                          inl (grind (arith, nat_tests), λ x m e. all-has (λ x. x.source ≡ n → ⊥) offers x ((λ e. a (sym e)), ((λ e. c (sym e)), ((λ e. b (sym e)), tt))) m e)
                    ]
              ]
        ]

    amounts : (k : Key) → amount_at after.book.offers k + sold start (trade 100 150) k ≡ amount_at (trading start (trade 100 150)) k
    amounts k =
        elim (cases_Bool (same (words (key_of 0 1 98304 1)) (words k))) [
          | inl e ↦ subst Fits (key_is (key_of 0 1 98304 1) k (same_is _ (words k) e)) refl
          | inr a ↦
              elim (cases_Bool (same (words (key_of 0 1 65536 3)) (words k))) [
                | inl e ↦ subst Fits (key_is (key_of 0 1 65536 3) k (same_is _ (words k) e)) refl
                | inr b ↦
                    elim (cases_Bool (same (words (key_of 1 0 32768 2)) (words k))) [
                      | inl e ↦ subst Fits (key_is (key_of 1 0 32768 2) k (same_is _ (words k) e)) refl
                      | inr c ↦
                          let none : amount_at (trading start (trade 100 150)) k ≡ 0 =
                          omega (arith, if_false _ 40 0 a, if_false _ 67 0 b, if_false _ 200 0 c) in
                          omega (arith, none, sold_within start (trade 100 150) k, if_false _ 7 0 a, if_false _ 50 0 c)
                    ]
              ]
        ]

    remain : (x : ℕ) → x < 8 → remainder after x ≡ remainder start x + left_over start (trade 100 150) x
    remain zero l = refl
    remain (suc zero) l = refl
    remain (suc (suc x)) l = grind (arith, nat_tests)
