-- A founding makes a sound state, and a commit keeps it sound: ranges last, and there is room. Assumes nothing.
use Rattle.std.proofs.Common.{◌≡◌, ℕ, ◌+◌, ◌*◌, ◌<◌, ◌≤◌, Bool, true, cond, eqb, leb, List, [], ◌∷◌, length, get_or, None, sum_by, count_by, filter, sym, refl, ap, ◌∙◌, subst, subst₂, inl, inr, arith}
use Rattle.std.specs.List.{ContainsAt as Has, AllByRecursion}
use Rattle.std.proofs.lemmas.List.{length-append}
use Rattle.std.proofs.lemmas.Bool.{cases_Bool, cases_lt, cases_eq, and_parts, and_from, ltb-true, leb-true, lt-ltb, le-leb, eqb-true, eq-eqb}
use Rattle.std.proofs.ByRecursion.{All-weaker, All-append, all_kept_by, all-has, All-from_get_or}
use Rattle.terms.specs.declared.Account.{Account}
use Rattle.terms.specs.declared.Key.{Key}
use Rattle.terms.specs.declared.Offer.{Offer}
use Rattle.terms.specs.declared.Action.{Action}
use Rattle.terms.specs.declared.Action.TheVariants.{Create, Pay, Place, Cancel}
use Rattle.terms.specs.declared.Transaction.{Transaction}
use Rattle.terms.specs.declared.Grant.{Grant}
use Rattle.terms.specs.Order.{lower, Rising, same, under, name, words, place}
use Rattle.terms.specs.Ranges.{every, is_asset, is_balance, is_word, is_number, is_pair, fit_key, fit_offer, fit_action, fit_transaction, fit_grant, fit_account}
use Rattle.terms.specs.Holdings.{Store, Book, standing, floor_at, free_of, offered_of, rising, sound_store, sound_book}
use Rattle.blocks.specs.Readable.{Block}
use Rattle.blocks.proofs.Laws.{founds_fits}
use Rattle.exchange.specs.State.{State, Counts, remainder}
use Rattle.exchange.specs.Trade.{opens, places, created, placed, cancelled, creations, placements, cancellations, openings, cancels_of, trading}
use Rattle.exchange.specs.Faults.{fault, Verdict, FoundingVerdict, granted}
use Rattle.exchange.specs.Faults.Cause.{wrong_height, bad_account, no_offer, accounts_full, offers_full}
use Rattle.exchange.specs.Faults.Objection.{bad_grant, too_many_grants, excess_grants}
use Rattle.exchange.specs.Commit.{Ordered, Owned, Sound, Founded, Committed, counted}
use Rattle.exchange.specs.Claims.{SoundForLife}
use Rattle.terms.proofs.Order.{same_is}
use Rattle.exchange.proofs.Rising.{sum_by_same, sum_by_grows, sum_by_plus, all_of}
use Rattle.exchange.proofs.Sums.{if_true, if_false, all_joined, all_by_has, sum_by_joined, sum_by_kept, ones, member_le, some_of, under_gone, lookup, rising_one, rising_once}
use Rattle.exchange.proofs.Keyed.{and_only, by_keys}
use Rattle.exchange.proofs.Causes.{faulty}
use Rattle.exchange.proofs.Fit.{Fit, all_from}
use Rattle.exchange.proofs.Trades.{cancelled_once}
use Rattle.exchange.proofs.Ledger.{conserved, still_owned, from_traded, left}
use Rattle.exchange.proofs.Conserve.{founded_owned, founded_total, owned_counted, read_fits}
use Rattle.exchange.proofs.Running.{founded_keep}

-- tests over lists, the other way

every_from : {X : Type 0} (p : X → Bool) (xs : List X) → AllByRecursion (λ x. p x ≡ true) xs → every p xs ≡ true
every_from p [] a = refl
every_from p (x ∷ xs) a = and_from (p x) (every p xs) a.0 (every_from p xs a.1)

rising_to : {X : Type 0} (key : X → List ℕ) (xs : List X) → Rising key xs → rising key xs ≡ true
rising_to key [] r = refl
rising_to key (x ∷ xs) r = and_from _ _ (every_from (λ y. lower (key x) (key y)) xs r.0) (rising_to key xs r.1)

-- what a store and a book in range are known to have, and what makes them so

record StoreFacts (s : Store) : Type 0 where
  fit : AllByRecursion (λ a. fit_account s.top a ≡ true) s.accounts
  room : length s.accounts ≤ s.capacity
  bound : leb s.capacity 65536 ≡ true
  top : is_word s.top ≡ true

store_facts : (s : Store) → sound_store s ≡ true → StoreFacts s
store_facts s e =
    let (_, e₁) = and_parts (rising name s.accounts) _ e in
    let (f, e₂) = and_parts (every (fit_account s.top) s.accounts) _ e₁ in
    let (r, e₃) = and_parts (leb (length s.accounts) s.capacity) _ e₂ in
    let (b, t) = and_parts (leb s.capacity 65536) _ e₃ in
    record { fit = all_from (fit_account s.top) s.accounts f; room = leb-true _ _ r; bound = b; top = t }

store_sound : (s : Store) → Rising name s.accounts → StoreFacts s → sound_store s ≡ true
store_sound s r f =
    and_from _ _ (rising_to name s.accounts r) (and_from _ _ (every_from (fit_account s.top) s.accounts f.fit)
    (and_from _ _ (le-leb _ _ f.room) (and_from _ _ f.bound f.top)))

record BookFacts (k : Book) : Type 0 where
  fit : AllByRecursion (λ o. fit_offer o ≡ true) k.offers
  room : length k.offers ≤ k.capacity
  bound : leb k.capacity 65536 ≡ true

book_facts : (k : Book) → sound_book k ≡ true → BookFacts k
book_facts k e =
    let (_, e₁) = and_parts (rising place k.offers) _ e in
    let (f, e₂) = and_parts (every fit_offer k.offers) _ e₁ in
    let (r, b) = and_parts (leb (length k.offers) k.capacity) _ e₂ in
    record { fit = all_from fit_offer k.offers f; room = leb-true _ _ r; bound = b }

book_sound : (k : Book) → Rising place k.offers → BookFacts k → sound_book k ≡ true
book_sound k r f =
    and_from _ _ (rising_to place k.offers r) (and_from _ _ (every_from fit_offer k.offers f.fit) (and_from _ _ (le-leb _ _ f.room) f.bound))

-- the parts of an account in range

record AccountFacts (top : ℕ) (a : Account) : Type 0 where
  number : is_number a.number ≡ true
  below : leb a.number top ≡ true
  floor : is_word a.floor ≡ true

account_facts : (top : ℕ) (a : Account) → fit_account top a ≡ true → AccountFacts top a
account_facts top a e =
    let (n, e₁) = and_parts (is_number a.number) _ e in
    let (b, e₂) = and_parts (leb a.number top) _ e₁ in
    let (f, _) = and_parts (is_word a.floor) _ e₂ in
    record { number = n; below = b; floor = f }

account_fits : (top : ℕ) (a : Account) → AccountFacts top a → length a.balances ≡ 8 → ((x : ℕ) → x < 8 → get_or a.balances x 0 ≤ 68719476735)
    → fit_account top a ≡ true
account_fits top a f e h =
    and_from _ _ f.number (and_from _ _ f.below (and_from _ _ f.floor (and_from _ _ (eq-eqb _ _ e) (every_from is_balance a.balances small))))
  where
    small : AllByRecursion (λ v. is_balance v ≡ true) a.balances
    small = All-from_get_or _ a.balances 0 (λ i l. lt-ltb _ _ (omega (arith, h i (subst (λ n. i < n) e l))))

-- what a transaction in range asks for is in range

opens_fit : (a : Action) → fit_action a ≡ true → AllByRecursion (λ n. is_number n ≡ true) (opens a)
opens_fit (Create n) e = (e, tt)
opens_fit (Pay r x n) e = tt
opens_fit (Place x y l n) e = tt
opens_fit (Cancel x y l q) e = tt

places_fit : (n q : ℕ) (a : Action) → is_number n ≡ true → is_word q ≡ true → fit_action a ≡ true → AllByRecursion (λ o. fit_key o.key ≡ true) (places n q a)
places_fit n q (Create m) s w e = tt
places_fit n q (Pay r x m) s w e = tt
places_fit n q (Place x y l m) s w e =
    let (p, e₁) = and_parts (is_pair x y) _ e in
    let (k, _) = and_parts (is_number l) _ e₁ in
    (and_from _ _ p (and_from _ _ k (and_from _ _ s w)), tt)
places_fit n q (Cancel x y l p) s w e = tt

record TransactionFacts (t : Transaction) : Type 0 where
  source : is_number t.source ≡ true
  sequence : is_word t.sequence ≡ true
  action : fit_action t.action ≡ true

transaction_facts : (t : Transaction) → fit_transaction t ≡ true → TransactionFacts t
transaction_facts t e =
    let (s, e₁) = and_parts (is_number t.source) _ e in
    let (q, a) = and_parts (is_word t.sequence) _ e₁ in
    record { source = s; sequence = q; action = a }

-- what stands under a key

same_true : (k l : List ℕ) (v : ℕ) → 0 < cond (same k l) v 0 → k ≡ l
same_true k l v h =
    elim (cases_Bool (same k l)) [ inl e ↦ same_is k l e | inr e ↦ absurd (omega (arith, h, if_false (same k l) v 0 e)) ]

standing_has : (s : Store) (n : ℕ) → 0 < standing s n → (a : Account) × Has s.accounts a × (a.number ≡ n)
standing_has s n h =
    let (a, m, p) = some_of (λ a. cond (same (name a) (n ∷ [])) 1 0) s.accounts h in
    let e : name a ≡ n ∷ [] = same_true (name a) (n ∷ []) 1 p in
    (a, m, cc)

eqb_some : (m n : ℕ) → 0 < cond (eqb m n) 1 0 → m ≡ n
eqb_some m n h =
    elim (cases_Bool (eqb m n)) [ inl e ↦ eqb-true m n e | inr e ↦ absurd (omega (arith, h, if_false (eqb m n) 1 0 e)) ]

opening_has : (b : Block) (n : ℕ) → 0 < openings b n → (t : Transaction) × Has b.transactions t × Has (created t) n
opening_has b n h =
    let f : ℕ → ℕ = λ m. cond (eqb m n) 1 0 in
    let (t, m, p) = some_of (λ t. sum_by f (created t)) b.transactions (omega (arith, sum_by_joined f created b.transactions)) in
    let (k, q, r) = some_of f (created t) p in
    (t, m, subst (Has (created t)) (eqb_some k n r) q)

-- keys of the ys met by a list that rises are at most the ys
meets : {X Y : Type 0} (key : X → List ℕ) (lock : Y → List ℕ) (xs : List X) (ys : List Y) → Rising key xs
    → sum_by (λ x. under lock (λ _. 1) ys (key x)) xs ≤ length ys
meets key lock xs ys r =
    omega (
      arith,
      by_keys lock key (λ _. true) (λ _. true) (λ _ _ _. refl) (λ _. 1) ys xs,
      ones ys,
      sum_by_grows (λ y. cond true 1 0 * under key (λ _. 1) xs (lock y)) (λ _. 1) ys
          (all_of _ (λ y. omega (arith, rising_one key xs r (lock y))) ys),
    )

-- an account's balance is at most all there is
balance_le : (s : State) (a : Account) → Has s.store.accounts a → (x : ℕ) → get_or a.balances x 0 ≤ free_of s.store x
balance_le s a h x = member_le (λ z. get_or z.balances x 0) s.store.accounts a h

-- the accounts of a state in order are in range, where their numbers and floors are, and assets do not exceed the largest amount
all_fit : (t : State) → Ordered t → ((x : ℕ) → x < 8 → free_of t.store x ≤ 68719476735)
    → ((n : ℕ) → 0 < standing t.store n → (is_number n ≡ true) × (leb n t.store.top ≡ true))
    → ((n : ℕ) → floor_at t.store n < 4294967296)
    → AllByRecursion (λ a. fit_account t.store.top a ≡ true) t.store.accounts
all_fit t o free named floors = all_by_has _ t.store.accounts go
  where
    once : (f : Account → ℕ) (a : Account) → Has t.store.accounts a → under name f t.store.accounts (name a) ≡ f a
    once f a m = all-has _ t.store.accounts a (lookup name f t.store.accounts (rising_once name t.store.accounts o.accounts)) m

    go : (a : Account) → Has t.store.accounts a → fit_account t.store.top a ≡ true
    go a m =
        let n = named a.number (omega (arith, once (λ _. 1) a m)) in
        account_fits t.store.top a
        (record { number = n.0; below = n.1; floor = lt-ltb _ _ (omega (arith, floors a.number, once (λ z. z.floor) a m)) })
        (all-has _ t.store.accounts a o.eight m) (λ x l. omega (arith, balance_le t a m x, free x l))

module _ (s : State) (b : Block) (so : Sound s) (clean : Verdict s b None) (fit : Fit b) (t : State) (c : Committed s b t) where
  owned : Owned s
  owned = so.owned

  facts : AllByRecursion TransactionFacts b.transactions
  facts = All-weaker _ _ transaction_facts b.transactions fit.transactions

  old : StoreFacts s.store
  old = store_facts s.store so.store

  total : (x : ℕ) → x < 8 → free_of t.store x + offered_of t.book x + remainder t x ≤ 68719476735
  total x l = omega (arith, conserved s b owned clean t c x l fit, so.total x l)

  -- the accounts

  named : (n : ℕ) → 0 < standing t.store n → (is_number n ≡ true) × (leb n t.store.top ≡ true)
  named n h =
      elim (cases_lt 0 (standing s.store n)) [
        | inl p ↦
            let (a, m, e) = standing_has s.store n p in
            let f = account_facts s.store.top a (all-has _ s.store.accounts a old.fit m) in
            (subst (λ k. is_number k ≡ true) e f.number, subst₂ (λ k v. leb k v ≡ true) e (sym c.capacities.top) f.below)
        | inr p ↦
            let (u, m, q) = opening_has b n (omega (arith, h, c.stand n)) in (
              all-has _ (created u) n (opens_fit u.action (all-has _ b.transactions u facts m).action) q,
              elim (cases_lt s.store.top n) [
                | inl r ↦ absurd (clean _ (faulty s b bad_account u.source u.sequence (u, (m, refl, refl), (n, q, inr (inl r)))))
                | inr r ↦ le-leb _ _ (omega (arith, r, c.capacities.top))
              ],
            )
      ]

  old_floor : (n : ℕ) → floor_at s.store n < 4294967296
  old_floor n =
      elim (cases_lt 0 (standing s.store n)) [
        | inl p ↦
            let (a, m, e) = standing_has s.store n p in
            let f = account_facts s.store.top a (all-has _ s.store.accounts a old.fit m) in
            let l = all-has _ s.store.accounts a (lookup name (λ z. z.floor) s.store.accounts (rising_once name s.store.accounts owned.ordered.accounts)) m in
            subst (λ k. floor_at s.store k < 4294967296) e (omega (arith, l, ltb-true _ _ f.floor))
        | inr p ↦ omega (arith, under_gone name (λ z. z.floor) s.store.accounts (n ∷ []) (omega arith))
      ]

  new_floor : (n : ℕ) → floor_at t.store n < 4294967296
  new_floor n =
      elim (c.last n) [
        | inl (e, _) ↦ omega (arith, e, old_floor n)
        | inr (u, m, k, e) ↦ omega (arith, e, ltb-true _ _ (all-has _ b.transactions u facts m).sequence)
      ]

  accounts_fit : AllByRecursion (λ a. fit_account t.store.top a ≡ true) t.store.accounts
  accounts_fit = all_fit t c.ordered (λ x l. omega (arith, total x l)) named new_floor

  accounts_room : length t.store.accounts ≤ t.store.capacity
  accounts_room =
      elim (cases_lt s.store.capacity (length s.store.accounts + length (creations b))) [
        | inl p ↦ absurd (clean _ (faulty s b accounts_full 0 0 (p, refl, refl)))
        | inr p ↦ omega (arith, p, counted_by, c.capacities.accounts)
      ]
    where
      one : (n : ℕ) → openings b n ≡ under (λ m. m ∷ []) (λ _. 1) (creations b) (n ∷ [])
      one n = sum_by_same _ _ (creations b) (all_of _ (λ m. ap (λ p. cond p 1 0) (and_only (eqb m n))) (creations b))

      counted_by : length t.store.accounts ≤ length s.store.accounts + length (creations b)
      counted_by =
          omega (
            arith,
            ones t.store.accounts,
            sum_by_same _ (λ a. standing t.store a.number) t.store.accounts
                (All-weaker _ _ (λ a e. sym e) t.store.accounts (lookup name (λ _. 1) t.store.accounts (rising_once name t.store.accounts c.ordered.accounts))),
            sum_by_same (λ a. standing t.store a.number) (λ a. standing s.store a.number + under (λ m. m ∷ []) (λ _. 1) (creations b) (a.number ∷ [])) t.store.accounts
                (all_of _ (λ a. c.stand a.number ∙ ap (λ n. standing s.store a.number + n) (one a.number)) t.store.accounts),
            sum_by_plus (λ a. standing s.store a.number) (λ a. under (λ m. m ∷ []) (λ _. 1) (creations b) (a.number ∷ [])) t.store.accounts,
            meets name name t.store.accounts s.store.accounts c.ordered.accounts,
            meets name (λ m. m ∷ []) t.store.accounts (creations b) c.ordered.accounts,
          )

  -- the offers

  keys_fit : AllByRecursion (λ o. fit_key o.key ≡ true) t.book.offers
  keys_fit =
      from_traded s b owned clean t c (λ k. fit_key k ≡ true)
      (All-append _ _ (placements b)
      (all_kept_by _ _ s.book.offers (All-weaker _ _ (λ o e. (and_parts (fit_key o.key) _ e).0) s.book.offers (book_facts s.book so.book).fit))
      (all_joined _ placed b.transactions
      (All-weaker _ _ (λ u f. places_fit u.source u.sequence u.action f.source f.sequence f.action) b.transactions facts)))

  offers_fit : AllByRecursion (λ o. fit_offer o ≡ true) t.book.offers
  offers_fit = all_by_has _ t.book.offers go
    where
      go : (o : Offer) → Has t.book.offers o → fit_offer o ≡ true
      go o m =
          let k = all-has _ t.book.offers o keys_fit m in
          let x : o.key.sold < 8 = ltb-true _ _ (and_parts (is_asset o.key.sold) _ (and_parts (is_pair o.key.sold o.key.bought) _ k).0).0 in
          let few : o.amount < 68719476736 =
          omega (
            arith,
            member_le (λ z. cond (eqb z.key.sold o.key.sold) z.amount 0) t.book.offers o m,
            if_true _ o.amount 0 (eq-eqb o.key.sold o.key.sold refl),
            total o.key.sold x,
          ) in
          and_from _ _ k (and_from _ _ (lt-ltb _ _ (all-has _ t.book.offers o c.ordered.some m)) (lt-ltb _ _ few))

  offers_room : length t.book.offers ≤ t.book.capacity
  offers_room =
      elim (cases_lt (s.book.capacity + length (cancellations b)) (length s.book.offers + length (placements b))) [
        | inl p ↦ absurd (clean _ (faulty s b offers_full 0 0 (p, refl, refl)))
        | inr p ↦ omega (arith, p, traded, stay, length-append kept (placements b), c.capacities.offers)
      ]
    where
      kept : List Offer
      kept = filter (λ o. eqb (cancels_of b o.key) 0) s.book.offers

      traded : length t.book.offers ≤ length (trading s b)
      traded =
          omega (
            arith,
            ones t.book.offers,
            meets place place t.book.offers (trading s b) c.ordered.offers,
            sum_by_same (λ _. 1) (λ o. under place (λ _. 1) (trading s b) (place o)) t.book.offers
                (All-weaker _ _ (λ o e. sym e) t.book.offers (left s b owned clean t c 0 (omega arith))),
          )

      -- each cancelled key stands
      stands : AllByRecursion (λ k. 1 ≤ under place (λ _. 1) s.book.offers (words k)) (cancellations b)
      stands = all_joined _ cancelled b.transactions (all_by_has _ b.transactions (λ u m. all_by_has _ (cancelled u) (go u m)))
        where
          go : (u : Transaction) → Has b.transactions u → (k : Key) → Has (cancelled u) k → 1 ≤ under place (λ _. 1) s.book.offers (words k)
          go u m k h =
              elim (cases_lt 0 (under place (λ _. 1) s.book.offers (words k))) [
                | inl p ↦ p
                | inr p ↦ absurd (clean _ (faulty s b no_offer u.source u.sequence (u, (m, refl, refl), (k, h, under_gone place (λ o. o.amount) s.book.offers (words k) (omega arith)))))
              ]

      stay : length kept + length (cancellations b) ≤ length s.book.offers
      stay =
          omega (
            arith,
            ones kept,
            sum_by_kept (λ o. eqb (cancels_of b o.key) 0) (λ _. 1) s.book.offers,
            ones (cancellations b),
            sum_by_grows (λ _. 1) (λ k. under place (λ _. 1) s.book.offers (words k)) (cancellations b) stands,
            by_keys place words (λ _. true) (λ _. true) (λ _ _ _. refl) (λ _. 1) s.book.offers (cancellations b),
            sum_by_plus (λ o. cond (eqb (cancels_of b o.key) 0) 1 0) (λ o. cond true 1 0 * under words (λ _. 1) (cancellations b) (place o)) s.book.offers,
            sum_by_grows (λ o. cond (eqb (cancels_of b o.key) 0) 1 0 + cond true 1 0 * under words (λ _. 1) (cancellations b) (place o)) (λ _. 1) s.book.offers
                (all_of _ once s.book.offers),
            ones s.book.offers,
          )
        where
          once : (o : Offer) → cond (eqb (cancels_of b o.key) 0) 1 0 + cond true 1 0 * under words (λ _. 1) (cancellations b) (place o) ≤ 1
          once o =
              elim (cases_Bool (eqb (cancels_of b o.key) 0)) [
                | inl e ↦ omega (arith, if_true (eqb (cancels_of b o.key) 0) 1 0 e, eqb-true (cancels_of b o.key) 0 e)
                | inr e ↦ omega (arith, if_false (eqb (cancels_of b o.key) 0) 1 0 e, cancelled_once s b owned clean o.key)
              ]

  height : is_word t.own.height ≡ true
  height =
      elim (cases_eq b.height (s.own.height + 1)) [
        | inl e ↦ subst (λ n. is_word n ≡ true) (e ∙ sym c.height) fit.height
        | inr n ↦ absurd (clean _ (faulty s b wrong_height b.height s.own.height (n, refl, refl)))
      ]

  pub still_sound : Sound t
  still_sound = record {
    owned = still_owned s b owned clean t c;
    store = store_sound t.store c.ordered.accounts (record {
      fit = accounts_fit;
      room = accounts_room;
      bound = subst (λ n. leb n 65536 ≡ true) (sym c.capacities.accounts) old.bound;
      top = subst (λ n. is_word n ≡ true) (sym c.capacities.top) old.top;
    });
    book = book_sound t.book c.ordered.offers (record {
      fit = offers_fit;
      room = offers_room;
      bound = subst (λ n. leb n 65536 ≡ true) (sym c.capacities.offers) (book_facts s.book so.book).bound;
    });
    total = total;
    height = height;
    digest = c.digest;
  }

-- at the founding

granted_number : (g : Grant) → fit_grant g ≡ true → is_number g.account ≡ true
granted_number g e = (and_parts (is_number g.account) _ e).0

module _ (s : State) (gs : List Grant) (fit : AllByRecursion (λ g. fit_grant g ≡ true) gs) (clean : FoundingVerdict s.store gs None)
    (st : sound_store s.store ≡ true) (bk : sound_book s.book ≡ true) (t : State) (w : Founded s gs t) where
  founding_total : (x : ℕ) → x < 8 → free_of t.store x + offered_of t.book x + remainder t x ≤ 68719476735
  founding_total x l =
      elim (cases_lt 68719476735 (granted gs x)) [
        | inl p ↦ absurd (clean (fault 23 x 0) (excess_grants, refl, (l, p, refl)))
        | inr p ↦ omega (arith, p, founded_total s gs t w x l)
      ]

  grantee : (n : ℕ) → 0 < standing t.store n → (is_number n ≡ true) × (leb n t.store.top ≡ true)
  grantee n h =
      let (g, m, p) = some_of (λ g. cond (eqb g.account n) 1 0) gs (omega (arith, h, w.stand n)) in
      let e : g.account ≡ n = eqb_some g.account n p in (
        subst (λ k. is_number k ≡ true) e (granted_number g (all-has _ gs g fit m)),
        elim (cases_lt s.store.top n) [
          | inl r ↦ absurd (clean (fault 15 n 0) (bad_grant, refl, (g, m, e, inl r, refl)))
          | inr r ↦ le-leb _ _ (omega (arith, r, w.capacities.top))
        ],
      )

  granted_fit : AllByRecursion (λ a. fit_account t.store.top a ≡ true) t.store.accounts
  granted_fit = all_fit t w.ordered (λ x l. omega (arith, founding_total x l)) grantee (λ n. omega (arith, w.unused n))

  granted_room : length t.store.accounts ≤ t.store.capacity
  granted_room =
      elim (cases_lt s.store.capacity (length gs)) [
        | inl p ↦ absurd (clean (fault 19 0 0) (too_many_grants, refl, (p, refl, refl)))
        | inr p ↦ omega (
          arith,
          p,
          w.capacities.accounts,
          ones t.store.accounts,
          meets name (λ g. g.account ∷ []) t.store.accounts gs w.ordered.accounts,
          sum_by_same (λ _. 1) (λ a. under (λ g. g.account ∷ []) (λ _. 1) gs (name a)) t.store.accounts
              (All-weaker _ _ (λ a e. sym e ∙ w.stand a.number ∙ one a.number) t.store.accounts
              (lookup name (λ _. 1) t.store.accounts (rising_once name t.store.accounts w.ordered.accounts))),
        )
      ]
    where
      one : (n : ℕ) → count_by (λ g. eqb g.account n) gs ≡ under (λ g. g.account ∷ []) (λ _. 1) gs (n ∷ [])
      one n = sum_by_same _ _ gs (all_of _ (λ g. ap (λ p. cond p 1 0) (and_only (eqb g.account n))) gs)

  pub founded_sound : Sound t
  founded_sound =
      let o = book_facts s.book bk in
      let f = store_facts s.store st in
      record {
        owned = founded_owned s gs t w;
        store = store_sound t.store w.ordered.accounts (record {
          fit = granted_fit;
          room = granted_room;
          bound = subst (λ n. leb n 65536 ≡ true) (sym w.capacities.accounts) f.bound;
          top = subst (λ n. is_word n ≡ true) (sym w.capacities.top) f.top;
        });
        book = book_sound t.book w.ordered.offers (record {
          fit = subst (AllByRecursion _) (sym w.none) tt;
          room = omega (arith, ap length w.none);
          bound = subst (λ n. leb n 65536 ≡ true) (sym w.capacities.offers) o.bound;
        });
        total = founding_total;
        height = lt-ltb _ _ (omega (arith, w.height));
        digest = w.digest;
      }

-- over a life

pub sound_counted : (s : State) (c : Counts) → Sound s → Sound (counted s c)
sound_counted s c h = record { owned = owned_counted s c h.owned; store = h.store; book = h.book; total = h.total; height = h.height; digest = h.digest }

pub sound_for_life : SoundForLife
sound_for_life st bk p q =
    founded_keep (λ s. (sound_store s.store ≡ true) × (sound_book s.book ≡ true)) (λ s _. Sound s) (λ s c h. h)
    (λ s c gs h. sound_counted s c h)
    (λ s bs gs t h f v w. founded_sound s gs (all_from fit_grant gs (and_parts (every fit_grant gs) _ (founds_fits bs gs f)).0) v h.0 h.1 t w)
    (λ s bs b t gs h r v c. still_sound s b h v (read_fits bs b r) t c)
    st bk (p, q)
