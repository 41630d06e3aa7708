-- A block without fault is cleared: nothing is refused, and what is left is what a commit leaves. Assumes nothing.
use Rattle.std.proofs.Common.{◌≡◌, ℕ, ◌+◌, ◌<◌, ◌≤◌, Bool, true, false, cond, ◌&&◌, eqb, List, length, get_or, None, sum_by, filter, sym, refl, ap, ◌∙◌, subst, ap₂, inl, inr, arith}
use Rattle.std.specs.List.{ContainsAt as Has, flat_map, AllByRecursion}
use Rattle.std.proofs.lemmas.List.Sums.{sum_by-append}
use Rattle.std.proofs.lemmas.Bool.{cases_lt, eqb-true, and_parts}
use Rattle.std.proofs.ByRecursion.{All-weaker, All-append, all_kept_by, all-has}
use Rattle.terms.specs.declared.Key.{Key}
use Rattle.terms.specs.declared.Offer.{Offer}
use Rattle.terms.specs.declared.Transaction.{Transaction}
use Rattle.terms.specs.declared.Volume.{Volume}
use Rattle.terms.specs.Order.{same, under, words, place}
use Rattle.terms.specs.Holdings.{Store, Book, standing, floor_at, amount_at, free_of, offered_of}
use Rattle.terms.proofs.Order.{same_is, key_is}
use Rattle.offers.proofs.Sound.{book_parts}
use Rattle.blocks.specs.Readable.{Block, fit_block}
use Rattle.exchange.specs.State.{State, remainder}
use Rattle.exchange.specs.Trade.{created, placed, cancelled, creations, payments, placements, cancellations, openings, cancels_of, incoming, outgoing, trading, sold, volume_of, left_over}
use Rattle.exchange.specs.Faults.{Verdict}
use Rattle.exchange.specs.Faults.Cause.{bad_account, no_offer, accounts_full, offers_full}
use Rattle.exchange.specs.Commit.{Owned, Sound}
use Rattle.exchange.proofs.Causes.{faulty}
use Rattle.exchange.proofs.Rising.{sum_by_same, all_of}
use Rattle.exchange.proofs.Sums.{all_2, all_joined, all_by_has, sum_by_joined, sum_by_kept, some_of, under_gone, lookup}
use Rattle.exchange.proofs.Keyed.{cond_le, sum_by_cond}
use Rattle.exchange.proofs.Fit.{Fit, fits}
use Rattle.exchange.proofs.Trades.{placed_by, sources, fresh, payers, receivers, cancellers, placers, traders, placed_once, standing_new, traded_once, cancelled_once, paid_within}
use Rattle.tally.specs.declared.effects.Net.{Net}
use Rattle.judging_balances.specs.declared.Slot.{Slot}
use Rattle.clearing_book.specs.Entries.{Left, Entered, CanLeave, CanEnter}
use Rattle.clearing_store.specs.Changes.{holder, gets, gives, Applied, Bearable, CanApply, Raised, CanRaise, AllOpened, CanOpen}
use Rattle.clearing_walk.specs.Walk.{Ready, Filled}
use Rattle.clearing.specs.Remainders.{sold_of, Renewed}
use Rattle.clearing.specs.Clear.{Nets, Cleared}
use Rattle.clearing.proofs.Ranges.{limit_of, sold_fits, new_accounts, paid_assets, new_offers, cancelled_assets}
use Rattle.clearing.proofs.Bounds.{enough, roomy, paid_most, volume_most}

same_test : (p q r : Bool) (a : ℕ) → (r ≡ true → p ≡ q) → cond p (cond r a 0) 0 ≡ cond q (cond r a 0) 0
same_test p q true a h = ap (λ z. cond z a 0) (h refl)
same_test true true false a h = refl
same_test true false false a h = refl
same_test false true false a h = refl
same_test false false false a h = refl

-- what a test lets through is above 0 only where the test passes
passed : (p : Bool) (v : ℕ) → 0 < cond p v 0 → p ≡ true
passed true v h = refl
passed false v h = absurd (omega arith)

-- a sum of parts of one account and one asset that is above 0: such an account and asset is among them
some_slot : {X : Type 0} (owner asset : X → ℕ) (v : X → ℕ) (P : ℕ → Type 0) (Q : ℕ → Type 0) (xs : List X) → AllByRecursion (λ y. P (owner y)) xs → AllByRecursion (λ y. Q (asset y)) xs
    → (n x : ℕ) → 0 < sum_by (λ y. cond (eqb (owner y) n && eqb (asset y) x) (v y) 0) xs → P n × Q x
some_slot owner asset v P Q xs p q n x h =
    let (y, m, l) = some_of (λ y. cond (eqb (owner y) n && eqb (asset y) x) (v y) 0) xs h in
    let (a, c) = and_parts (eqb (owner y) n) (eqb (asset y) x) (passed (eqb (owner y) n && eqb (asset y) x) (v y) l) in (
      subst P (eqb-true (owner y) n a) (all-has (λ z. P (owner z)) xs y p m),
      subst Q (eqb-true (asset y) x c) (all-has (λ z. Q (asset z)) xs y q m),
    )

-- what clearing starts from: a sound state, a block without fault, its transactions and its nets
pub record Start (s : State) (b : Block) (ts : List Transaction) (ns : List (Net Slot)) : Type 0 where
  pub sound : Sound s
  pub clean : Verdict s b None
  pub ranges : fit_block b ≡ true
  pub reads : ts ≡ b.transactions
  pub nets : Nets s b ns

module _ (s : State) (b : Block) (ts : List Transaction) (ns : List (Net Slot)) (st : Start s b ts ns) where
  so : Owned s
  so = st.sound.owned

  clean : Verdict s b None
  clean = st.clean

  fit : Fit b
  fit = fits b st.ranges

  -- the cancelled offers stand, and each is cancelled once
  pub can_leave : CanLeave (flat_map cancelled ts) s.book
  can_leave =
      subst (λ us. CanLeave (flat_map cancelled us) s.book) (sym st.reads) (record {
        stand = all_joined _ cancelled b.transactions (all_by_has _ b.transactions (λ u m. all_by_has _ (cancelled u) (go u m)));
        once = cancelled_once s b so clean;
      })
    where
      go : (u : Transaction) → Has b.transactions u → (k : Key) → Has (cancelled u) k → 0 < amount_at s.book.offers k
      go u m k h =
          elim (cases_lt 0 (amount_at s.book.offers k)) [
            | inl p ↦ p
            | inr p ↦ absurd (clean _ (faulty s b no_offer u.source u.sequence (u, (m, refl, refl), (k, h, omega arith))))
          ]

  module _ (bk₁ : Book) (left : Left (flat_map cancelled ts) s.book bk₁) where
    out : Left (cancellations b) s.book bk₁
    out = subst (λ us. Left (flat_map cancelled us) s.book bk₁) st.reads left

    -- the new offers do not stand, each is made once, and there is room for them
    pub can_enter : CanEnter (flat_map placed ts) bk₁
    can_enter =
        subst (λ us. CanEnter (flat_map placed us) bk₁) (sym st.reads) (record {
          fresh = all_joined _ placed b.transactions (all_by_has _ b.transactions
              (λ u m. All-weaker _ _ (λ o e. absent o.key (above u m o.key e.0 e.1)) (placed u) (placed_by u.source u.sequence u.action)));
          once = placed_once s b so clean;
          good = new_offers b fit;
          room = room_in;
        })
      where
        above : (u : Transaction) → Has b.transactions u → (k : Key) → k.account ≡ u.source → k.sequence ≡ u.sequence
            → floor_at s.store k.account < k.sequence
        above u m k p q = omega (arith, q, ap (floor_at s.store) p, fresh s b so clean u m)

        absent : (k : Key) → floor_at s.store k.account < k.sequence → amount_at bk₁.offers k ≡ 0
        absent k l =
            omega (arith, out.amounts k, cond_le (eqb (cancels_of b k) 0) (amount_at s.book.offers k), under_gone place (λ o. o.amount) s.book.offers (words k) (standing_new s b so clean k l))

        room_in : length bk₁.offers + length (placements b) ≤ bk₁.capacity
        room_in =
            elim (cases_lt (s.book.capacity + length (cancellations b)) (length s.book.offers + length (placements b))) [
              | inl p ↦ absurd (clean _ (faulty s b offers_full 0 0 (p, refl, refl)))
              | inr p ↦ omega (arith, p, out.capacity, out.count)
            ]

    -- then the book has the offers in trade
    pub in_trade : (bk₂ : Book) → Entered (flat_map placed ts) bk₁ bk₂ → (j : Key) → amount_at bk₂.offers j ≡ amount_at (trading s b) j
    in_trade bk₂ entered j =
        entered.amounts j
        ∙ ap₂ ◌+◌
        (out.amounts j
        ∙ sum_by_cond (eqb (cancels_of b j) 0) (λ o. cond (same (place o) (words j)) o.amount 0) s.book.offers
        ∙ sym (sum_by_kept (λ o. eqb (cancels_of b o.key) 0) (λ o. cond (same (place o) (words j)) o.amount 0) s.book.offers
        ∙ sum_by_same _ _ s.book.offers
        (all_of _
        (λ o. same_test (eqb (cancels_of b o.key) 0) (eqb (cancels_of b j) 0) (same (place o) (words j)) o.amount
        (λ e. ap (λ k. eqb (cancels_of b k) 0) (key_is o.key j (same_is (place o) (words j) e))))
        s.book.offers)))
        (ap (λ us. amount_at (flat_map placed us) j) st.reads)
        ∙ sym (sum_by-append (λ o. cond (same (place o) (words j)) o.amount 0) (filter (λ o. eqb (cancels_of b o.key) 0) s.book.offers) (placements b))

  within : (x : ℕ) → x < 8 → free_of s.store x + offered_of s.book x ≤ 68719476735
  within x l = omega (arith, st.sound.total x l)

  -- an account that gets or gives stands, and what it gets or gives is of an asset
  gets_some : (n x : ℕ) → 0 < incoming s b n x → (0 < standing s.store n) × (x < 8)
  gets_some n x h =
      elim (cases_lt 0 (sum_by (λ p. cond (eqb p.receiver n && eqb p.asset x) p.amount 0) (payments b))) [
        | inl l ↦ some_slot (λ p. p.receiver) (λ p. p.asset) (λ p. p.amount) (λ m. 0 < standing s.store m) (λ y. y < 8) (payments b) (receivers s b so clean) (paid_assets b fit) n x l
        | inr l ↦ some_slot (λ k. k.account) (λ k. k.sold) (λ k. amount_at s.book.offers k) (λ m. 0 < standing s.store m) (λ y. y < 8) (cancellations b) (cancellers s b so clean) (cancelled_assets b fit) n x (omega arith)
      ]

  gives_some : (n x : ℕ) → 0 < outgoing s b n x → (0 < standing s.store n) × (x < 8)
  gives_some n x h =
      elim (cases_lt 0 (sum_by (λ p. cond (eqb p.payer n && eqb p.asset x) p.amount 0) (payments b))) [
        | inl l ↦ some_slot (λ p. p.payer) (λ p. p.asset) (λ p. p.amount) (λ m. 0 < standing s.store m) (λ y. y < 8) (payments b) (payers s b so clean) (paid_assets b fit) n x l
        | inr l ↦ some_slot (λ o. o.key.account) (λ o. o.key.sold) (λ o. o.amount) (λ m. 0 < standing s.store m) (λ y. y < 8) (placements b) (placers s b so clean) (All-weaker _ _ sold_fits (placements b) (new_offers b fit)) n x (omega arith)
      ]

  -- the nets can reach the balances
  pub can_apply : CanApply ns s.store
  can_apply = record {
    each = all_2 _ go ns (lookup holder (λ m. m.plus) ns once) (lookup holder (λ m. m.minus) ns once);
    once = st.nets.once;
  }
    where
      once : (z : Net Slot) → under holder (λ _. 1) ns (holder z) ≤ 1
      once z = st.nets.once z.key.account z.key.asset

      slot : (n x p m : ℕ) → p ≡ incoming s b n x → m ≡ outgoing s b n x → (p ≡ m → ⊥) → (0 < standing s.store n) × (x < 8)
      slot n x p m i o ne =
          elim (cases_lt 0 p) [
            | inl l ↦ gets_some n x (omega arith)
            | inr l ↦ gives_some n x (elim (cases_lt 0 m) [ inl k ↦ omega arith | inr k ↦ absurd (ne (omega arith)) ])
          ]

      go : (m : Net Slot) → gets ns m.key.account m.key.asset ≡ m.plus → gives ns m.key.account m.key.asset ≡ m.minus
          → (m.plus ≡ m.minus → ⊥) → Bearable s.store m
      go m i o ne =
          let p : m.plus ≡ incoming s b m.key.account m.key.asset = sym i ∙ st.nets.ins m.key.account m.key.asset in
          let q : m.minus ≡ outgoing s b m.key.account m.key.asset = sym o ∙ st.nets.outs m.key.account m.key.asset in
          let (stands, in8) = slot m.key.account m.key.asset m.plus m.minus p q ne in
          record {
            stand = stands;
            asset = in8;
            enough = omega (arith, p, q, enough s b so clean m.key.asset in8 fit (within m.key.asset in8) m.key.account);
            room = omega (arith, p, q, roomy s b so clean m.key.asset in8 fit (within m.key.asset in8) m.key.account stands);
          }

  module _ (st₁ : Store) (applied : Applied ns s.store st₁) where
    -- the walk can begin
    pub ready : Ready s b st₁
    ready = record {
      once = traded_once s b so clean;
      limits = All-append _ _ (placements b)
          (all_kept_by _ _ s.book.offers (All-weaker _ _ limit_of s.book.offers (book_parts s.book st.sound.book).fit))
          (All-weaker _ _ limit_of (placements b) (new_offers b fit));
      owners = traders s b so clean;
      stand = applied.stand;
      room = λ n y stands l. omega (arith, applied.balances n y, st.nets.ins n y, st.nets.outs n y, roomy s b so clean y l fit (within y l) n stands);
      paid = λ y l. paid_most s b so clean y l fit (within y l);
    }

    module _ (st₂ : Store) (os : List Offer) (outs : List ℕ) (filled : Filled s b st₁ st₂ os outs) where
      -- each source stands
      pub can_raise : CanRaise ts st₂
      can_raise =
          subst (λ us. CanRaise us st₂) (sym st.reads)
          (all_by_has _ b.transactions (λ u m. omega (arith, sources s b so clean u m, filled.kept.stand u.source, applied.stand u.source)))

      module _ (st₃ : Store) (raised : Raised ts st₂ st₃) where
        risen : Raised b.transactions st₂ st₃
        risen = subst (λ us. Raised us st₂ st₃) st.reads raised

        stands₃ : (n : ℕ) → standing st₃ n ≡ standing s.store n
        stands₃ n = raised.stand n ∙ filled.kept.stand n ∙ applied.stand n

        once_created : (n : ℕ) → openings b n ≤ 1
        once_created n = elim (cases_lt 1 (openings b n)) [ inl p ↦ absurd (again p) | inr p ↦ p ]
          where
            again : 1 < openings b n → ⊥
            again p =
                let (u, h, q) = some_of (λ u. sum_by (λ m. cond (eqb m n) 1 0) (created u)) b.transactions (omega (arith, sum_by_joined (λ m. cond (eqb m n) 1 0) created b.transactions)) in
                let (m, k, r) = some_of (λ m. cond (eqb m n) 1 0) (created u) q in
                let e : m ≡ n = eqb-true m n (passed (eqb m n) 1 r) in
                clean _ (faulty s b bad_account u.source u.sequence (u, (h, refl, refl), (m, k, inr (inr (subst (λ z. 1 < openings b z) (sym e) p)))))

        -- the new accounts are in range and do not stand, each is created once, and there is room for them
        pub can_open : CanOpen (flat_map created ts) st₃
        can_open =
            subst (λ us. CanOpen (flat_map created us) st₃) (sym st.reads) (record {
              each = all_2 _ (λ n p q. (p, q.0, q.1)) (creations b) (new_accounts b fit)
                  (all_joined _ created b.transactions (all_by_has _ b.transactions (λ u m. all_by_has _ (created u) (go u m))));
              once = once_created;
              room = room_in;
            })
          where
            go : (u : Transaction) → Has b.transactions u → (n : ℕ) → Has (created u) n → (n ≤ st₃.top) × (standing st₃ n ≡ 0)
            go u m n h = (
              elim (cases_lt s.store.top n) [
                | inl p ↦ absurd (clean _ (faulty s b bad_account u.source u.sequence (u, (m, refl, refl), (n, h, inr (inl p)))))
                | inr p ↦ omega (arith, p, raised.top, filled.kept.top, applied.top)
              ],
              elim (cases_lt 0 (standing s.store n)) [
                | inl p ↦ absurd (clean _ (faulty s b bad_account u.source u.sequence (u, (m, refl, refl), (n, h, inl p))))
                | inr p ↦ omega (arith, p, stands₃ n)
              ],
            )

            room_in : length st₃.accounts + length (creations b) ≤ st₃.capacity
            room_in =
                elim (cases_lt s.store.capacity (length s.store.accounts + length (creations b))) [
                  | inl p ↦ absurd (clean _ (faulty s b accounts_full 0 0 (p, refl, refl)))
                  | inr p ↦
                      omega (arith, p, raised.count, filled.kept.count, applied.count, raised.capacity, filled.kept.capacity, applied.capacity)
                ]

        -- what is left is what a commit leaves
        pub cleared : (st₄ : Store) (bk : Book) (vs : List Volume) (rs : List ℕ) → AllOpened (flat_map created ts) st₃ st₄ → bk.capacity ≡ s.book.capacity
            → bk.offers ≡ os → vs ≡ b.volumes → Renewed vs outs s.own.remainders rs → Cleared s b st₄ bk rs
        cleared st₄ bk vs rs opened offers eo ev renewed = record {
          accounts = opened.capacity ∙ raised.capacity ∙ filled.kept.capacity ∙ applied.capacity;
          top = opened.top ∙ raised.top ∙ filled.kept.top ∙ applied.top;
          offers = offers;
          stand = λ n. opened.stand n ∙ ap₂ ◌+◌ (stands₃ n) (ap (λ us. sum_by (λ m. cond (eqb m n) 1 0) (flat_map created us)) st.reads);
          used = used;
          last = λ n. elim (risen.last n) [
            | inl e ↦ inl (opened.floors n ∙ e ∙ floors₂ n, unused n e)
            | inr (u, m, k, e) ↦ inr (u, m, k, opened.floors n ∙ e)
          ];
          balances = λ n x in8.
              omega (arith, opened.balances n x, raised.balances n x, filled.balances n x, applied.balances n x, st.nets.ins n x, st.nets.outs n x);
          amounts = λ k. ap (λ l. amount_at l k + sold s b k) eo ∙ filled.amounts k;
          eight = renewed.eight;
          remain = remain;
        }
          where
            floors₂ : (n : ℕ) → floor_at st₂ n ≡ floor_at s.store n
            floors₂ n = filled.kept.floors n ∙ applied.floors n

            used : (u : Transaction) → Has b.transactions u → u.sequence ≤ floor_at st₄ u.source
            used u m =
                omega (arith, opened.floors u.source, all-has (λ u. u.sequence ≤ floor_at st₃ u.source) b.transactions u risen.used m)

            unused : (n : ℕ) → floor_at st₃ n ≡ floor_at st₂ n → (u : Transaction) → Has b.transactions u → u.source ≡ n → ⊥
            unused n e u m k =
                omega (arith, e, floors₂ n, fresh s b so clean u m, ap (floor_at s.store) k, used u m, ap (floor_at st₄) k, opened.floors n)

            remain : (x : ℕ) → x < 8 → get_or rs x 0 ≡ remainder s x + left_over s b x
            remain x l =
                let v : sold_of vs x ≡ volume_of b x = ap (λ l. sold_of l x) ev in
                let most = volume_most s b so clean x l fit (within x l) in
                omega (arith, renewed.each x l (omega (arith, v, most, st.sound.total x l)), v, filled.paid x l, paid_within s b so clean x l fit)
