-- A block without fault on a state whose offers are owned: its traders stand, no key is traded twice, each volume is sold, and no more is paid
-- than is sold. Assumes nothing.
use Rattle.std.proofs.Common.{◌≡◌, ℕ, ◌+◌, ◌-◌, ◌*◌, ◌/◌, ◌<◌, ◌≤◌, min, Bool, true, false, cond, ◌&&◌, eqb, ltb, ◌⊎◌, List, [], ◌∷◌, None, sum_by, filter, sym, refl, ap, ◌∙◌, subst, ap₂, inl, inr, arith}
use native.Mathlib.Nat.{mul-div-le, le_of_mul-le-mul_left}
use Rattle.std.specs.List.{ContainsAt as Has, AllByRecursion}
use Rattle.std.proofs.lemmas.List.Sums.{sum_by-append}
use Rattle.std.proofs.lemmas.Bool.{cases_Bool, cases_lt, cases_eq, eqb-true, eq-eqb, ne_eqb, and_parts, and_from, and_right, ltb-true}
use Rattle.std.proofs.ByRecursion.{All-weaker, All-append, all_kept_by}
use Rattle.terms.specs.declared.Key.{Key}
use Rattle.terms.specs.declared.Offer.{Offer}
use Rattle.terms.specs.declared.Volume.{Volume}
use Rattle.terms.specs.declared.Action.{Action}
use Rattle.terms.specs.declared.Action.TheVariants.{Create, Pay, Place, Cancel}
use Rattle.terms.specs.declared.Transaction.{Transaction}
use Rattle.terms.specs.Order.{lower, same, under, words, place}
use Rattle.terms.specs.Holdings.{standing, floor_at, amount_at, offered_of}
use Rattle.blocks.specs.Readable.{Block, pair}
use Rattle.exchange.specs.State.{State}
use Rattle.exchange.specs.Trade.{Payment, places, pays, cancels, paying, placed, cancelled, payments, placements, cancellations, cancels_of, price, volume, volume_of, worth_for, trading, eligible, before, supply, sold, paid, paid_in}
use Rattle.exchange.specs.Faults.{Verdict, in_window, tag}
use Rattle.exchange.specs.Faults.Cause.{uncleared, no_source, out_of_window, repeated, no_receiver, cancelled_twice, excess_volume}
use Rattle.exchange.specs.Commit.{Owned}
use Rattle.exchange.proofs.Causes.{faulty}
use Rattle.terms.proofs.Order.{same_is, key_is}
use Rattle.exchange.proofs.Rising.{sum_by_zero, sum_by_same, sum_by_grows, sum_by_plus, all_of}
use Rattle.exchange.proofs.Sums.{if_true, if_false, all_joined, all_by_has, sum_by_joined, sum_by_kept, some_of, Once, under_gone, lookup, rising_once, sum_by_scale}
use Rattle.exchange.proofs.Keyed.{and_last, and_flip, times, cond_le, by_keys}
use Rattle.exchange.proofs.Fills.{below, fill_once}
use Rattle.exchange.proofs.Fit.{Fit}

abbrev pub pair_of : Offer → List ℕ
pair_of o = o.key.sold ∷ o.key.bought ∷ []

pub sold_le : (s : State) (b : Block) (k : Key) → sold s b k ≤ volume b k.sold k.bought
sold_le s b k = go (eligible b k)
  where
    go : (p : Bool) → cond p (min (amount_at (trading s b) k) (volume b k.sold k.bought - before s b k)) 0 ≤ volume b k.sold k.bought
    go true = omega arith
    go false = omega arith

pub sold_within : (s : State) (b : Block) (k : Key) → sold s b k ≤ amount_at (trading s b) k
sold_within s b k = go (eligible b k)
  where
    go : (p : Bool) → cond p (min (amount_at (trading s b) k) (volume b k.sold k.bought - before s b k)) 0 ≤ amount_at (trading s b) k
    go true = omega arith
    go false = omega arith

-- whose a payment, a new offer and a cancelled key are

pub paid_by : (n : ℕ) (a : Action) → AllByRecursion (λ p. p.payer ≡ n) (pays n a)
paid_by n (Create m) = tt
paid_by n (Pay r x m) = (refl, tt)
paid_by n (Place x y l m) = tt
paid_by n (Cancel x y l q) = tt

pub placed_by : (n q : ℕ) (a : Action) → AllByRecursion (λ o. (o.key.account ≡ n) × (o.key.sequence ≡ q)) (places n q a)
placed_by n q (Create m) = tt
placed_by n q (Pay r x m) = tt
placed_by n q (Place x y l m) = ((refl, refl), tt)
placed_by n q (Cancel x y l p) = tt

pub cancelled_by : (n : ℕ) (a : Action) → AllByRecursion (λ k. k.account ≡ n) (cancels n a)
cancelled_by n (Create m) = tt
cancelled_by n (Pay r x m) = tt
cancelled_by n (Place x y l m) = tt
cancelled_by n (Cancel x y l q) = (refl, tt)

-- a transaction places a key once at most, and under its own tag
one_placed : (n q : ℕ) (a : Action) (k : Key)
    → sum_by (λ o. cond (same (place o) (words k)) 1 0) (places n q a) ≤ cond (same (n ∷ q ∷ []) (k.account ∷ k.sequence ∷ [])) 1 0
one_placed n q (Create m) k = omega arith
one_placed n q (Pay r x m) k = omega arith
one_placed n q (Place x y l m) k =
    elim (cases_Bool (same (x ∷ y ∷ l ∷ n ∷ q ∷ []) (words k))) [
      | inl p ↦
          let e : x ∷ y ∷ l ∷ n ∷ q ∷ [] ≡ words k = same_is _ (words k) p in
          let en : n ≡ k.account = cc in
          let eq : q ≡ k.sequence = cc in
          omega (
            arith,
            if_true (same (x ∷ y ∷ l ∷ n ∷ q ∷ []) (words k)) 1 0 p,
            if_true (same (n ∷ q ∷ []) (k.account ∷ k.sequence ∷ [])) 1 0
                (and_from _ _ (eq-eqb n k.account en) (and_from _ _ (eq-eqb q k.sequence eq) refl)),
          )
      | inr p ↦ omega (arith, if_false (same (x ∷ y ∷ l ∷ n ∷ q ∷ []) (words k)) 1 0 p)
    ]
one_placed n q (Cancel x y l p) k = omega arith

-- a good sequence number is above the floor
above_floor : (n q : ℕ) → in_window n q ≡ true → n < q
above_floor n q e = ltb-true n q (and_parts (ltb n q) _ e).0

-- of an asset: what the payments move, what the new offers hold, what the cancelled ones held

abbrev pub moved : Block → ℕ → ℕ
moved b x = sum_by (λ p. cond (eqb p.asset x) p.amount 0) (payments b)

abbrev pub newly : Block → ℕ → ℕ
newly b x = sum_by (λ o. cond (eqb o.key.sold x) o.amount 0) (placements b)

abbrev pub undone : State → Block → ℕ → ℕ
undone s b x = sum_by (λ k. cond (eqb k.sold x) (amount_at s.book.offers k) 0) (cancellations b)

module _ (s : State) (b : Block) (so : Owned s) (clean : Verdict s b None) where
  pub sources : (x : Transaction) → Has b.transactions x → 0 < standing s.store x.source
  sources x m =
      elim (cases_lt 0 (standing s.store x.source)) [
        | inl p ↦ p
        | inr p ↦ absurd (clean _ (faulty s b no_source x.source x.sequence (x, (m, refl, refl), omega arith)))
      ]

  pub fresh : (x : Transaction) → Has b.transactions x → floor_at s.store x.source < x.sequence
  fresh x m =
      elim (cases_Bool (in_window (floor_at s.store x.source) x.sequence)) [
        | inl p ↦ above_floor (floor_at s.store x.source) x.sequence p
        | inr p ↦ absurd (clean _ (faulty s b out_of_window x.source x.sequence (x, (m, refl, refl), p)))
      ]

  pub payers : AllByRecursion (λ p. 0 < standing s.store p.payer) (payments b)
  payers =
      all_joined _ paying b.transactions (all_by_has _ b.transactions
      (λ x m. All-weaker _ _ (λ p e. subst (λ n. 0 < standing s.store n) (sym e) (sources x m)) (paying x) (paid_by x.source x.action)))

  pub receivers : AllByRecursion (λ p. 0 < standing s.store p.receiver) (payments b)
  receivers = all_joined _ paying b.transactions (all_by_has _ b.transactions (λ x m. all_by_has _ (paying x) (go x m)))
    where
      go : (x : Transaction) → Has b.transactions x → (p : Payment) → Has (paying x) p → 0 < standing s.store p.receiver
      go x m p h =
          elim (cases_lt 0 (standing s.store p.receiver)) [
            | inl l ↦ l
            | inr l ↦ absurd (clean _ (faulty s b no_receiver x.source x.sequence (x, (m, refl, refl), (p, h, omega arith))))
          ]

  pub cancellers : AllByRecursion (λ k. 0 < standing s.store k.account) (cancellations b)
  cancellers =
      all_joined _ cancelled b.transactions (all_by_has _ b.transactions
      (λ x m. All-weaker _ _ (λ k e. subst (λ n. 0 < standing s.store n) (sym e) (sources x m)) (cancelled x) (cancelled_by x.source x.action)))

  pub placers : AllByRecursion (λ o. 0 < standing s.store o.key.account) (placements b)
  placers =
      all_joined _ placed b.transactions (all_by_has _ b.transactions
      (λ x m. All-weaker _ _ (λ o e. subst (λ n. 0 < standing s.store n) (sym e.0) (sources x m)) (placed x) (placed_by x.source x.sequence x.action)))

  pub traders : AllByRecursion (λ o. 0 < standing s.store o.key.account) (trading s b)
  traders = All-append _ _ (placements b) (all_kept_by _ _ s.book.offers so.owners) placers

  -- no key is traded twice
  pub placed_old : (k : Key) → k.sequence ≤ floor_at s.store k.account → under place (λ _. 1) (placements b) (words k) ≡ 0
  placed_old k h =
      sum_by_zero _ (placements b) (all_joined _ placed b.transactions (all_by_has _ b.transactions
      (λ x m. All-weaker _ _ (go x m) (placed x) (placed_by x.source x.sequence x.action))))
    where
      go : (x : Transaction) → Has b.transactions x → (o : Offer) → (o.key.account ≡ x.source) × (o.key.sequence ≡ x.sequence)
          → ◌≡◌ {A = ℕ} (cond (same (place o) (words k)) 1 0) 0
      go x m o (en, eq) =
          elim (cases_Bool (same (place o) (words k))) [
            | inl p ↦
                let e : o.key ≡ k = key_is o.key k (same_is (place o) (words k) p) in
                let old : o.key.sequence ≤ floor_at s.store o.key.account = subst (λ j. j.sequence ≤ floor_at s.store j.account) (sym e) h in
                absurd (omega (arith, fresh x m, old, eq, ap (floor_at s.store) en))
            | inr p ↦ if_false (same (place o) (words k)) 1 0 p
          ]

  pub placed_once : (k : Key) → under place (λ _. 1) (placements b) (words k) ≤ 1
  placed_once k =
      elim (cases_lt 1 (under tag (λ _. 1) b.transactions (k.account ∷ k.sequence ∷ []))) [
        | inl p ↦ absurd (clean _ (faulty s b repeated k.account k.sequence p))
        | inr p ↦
            omega (
              arith,
              sum_by_joined (λ o. cond (same (place o) (words k)) 1 0) placed b.transactions,
              p,
              sum_by_grows _ (λ x. cond (same (tag x) (k.account ∷ k.sequence ∷ [])) 1 0) b.transactions
                  (all_of _ (λ x. one_placed x.source x.sequence x.action k) b.transactions),
            )
      ]

  kept_once : (k : Key) → under place (λ _. 1) (filter (λ o. eqb (cancels_of b o.key) 0) s.book.offers) (words k) ≤ under place (λ _. 1) s.book.offers (words k)
  kept_once k =
      subst (λ n. n ≤ under place (λ _. 1) s.book.offers (words k)) (sym (sum_by_kept _ _ s.book.offers))
      (sum_by_grows _ _ s.book.offers (all_of _ (λ o. cond_le (eqb (cancels_of b o.key) 0) (cond (same (place o) (words k)) 1 0)) s.book.offers))

  pub standing_new : (k : Key) → floor_at s.store k.account < k.sequence → under place (λ _. 1) s.book.offers (words k) ≡ 0
  standing_new k h = sum_by_zero _ s.book.offers (All-weaker _ _ go s.book.offers so.numbers)
    where
      go : (o : Offer) → o.key.sequence ≤ floor_at s.store o.key.account → ◌≡◌ {A = ℕ} (cond (same (place o) (words k)) 1 0) 0
      go o l =
          elim (cases_Bool (same (place o) (words k))) [
            | inl p ↦
                let e : o.key ≡ k = key_is o.key k (same_is (place o) (words k) p) in
                absurd (omega (arith, h, subst (λ j. j.sequence ≤ floor_at s.store j.account) e l))
            | inr p ↦ if_false (same (place o) (words k)) 1 0 p
          ]

  pub traded_once : Once place (trading s b)
  traded_once z =
      let k : Key = z.key in
      let e = sum_by-append (λ o. cond (same (place o) (words k)) 1 0) (filter (λ o. eqb (cancels_of b o.key) 0) s.book.offers) (placements b) in
      elim (cases_lt (floor_at s.store k.account) k.sequence) [
        | inl p ↦ omega (arith, e, kept_once k, standing_new k p, placed_once k)
        | inr p ↦ omega (arith, e, kept_once k, placed_old k p, rising_once place s.book.offers so.ordered.offers z)
      ]

  pub cancelled_once : (k : Key) → cancels_of b k ≤ 1
  cancelled_once k = elim (cases_lt 1 (cancels_of b k)) [ inl p ↦ absurd (again p) | inr p ↦ p ]
    where
      again : 1 < cancels_of b k → ⊥
      again p =
          let (x, m, q) = some_of (λ x. sum_by (λ j. cond (same (words j) (words k)) 1 0) (cancelled x)) b.transactions (omega (arith, sum_by_joined (λ j. cond (same (words j) (words k)) 1 0) cancelled b.transactions)) in
          let (j, n, r) = some_of (λ j. cond (same (words j) (words k)) 1 0) (cancelled x) q in
          let e : same (words j) (words k) ≡ true =
          elim (cases_Bool (same (words j) (words k))) [ inl y ↦ y | inr y ↦ absurd (omega (arith, r, if_false (same (words j) (words k)) 1 0 y)) ] in
          clean _ (faulty s b cancelled_twice x.source x.sequence (x, (m, refl, refl), (j, n, subst (λ z. 1 < cancels_of b z) (sym (key_is j k (same_is (words j) (words k) e))) p)))

  module _ (x : ℕ) where
    -- what is offered, without the cancelled and with the new
    pub traded_sum : sum_by (λ o. cond (eqb o.key.sold x) o.amount 0) (trading s b) + undone s b x ≡ offered_of s.book x + newly b x
    traded_sum =
        let f : Offer → ℕ = λ o. cond (eqb o.key.sold x) o.amount 0 in
        let n : Offer → ℕ = λ o. cancels_of b o.key in
        let all = sum_by-append f (filter (λ o. eqb (cancels_of b o.key) 0) s.book.offers) (placements b) in
        let stay = sum_by_kept (λ o. eqb (cancels_of b o.key) 0) f s.book.offers in
        let leave : undone s b x ≡ sum_by (λ o. f o * under words (λ _. 1) (cancellations b) (place o)) s.book.offers =
        by_keys place words (λ o. eqb o.key.sold x) (λ k. eqb k.sold x) (λ o k e. ap (λ j. eqb j.sold x) (sym (key_is o.key k e)))
        (λ o. o.amount) s.book.offers (cancellations b) in
        let both = sum_by_plus (λ o. cond (eqb (n o) 0) (f o) 0) (λ o. f o * under words (λ _. 1) (cancellations b) (place o)) s.book.offers in
        let each = sum_by_same (λ o. cond (eqb (n o) 0) (f o) 0 + f o * under words (λ _. 1) (cancellations b) (place o)) f s.book.offers (all_of _ part s.book.offers) in
        omega (arith, all, stay, leave, both, each)
      where
        part : (o : Offer) → cond (eqb (cancels_of b o.key) 0) (cond (eqb o.key.sold x) o.amount 0) 0
            + cond (eqb o.key.sold x) o.amount 0 * under words (λ _. 1) (cancellations b) (place o) ≡ cond (eqb o.key.sold x) o.amount 0
        part o =
            let w : ℕ = cond (eqb o.key.sold x) o.amount 0 in
            let m : under words (λ _. 1) (cancellations b) (place o) ≡ cancels_of b o.key = refl in
            elim (cases_eq (cancels_of b o.key) 0) [
              | inl e ↦ omega (arith, if_true (eqb (cancels_of b o.key) 0) w 0 (eq-eqb (cancels_of b o.key) 0 e), ap (λ z. w * z) (m ∙ e))
              | inr e ↦
                  let one : cancels_of b o.key ≡ 1 = omega (arith, cancelled_once o.key, e) in
                  omega (arith, if_false (eqb (cancels_of b o.key) 0) w 0 (ne_eqb (cancels_of b o.key) 0 e), ap (λ z. w * z) (m ∙ one))
            ]

  -- of a pair all of the volume is sold, or all that is eligible
  module _ (x y : ℕ) where
    weight : Offer → ℕ
    weight o = cond (eqb o.key.sold x && eqb o.key.bought y && eligible b o.key) o.amount 0

    filled_pair : under pair_of (λ o. sold s b o.key) (trading s b) (x ∷ y ∷ []) ≡ min (volume b x y) (supply s b x y)
    unfolding weight
    filled_pair =
        sum_by_same _ _ (trading s b) (All-weaker _ _ point (trading s b) (lookup place (λ o. o.amount) (trading s b) traded_once))
        ∙ fill_once place weight (trading s b) traded_once (volume b x y)
      where
        point : (o : Offer) → amount_at (trading s b) o.key ≡ o.amount
            → cond (same (pair_of o) (x ∷ y ∷ [])) (sold s b o.key) 0 ≡ min (weight o) (volume b x y - below place weight (trading s b) (place o))
        point o e =
            elim (cases_Bool (same (pair_of o) (x ∷ y ∷ []))) [
              | inl p ↦
                  let q : pair_of o ≡ x ∷ y ∷ [] = same_is (pair_of o) (x ∷ y ∷ []) p in
                  let ex : o.key.sold ≡ x = cc in
                  let ey : o.key.bought ≡ y = cc in
                  if_true (same (pair_of o) (x ∷ y ∷ [])) (sold s b o.key) 0 p ∙ inside ex ey (cases_Bool (eligible b o.key))
              | inr p ↦
                  omega (
                    arith,
                    if_false (same (pair_of o) (x ∷ y ∷ [])) (sold s b o.key) 0 p,
                    if_false _ o.amount 0 (and_last (eqb o.key.sold x) (eqb o.key.bought y) (eligible b o.key) p),
                  )
            ]
          where
            before_is : o.key.sold ≡ x → o.key.bought ≡ y → before s b o.key ≡ below place weight (trading s b) (place o)
            before_is ex ey =
                sum_by_same _ _ (trading s b)
                (all_of _
                (λ z. ap₂ (λ m n. cond (eqb z.key.sold m && eqb z.key.bought n && eligible b z.key && lower (place z) (place o)) z.amount 0) ex ey
                ∙ and_flip (eqb z.key.sold x && eqb z.key.bought y && eligible b z.key) (lower (place z) (place o)) z.amount)
                (trading s b))

            inside : o.key.sold ≡ x → o.key.bought ≡ y → (eligible b o.key ≡ true) ⊎ (eligible b o.key ≡ false)
                → sold s b o.key ≡ min (weight o) (volume b x y - below place weight (trading s b) (place o))
            inside ex ey (inl l) =
                omega (
                  arith,
                  e,
                  before_is ex ey,
                  ap₂ (volume b) ex ey,
                  if_true (eligible b o.key) (min (amount_at (trading s b) o.key) (volume b o.key.sold o.key.bought - before s b o.key)) 0 l,
                  if_true _ o.amount 0 (and_from (eqb o.key.sold x && eqb o.key.bought y) (eligible b o.key) (and_from _ _ (eq-eqb o.key.sold x ex) (eq-eqb o.key.bought y ey)) l),
                )
            inside ex ey (inr l) =
                omega (
                  arith,
                  if_false (eligible b o.key) (min (amount_at (trading s b) o.key) (volume b o.key.sold o.key.bought - before s b o.key)) 0 l,
                  if_false _ o.amount 0 (and_right (eqb o.key.sold x && eqb o.key.bought y) (eligible b o.key) l),
                )

  module _ (f : Fit b) where
    once_priced : Once pair b.volumes
    once_priced = rising_once pair b.volumes f.pairs

    -- of each pair in the block the volume is sold
    pub filled_volumes : AllByRecursion (λ v. under pair_of (λ o. sold s b o.key) (trading s b) (pair v) ≡ v.amount) b.volumes
    filled_volumes =
        All-weaker _ _ (λ v e. filled_pair v.sold v.bought ∙ full v.sold v.bought ∙ e) b.volumes
        (lookup pair (λ v. v.amount) b.volumes once_priced)
      where
        full : (m n : ℕ) → min (volume b m n) (supply s b m n) ≡ volume b m n
        full m n =
            elim (cases_lt (supply s b m n) (volume b m n)) [ inl p ↦ absurd (clean _ (faulty s b excess_volume m n p)) | inr p ↦ omega arith ]

    -- a sum over the traded offers is one over the volumes, where unsold offers count 0
    pub by_volumes : (p : Offer → Bool) (q : Volume → Bool) → ((o : Offer) (v : Volume) → pair_of o ≡ pair v → q v ≡ p o)
        → (F : Offer → ℕ) → ((o : Offer) → sold s b o.key ≡ 0 → F o ≡ 0)
        → (G : Volume → ℕ) → AllByRecursion (λ v. under pair_of F (trading s b) (pair v) ≡ G v) b.volumes
        → sum_by (λ o. cond (p o) (F o) 0) (trading s b) ≡ sum_by (λ v. cond (q v) (G v) 0) b.volumes
    by_volumes p q tied F unsold G each-is =
        sum_by_same _ _ (trading s b) (all_of _ each (trading s b))
        ∙ sym (by_keys pair_of pair p q tied F (trading s b) b.volumes)
        ∙ sum_by_same _ _ b.volumes (All-weaker _ _ (λ v e. ap (λ n. cond (q v) n 0) e) b.volumes each-is)
      where
        each : (o : Offer) → cond (p o) (F o) 0 ≡ cond (p o) (F o) 0 * under pair (λ _. 1) b.volumes (pair_of o)
        each o =
            let w : ℕ = cond (p o) (F o) 0 in
            elim (cases_eq (under pair (λ _. 1) b.volumes (pair_of o)) 0) [
              | inl e ↦
                  let none : sold s b o.key ≡ 0 =
                  omega (arith, sold_le s b o.key, under_gone pair (λ v. v.amount) b.volumes (pair_of o) e) in
                  omega (arith, ap (λ n. w * n) e, cond_le (p o) (F o), unsold o none)
              | inr e ↦
                  let one : under pair (λ _. 1) b.volumes (pair_of o) ≡ 1 =
                  omega (arith, e, once_priced (record { sold = o.key.sold; bought = o.key.bought; amount = 0 })) in
                  omega (arith, ap (λ n. w * n) one)
            ]

  -- a block pays out no more of an asset than is sold of it
  module _ (y : ℕ) (in8 : y < 8) (f : Fit b) where
    pub paid_within : paid_in s b y ≤ volume_of b y
    paid_within =
        le_of_mul-le-mul_left (omega (arith, scaled, worth, within)) (f.priced y in8)
      where
        spent : Offer → ℕ
        spent o = sold s b o.key * price b o.key.sold

        point : (o : Offer) → price b y * cond (eqb o.key.bought y) (paid s b o.key) 0 ≤ cond (eqb o.key.bought y) (spent o) 0
        point o =
            elim (cases_Bool (eqb o.key.bought y)) [
              | inl e ↦
                  let q : o.key.bought ≡ y = eqb-true o.key.bought y e in
                  let r : paid s b o.key ≡ spent o / price b y = ap (λ n. spent o / price b n) q in
                  rw e (subst (λ n. price b y * n ≤ spent o) (sym r) (mul-div-le (spent o) (price b y)))
              | inr e ↦ rw e (omega arith)
            ]

        scaled : price b y * paid_in s b y ≤ sum_by (λ o. cond (eqb o.key.bought y) (spent o) 0) (trading s b)
        scaled =
            omega (
              arith,
              sum_by_scale (price b y) (λ o. cond (eqb o.key.bought y) (paid s b o.key) 0) (trading s b),
              sum_by_grows _ (λ o. cond (eqb o.key.bought y) (spent o) 0) (trading s b) (all_of _ point (trading s b)),
            )

        tied : (o : Offer) (v : Volume) → pair_of o ≡ pair v → eqb v.bought y ≡ eqb o.key.bought y
        tied o v e = let p : v.bought ≡ o.key.bought = cc in ap (λ n. eqb n y) p

        priced : (v : Volume) → under pair_of spent (trading s b) (pair v) ≡ price b v.sold * under pair_of (λ o. sold s b o.key) (trading s b) (pair v)
        priced v =
            sum_by_same _ _ (trading s b) (all_of _ go (trading s b)) ∙ sum_by_scale (price b v.sold) (λ o. cond (same (pair_of o) (pair v)) (sold s b o.key) 0) (trading s b)
          where
            go : (o : Offer) → cond (same (pair_of o) (pair v)) (spent o) 0 ≡ price b v.sold * cond (same (pair_of o) (pair v)) (sold s b o.key) 0
            go o = times (same (pair_of o) (pair v)) (sold s b o.key) (price b o.key.sold) (price b v.sold) (λ e. let q : pair_of o ≡ pair v = same_is (pair_of o) (pair v) e in let r : o.key.sold ≡ v.sold = cc in ap (price b) r)

        worth : sum_by (λ o. cond (eqb o.key.bought y) (spent o) 0) (trading s b) ≡ worth_for b y
        worth =
            by_volumes f (λ o. eqb o.key.bought y) (λ v. eqb v.bought y) tied spent
            (λ o e. ap (λ n. n * price b o.key.sold) e ∙ omega arith) (λ v. v.amount * price b v.sold)
            (All-weaker _ _ (λ v e. priced v ∙ ap (λ n. price b v.sold * n) e ∙ omega arith) b.volumes (filled_volumes f))

        within : worth_for b y ≤ price b y * volume_of b y
        within = elim (cases_lt (volume_of b y * price b y) (worth_for b y)) [ inl p ↦ absurd (clean _ (faulty s b uncleared y 0 (in8, p, refl))) | inr p ↦ omega arith ]
