-- The numbers of a fill fit 64 bits, by the ranges of a readable block. Assumes nothing.
use Rattle.std.proofs.Common.{◌≡◌, ℕ, ◌+◌, ◌*◌, ◌<◌, ◌≤◌, Bool, true, false, cond, sum_by, leb, eqb, ltb, List, [], ◌∷◌, length, subst, inl, inr, mul-le-mul, div-le_self, arith}
use Rattle.std.proofs.lemmas.List.{get_or_past}
use Rattle.std.proofs.lemmas.List.Sums.{sum_by-cons}
use Rattle.std.proofs.lemmas.Bool.{cases_lt, and_parts, ltb-true}
use Rattle.std.proofs.ByRecursion.{all-has, All-get_or}
use Rattle.terms.specs.declared.Volume.{Volume}
use Rattle.terms.specs.declared.Offer.{Offer}
use Rattle.terms.specs.declared.Action.{Action}
use Rattle.terms.specs.declared.Action.TheVariants.{Create, Pay, Place, Cancel}
use Rattle.terms.specs.declared.Transaction.{Transaction}
use Rattle.terms.specs.Asked.{places, placed}
use Rattle.terms.specs.Ranges.{every, is_price, is_word, is_pair, is_amount, is_balance, is_number, fit_volume, fit_action, fit_transaction}
use Rattle.terms.specs.Order.{under}
use Rattle.terms.specs.Holdings.{rising}
use Rattle.blocks.specs.Readable.{Block, pair, fit_block}
use Rattle.exchange.specs.Trade.{price, volume, pay_for}
use Rattle.exchange.proofs.Fit.{all_from, rising_from}
use Rattle.tally.proofs.Nets.{found, standing}

-- what a transaction in range places is in range
placed_fits : (p : Offer → Bool) (t : Transaction) → fit_transaction t ≡ true → sum_by (λ o. cond (p o) o.amount 0) (placed t) ≤ 68719476735
placed_fits p t h =
    let a = (and_parts (is_word t.sequence) (fit_action t.action) (and_parts (is_number t.source) _ h).1).1 in
    offered t.action a
  where
    part : (b : Bool) (n : ℕ) → n ≤ 68719476735 → 0 + cond b n 0 ≤ 68719476735
    part true n h = omega arith
    part false n h = omega arith

    offered : (a : Action) → fit_action a ≡ true → sum_by (λ o. cond (p o) o.amount 0) (places t.source t.sequence a) ≤ 68719476735
    offered (Create n) e = omega arith
    offered (Pay r x n) e = omega arith
    offered (Place x y l n) e =
        let f = (and_parts (is_number l) (is_amount n) (and_parts (is_pair x y) _ e).1).1 in
        part (p (record { key = record { sold = x; bought = y; limit = l; account = t.source; sequence = t.sequence }; amount = n })) n
        (omega (arith, ltb-true n 68719476736 (and_parts (ltb 0 n) (is_balance n) f).1))
    offered (Cancel x y l q) e = omega arith

pub all_placed_fit : (p : Offer → Bool) (ts : List Transaction) → every fit_transaction ts ≡ true
    → sum_by (λ t. sum_by (λ o. cond (p o) o.amount 0) (placed t)) ts ≤ length ts * 68719476735
all_placed_fit p [] h = omega arith
all_placed_fit p (t ∷ ts) h =
    let (e, es) = and_parts (fit_transaction t) (every fit_transaction ts) h in
    omega (arith, sum_by-cons (λ u. sum_by (λ o. cond (p o) o.amount 0) (placed u)) t ts, placed_fits p t e, all_placed_fit p ts es)

pub record Ranges (b : Block) : Type 0 where
  pub prices : (x : ℕ) → price b x < 16777216
  pub volumes : (x y : ℕ) → volume b x y ≤ 68719476735
  pub transactions : every fit_transaction b.transactions ≡ true

pub ranges : (b : Block) → fit_block b ≡ true → Ranges b
ranges b e =
    let (_, e₁) = and_parts (is_word b.height) _ e in
    let (_, e₂) = and_parts (eqb (length b.parent) 32) _ e₁ in
    let (_, e₃) = and_parts (eqb (length b.prices) 8) _ e₂ in
    let (ps, e₄) = and_parts (every is_price b.prices) _ e₃ in
    let (r, e₅) = and_parts (rising pair b.volumes) _ e₄ in
    let (vs, e₆) = and_parts (every fit_volume b.volumes) _ e₅ in
    let (_, e₇) = and_parts (leb (length b.volumes) 56) _ e₆ in
    let (ts, _) = and_parts (every fit_transaction b.transactions) _ e₇ in
    record { prices = priced ps; volumes = traded r vs; transactions = ts }
  where
    priced : every is_price b.prices ≡ true → (x : ℕ) → price b x < 16777216
    priced h x =
        elim (cases_lt x (length b.prices)) [
          | inl l ↦
              ltb-true (price b x) 16777216
              (and_parts (ltb 0 (price b x)) (ltb (price b x) 16777216) (All-get_or (λ p. is_price p ≡ true) b.prices x 0 l (all_from is_price b.prices h))).1
          | inr l ↦ omega (arith, get_or_past b.prices x 0 l)
        ]

    amount : (v : Volume) → fit_volume v ≡ true → v.amount ≤ 68719476735
    amount v h =
        let a = (and_parts (is_pair v.sold v.bought) (is_amount v.amount) h).1 in
        omega (arith, ltb-true v.amount 68719476736 (and_parts (ltb 0 v.amount) (is_balance v.amount) a).1)

    traded : rising pair b.volumes ≡ true → every fit_volume b.volumes ≡ true → (x y : ℕ) → volume b x y ≤ 68719476735
    traded up h x y =
        elim (found pair b.volumes (x ∷ y ∷ [])) [
          | inl z ↦ omega (arith, z (λ v. v.amount))
          | inr (v, m, p) ↦
              let is : volume b x y ≡ v.amount = subst (λ k. volume_found k ≡ v.amount) p (standing pair (λ w. w.amount) b.volumes (rising_from pair b.volumes up) v m) in
              omega (arith, is, amount v (all-has (λ w. fit_volume w ≡ true) b.volumes v (all_from fit_volume b.volumes h) m))
        ]
      where
        volume_found : List ℕ → ℕ
        volume_found k = under pair (λ v. v.amount) b.volumes k

-- what is paid for an amount in range fits 64 bits
pub pay_fits : (b : Block) → Ranges b → (x y n : ℕ) → n ≤ 68719476735 → pay_for b x y n < 18446744073709551616
pay_fits b f x y n h =
    let p : price b x ≤ 16777215 = omega (arith, f.prices x) in
    let m : n * price b x ≤ 68719476735 * 16777215 = mul-le-mul h p in
    omega (arith, m, div-le_self (n * price b x) (price b y))
