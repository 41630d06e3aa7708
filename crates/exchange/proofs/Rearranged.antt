-- A rearranged block has the same sums, fills and faults. Assumes nothing.
use Rattle.std.proofs.Common.{◌≡◌, ℕ, ◌+◌, ◌-◌, ◌<◌, cond, ◌&&◌, eqb, ◌⊎◌, List, ◌++◌, length, sum_by, filter, Option, sym, refl, ap, ◌∙◌, subst, ap₂, arith}
use mathlib.Core.Path.{fun_ext}
use Rattle.std.specs.List.{flat_map}
use Rattle.std.specs.List.Sorted.{IsPermutation}
use Rattle.std.proofs.lemmas.List.Sums.{sum_by-append}
use Rattle.std.proofs.lemmas.List.Sorted.{sum_by-IsPermutation, IsPermutation-sym, IsPermutation-refl}
use Rattle.std.proofs.ByRecursion.{has_shuffled}
use Rattle.terms.specs.declared.Key.{Key}
use Rattle.terms.specs.declared.Offer.{Offer}
use Rattle.terms.specs.declared.Transaction.{Transaction}
use Rattle.terms.specs.declared.Fault.{Fault}
use Rattle.terms.specs.Order.{same, words}
use Rattle.terms.specs.Holdings.{standing}
use Rattle.blocks.specs.Readable.{Block}
use Rattle.exchange.specs.State.{State}
use Rattle.exchange.specs.Trade.{created, paying, placed, cancelled, cancels_of, incoming, outgoing, volume, eligible, eligible_in, share, trading, sold, pay_for, paid, payout, paid_in, left_over, volume_of}
use Rattle.exchange.specs.Faults.{Cause, Bad, HasAt, Faulty, Verdict}
use Rattle.exchange.specs.Faults.Cause.{wrong_height, wrong_parent, uncleared, no_source, out_of_window, repeated, no_receiver, bad_account, no_offer, cancelled_twice, overdrawn, accounts_full, offers_full, excess_volume}
use Rattle.exchange.specs.Life.{Rearranged}
use Rattle.exchange.proofs.Sums.{sum_by_joined, ones}
use Rattle.exchange.proofs.Causes.{one_least}

-- the block with its transactions replaced
abbrev pub reorder : Block → List Transaction → Block
reorder b us = record { height = b.height; parent = b.parent; prices = b.prices; volumes = b.volumes; transactions = us }

module _ (s : State) (b : Block) (us : List Transaction) (h : IsPermutation b.transactions us) where
  sums : (f : Transaction → ℕ) → sum_by f us ≡ sum_by f b.transactions
  sums f = sum_by-IsPermutation f b.transactions us h

  -- sums over what the transactions ask for, and how many there are of it
  pub joins : {Y : Type 0} (g : Transaction → List Y) (f : Y → ℕ) → sum_by f (flat_map g us) ≡ sum_by f (flat_map g b.transactions)
  joins g f = sum_by_joined f g us ∙ sums (λ t. sum_by f (g t)) ∙ sym (sum_by_joined f g b.transactions)

  lengths : {Y : Type 0} (g : Transaction → List Y) → length (flat_map g us) ≡ length (flat_map g b.transactions)
  lengths g = ones (flat_map g us) ∙ joins g (λ _. 1) ∙ sym (ones (flat_map g b.transactions))

  standing_kept : filter (λ o. eqb (cancels_of (reorder b us) o.key) 0) s.book.offers ≡ filter (λ o. eqb (cancels_of b o.key) 0) s.book.offers
  standing_kept =
      ap (λ (c : Key → ℕ). filter (λ o. eqb (c o.key) 0) s.book.offers)
      (fun_ext (λ k. joins cancelled (λ j. cond (same (words j) (words k)) 1 0)))

  pub trading_sums : (f : Offer → ℕ) → sum_by f (trading s (reorder b us)) ≡ sum_by f (trading s b)
  trading_sums f =
      let old = filter (λ o. eqb (cancels_of b o.key) 0) s.book.offers in
      ap (λ os. sum_by f (os ++ flat_map placed us)) standing_kept
      ∙ sum_by-append f old (flat_map placed us)
      ∙ ap (λ n. sum_by f old + n) (joins placed f)
      ∙ sym (sum_by-append f old (flat_map placed b.transactions))

  pub sold_same : (k : Key) → sold s (reorder b us) k ≡ sold s b k
  sold_same k =
      ap₂ (λ m n. cond (eligible b k) (share (volume b k.sold k.bought) n m) 0) (trading_sums _) (trading_sums _)

  pub paid_same : (k : Key) → paid s (reorder b us) k ≡ paid s b k
  paid_same k = ap (pay_for b k.sold k.bought) (sold_same k)

  pub payout_same : (n y : ℕ) → payout s (reorder b us) n y ≡ payout s b n y
  payout_same n y =
      ap (λ (g : Key → ℕ). sum_by (λ o. cond (eqb o.key.account n && eqb o.key.bought y) (g o.key) 0) (trading s (reorder b us))) (fun_ext paid_same)
      ∙ trading_sums _

  pub paid_in_same : (y : ℕ) → paid_in s (reorder b us) y ≡ paid_in s b y
  paid_in_same y =
      ap (λ (g : Key → ℕ). sum_by (λ o. cond (eqb o.key.bought y) (g o.key) 0) (trading s (reorder b us))) (fun_ext paid_same)
      ∙ trading_sums _

  pub left_over_same : (x : ℕ) → left_over s (reorder b us) x ≡ left_over s b x
  left_over_same x = ap (λ n. volume_of b x - n) (paid_in_same x)

  pub incoming_same : (n x : ℕ) → incoming s (reorder b us) n x ≡ incoming s b n x
  incoming_same n x = ap₂ ◌+◌ (joins paying _) (joins cancelled _)

  pub outgoing_same : (n x : ℕ) → outgoing s (reorder b us) n x ≡ outgoing s b n x
  outgoing_same n x = ap₂ ◌+◌ (joins paying _) (joins placed _)

  there : (t : Transaction) (i j : ℕ) → HasAt b t i j → HasAt (reorder b us) t i j
  there t i j (m, p, q) = (has_shuffled _ _ t h m, p, q)

  bad : (c : Cause) (i j : ℕ) → Bad s b c i j → Bad s (reorder b us) c i j
  bad wrong_height i j p = p
  bad wrong_parent i j p = p
  bad uncleared i j p = p
  bad no_source i j (t, m, p) = (t, there t i j m, p)
  bad out_of_window i j (t, m, p) = (t, there t i j m, p)
  bad repeated i j p = subst (λ m. 1 < m) (sym (sums _)) p
  bad no_receiver i j (t, m, p) = (t, there t i j m, p)
  bad bad_account i j (t, m, (n, q, p)) =
      (t, there t i j m, (n, q, subst (λ m. (0 < standing s.store n) ⊎ ((s.store.top < n) ⊎ (1 < m))) (sym (joins created _)) p))
  bad no_offer i j (t, m, p) = (t, there t i j m, p)
  bad cancelled_twice i j (t, m, (k, q, p)) = (t, there t i j m, (k, q, subst (λ m. 1 < m) (sym (joins cancelled _)) p))
  bad overdrawn i j (l, p) = (l, omega (arith, incoming_same i j, outgoing_same i j))
  bad accounts_full i j (p, q, r) = (omega (arith, lengths created), q, r)
  bad offers_full i j (p, q, r) = (omega (arith, lengths cancelled, lengths placed), q, r)
  bad excess_volume i j p = omega (arith, trading_sums (λ o. cond (eligible_in b i j o.key) o.amount 0))

  to : (f : Fault) → Faulty s b f → Faulty s (reorder b us) f
  to f (c, e, p) = (c, e, bad c f.first f.second p)

pub reordered : (b c : Block) (r : Rearranged b c) → c ≡ reorder b c.transactions
reordered b c r = λ i. record { height = r.height i; parent = r.parent i; prices = r.prices i; volumes = r.volumes i; transactions = c.transactions }

pub back : (b c : Block) → Rearranged b c → Rearranged c b
back b c r =
    record { height = sym r.height; parent = sym r.parent; prices = sym r.prices; volumes = sym r.volumes; transactions = IsPermutation-sym _ _ r.transactions }

pub rearranged_refl : (b : Block) → Rearranged b b
rearranged_refl b = record { height = refl; parent = refl; prices = refl; volumes = refl; transactions = IsPermutation-refl b.transactions }

pub faults_go : (s : State) (b c : Block) → Rearranged b c → (f : Fault) → Faulty s b f → Faulty s c f
faults_go s b c r f p = subst (λ d. Faulty s d f) (sym (reordered b c r)) (to s b c.transactions r.transactions f p)

pub verdicts : (s : State) (b c : Block) → Rearranged b c → (v w : Option Fault) → Verdict s b v → Verdict s c w → v ≡ w
verdicts s b c r = one_least (Faulty s b) (Faulty s c) (faults_go s b c r) (faults_go s c b (back b c r))

pub sold_alike : (s : State) (b c : Block) → Rearranged b c → (k : Key) → sold s b k ≡ sold s c k
sold_alike s b c r k = sym (ap (λ d. sold s d k) (reordered b c r) ∙ sold_same s b c.transactions r.transactions k)

pub paid_alike : (s : State) (b c : Block) → Rearranged b c → (k : Key) → paid s b k ≡ paid s c k
paid_alike s b c r k = sym (ap (λ d. paid s d k) (reordered b c r) ∙ paid_same s b c.transactions r.transactions k)
