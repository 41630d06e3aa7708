-- What readable blocks are known to have, as facts. Assumes nothing.
use Rattle.std.proofs.Common.{◌≡◌, ℕ, ◌<◌, Bool, true, eqb, ltb, leb, List, [], ◌∷◌, length, sym, subst}
use Rattle.std.specs.List.{AllByRecursion}
use Rattle.std.proofs.ByRecursion.{All-get_or, All-weaker}
use Rattle.std.proofs.lemmas.Bool.{and_parts, ltb-true, eqb-true}
use Rattle.terms.specs.declared.Volume.{Volume}
use Rattle.terms.specs.Order.{lower, Rising}
use Rattle.terms.specs.Ranges.{every, is_price, is_word, is_asset, is_amount, is_pair, fit_volume, fit_transaction}
use Rattle.terms.specs.Holdings.{rising}
use Rattle.blocks.specs.Readable.{Block, pair, fit_block}
use Rattle.exchange.specs.Trade.{price}

-- tests over lists

pub all_from : {X : Type 0} (p : X → Bool) (xs : List X) → every p xs ≡ true → AllByRecursion (λ x. p x ≡ true) xs
all_from p [] e = tt
all_from p (x ∷ xs) e = let (h, t) = and_parts (p x) (every p xs) e in (h, all_from p xs t)

pub rising_from : {X : Type 0} (key : X → List ℕ) (xs : List X) → rising key xs ≡ true → Rising key xs
rising_from key [] e = tt
rising_from key (x ∷ xs) e =
    let (h, t) = and_parts (every (λ y. lower (key x) (key y)) xs) (rising key xs) e in
    (all_from (λ y. lower (key x) (key y)) xs h, rising_from key xs t)

pub record Fit (b : Block) : Type 0 where
  pub height : is_word b.height ≡ true
  pub priced : (x : ℕ) → x < 8 → 0 < price b x
  pub eight : length b.prices ≡ 8
  pub pairs : Rising pair b.volumes
  pub assets : AllByRecursion (λ v. (v.sold < 8) × (v.bought < 8)) b.volumes
  pub transactions : AllByRecursion (λ t. fit_transaction t ≡ true) b.transactions

assets_of : (v : Volume) → fit_volume v ≡ true → (v.sold < 8) × (v.bought < 8)
assets_of v e =
    let (p, _) = and_parts (is_pair v.sold v.bought) (is_amount v.amount) e in
    let (x, q) = and_parts (is_asset v.sold) _ p in
    let (y, _) = and_parts (is_asset v.bought) _ q in
    (ltb-true v.sold 8 x, ltb-true v.bought 8 y)

pub fits : (b : Block) → fit_block b ≡ true → Fit b
fits b e =
    let (h, e₁) = and_parts (is_word b.height) _ e in
    let (_, e₂) = and_parts (eqb (length b.parent) 32) _ e₁ in
    let (n, e₃) = and_parts (eqb (length b.prices) 8) _ e₂ in
    let (ps, e₄) = and_parts (every is_price b.prices) _ e₃ in
    let (r, e₅) = and_parts (rising pair b.volumes) _ e₄ in
    let (vs, e₆) = and_parts (every fit_volume b.volumes) _ e₅ in
    let (_, e₇) = and_parts (leb (length b.volumes) 56) _ e₆ in
    let (ts, _) = and_parts (every fit_transaction b.transactions) (leb (length b.transactions) 1024) e₇ in
    record {
      height = h;
      priced = λ x l.
          ltb-true 0 (price b x)
          (and_parts (ltb 0 (price b x)) (ltb (price b x) 16777216)
          (All-get_or (λ p. is_price p ≡ true) b.prices x 0 (subst (λ m. x < m) (sym (eqb-true (length b.prices) 8 n)) l) (all_from is_price b.prices ps))).0;
      eight = eqb-true (length b.prices) 8 n;
      pairs = rising_from pair b.volumes r;
      assets = All-weaker _ _ assets_of b.volumes (all_from fit_volume b.volumes vs);
      transactions = all_from fit_transaction b.transactions ts;
    }
