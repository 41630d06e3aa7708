-- How often a key occurs. Assumes nothing.
use Rattle.std.proofs.Common.{◌≡◌, ℕ, Bool, true, false, cond, ◌||◌, eqb, List, [], ◌∷◌, map, sum_by, sym, refl, ap, ◌∙◌, arith}
use Rattle.std.specs.List.{flat_map}
use Rattle.std.proofs.lemmas.List.Sums.{sum_by-cons}
use Rattle.terms.specs.declared.Transaction.{Transaction}
use Rattle.terms.specs.Order.{same, under}
use Rattle.blocks.specs.Readable.{Block}
use Rattle.exchange.specs.Trade.{created, openings}
use Rattle.exchange.specs.Faults.{tag}
use Rattle.exchange.proofs.Rising.{sum_by_same, all_of}
use Rattle.exchange.proofs.Sums.{sum_by_joined}
use Rattle.exchange.proofs.Keyed.{and_only}
use Rattle.tally.specs.Least.{spot}
use Rattle.tally.specs.declared.rules.Place.{Place}
use Rattle.tally.specs.declared.effects.Effect.{Effect}
use Rattle.judging_rules.specs.Rows.{any}
use Rattle.judging_repeats.specs.Counts.{one, ones, tagged}

sum_by_map : {X Y : Type 0} (f : Y → ℕ) (g : X → Y) (xs : List X) → sum_by f (map g xs) ≡ sum_by (λ x. f (g x)) xs
sum_by_map f g [] = refl
sum_by_map f g (x ∷ xs) = omega (arith, sum_by-cons f (g x) (map g xs), sum_by-cons (λ z. f (g z)) x xs, sum_by_map f g xs)

-- the sums of the ones are the times that a key occurs
pub times : {T K : Type 0} (w : K → List ℕ) (f : T → List K) (ts : List T) (k : List ℕ)
    → under (λ e. w e.key) (λ e. e.plus) (flat_map (λ t. ones (f t)) ts) k ≡ under w (λ _. 1) (flat_map f ts) k
times {K = K} w f ts k =
    sum_by_joined at (λ t. ones (f t)) ts
    ∙ sum_by_same (λ t. sum_by at (ones (f t))) (λ t. sum_by (λ x. cond (same (w x) k) 1 0) (f t)) ts (all_of _ (λ t. sum_by_map at one (f t)) ts)
    ∙ sym (sum_by_joined (λ x. cond (same (w x) k) 1 0) f ts)
  where
    at : Effect K → ℕ
    at e = cond (same (w e.key) k) e.plus 0

pub times_tagged : (ts : List Transaction) (k : List ℕ) → under spot (λ _. 1) (flat_map tagged ts) k ≡ under tag (λ _. 1) ts k
times_tagged ts k =
    sum_by_joined at tagged ts ∙ sum_by_same (λ t. sum_by at (tagged t)) (λ t. cond (same (tag t) k) 1 0) ts (all_of _ (λ t. omega (arith, sum_by-cons at (here t) [])) ts)
  where
    at : Place → ℕ
    at p = cond (same (spot p) k) 1 0

    here : Transaction → Place
    here t = record { first = t.source; second = t.sequence }

pub times_created : (b : Block) (n : ℕ) → under (λ m. m ∷ []) (λ _. 1) (flat_map created b.transactions) (n ∷ []) ≡ openings b n
times_created b n = sum_by_same _ _ (flat_map created b.transactions) (all_of _ (λ m. ap (λ t. cond t 1 0) (sym (and_only (eqb m n)))) (flat_map created b.transactions))

pub any_one : {X : Type 0} (p : X → Bool) (x : X) (r : Bool) → r ≡ p x → r ≡ any p (x ∷ [])
any_one p x r e = e ∙ go (p x)
  where
    go : (b : Bool) → b ≡ (b || false)
    go true = refl
    go false = refl
