-- Effects added up under their keys. Assumes nothing.
use Rattle.std.specs.Prelude.{◌≡◌, ℕ, ◌+◌, ◌*◌, ◌^◌, ◌<◌, ◌≤◌, false, cond, List, [], ◌∷◌, length, slice_index_or}
use Rattle.terms.specs.Order.{lower, Rising, under}
use Rattle.tally.specs.declared.effects.Effect.{Effect}
use Rattle.tally.specs.declared.effects.Net.{Net}

-- an effect alone, and one effect more
abbrev pub net_of : {K : Type 0} → Effect K → Net K
net_of e = record { key = e.key; plus = e.plus; minus = e.minus }

abbrev pub with_more : {K : Type 0} → Net K → Effect K → Net K
with_more x e = record { key = x.key; plus = x.plus + e.plus; minus = x.minus + e.minus }

-- the effect goes to the last entry, or after it where that entry is lower
abbrev pub added : {K : Type 0} → (K → List ℕ) → List (Net K) → Effect K → List (Net K)
added w [] e = net_of e ∷ []
added w (x ∷ []) e = cond (lower (w x.key) (w e.key)) (x ∷ net_of e ∷ []) (with_more x e ∷ [])
added w (x ∷ (y ∷ ys)) e = x ∷ added w (y ∷ ys) e

-- far from the end of 128 bits
abbrev pub Small : {K : Type 0} → Net K → Type 0
Small x = (x.plus < 2 ^ 127) × (x.minus < 2 ^ 127)

-- The entries ns have rising keys, and under each key the sums of the effects es. w tells the numbers of a key.
pub record Tallied {K : Type 0} (w : K → List ℕ) (es : List (Effect K)) (ns : List (Net K)) : Type 0 where
  pub rising : Rising (λ n. w n.key) ns
  pub plus : (k : List ℕ) → under (λ n. w n.key) (λ n. n.plus) ns k ≡ under (λ e. w e.key) (λ e. e.plus) es k
  pub minus : (k : List ℕ) → under (λ n. w n.key) (λ n. n.minus) ns k ≡ under (λ e. w e.key) (λ e. e.minus) es k

-- x came from the first i effects: its sums are bounded by that, and no later effect is below it
pub record Ahead {K : Type 0} (w : K → List ℕ) (es : List (Effect K)) (i : ℕ) (x : Net K) : Type 0 where
  pub plus : x.plus ≤ i * 2 ^ 64
  pub minus : x.minus ≤ i * 2 ^ 64
  pub low : (j : ℕ) (d : Effect K) → i ≤ j → j < length es → lower (w (slice_index_or es j d).key) (w x.key) ≡ false
