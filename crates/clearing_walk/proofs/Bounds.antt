-- What keeps the sums of a walk in range. Assumes nothing.
use Rattle.std.proofs.Common.{◌≡◌, ℕ, ◌+◌, ◌-◌, ◌*◌, ◌≤◌, true, [], ◌∷◌, get_or, is_err, Ok, Err, Result, ap, ◌∙◌, mul-le-mul_right, add-mul, arith}
use Rattle.std.proofs.lemmas.Bool.{false≢true}
use Rattle.terms.specs.declared.Fault.{Fault}
use Rattle.terms.specs.Order.{same, name}
use Rattle.terms.specs.Holdings.{Store, sound_store, balance_at}
use Rattle.accounts.proofs.Sound.{store_parts}
use Rattle.accounts.proofs.Edits.{free_fits}
use Rattle.exchange.proofs.Rising.{sum_by_grows, all_of}
use Rattle.exchange.proofs.Keyed.{cond_le}
use Rattle.clearing_walk.specs.Walk.{largest, SameRoom}

-- a balance is at most all balances of its asset together
pub balance_fits : (s : Store) → sound_store s ≡ true → (n x : ℕ) → balance_at s n x ≤ 65536 * largest
balance_fits s ok n x =
    omega (
      arith,
      free_fits s x (store_parts s ok),
      sum_by_grows _ (λ a. get_or a.balances x 0) s.accounts
          (all_of _ (λ a. cond_le (same (name a) (n ∷ [])) (get_or a.balances x 0)) s.accounts),
    )

-- what is paid for a part of a volume
pub paid_more : (total rest out sold paid p : ℕ) → rest ≤ total → out ≤ (total - rest) * p → sold ≤ rest → paid ≤ sold * p
    → out + paid ≤ (total - (rest - sold)) * p
paid_more total rest out sold paid p a b d e =
    let x : total - (rest - sold) ≡ (total - rest) + sold = omega arith in
    let y : (total - (rest - sold)) * p ≡ (total - rest) * p + sold * p = ap (λ n. n * p) x ∙ add-mul (total - rest) sold p in
    omega arith

pub paid_all : (total rest out p : ℕ) → out ≤ (total - rest) * p → out ≤ total * p
paid_all total rest out p b = let x : (total - rest) * p ≤ total * p = mul-le-mul_right p (omega arith) in omega arith

-- a refusal says nothing of the room
pub no_room : {X : Type 0} (m n : ℕ) (r : Result X Fault) → is_err r ≡ true → SameRoom m n r
no_room m n (Ok _) e = absurd (false≢true e)
no_room m n (Err _) e = tt
