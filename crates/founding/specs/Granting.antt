-- The accounts that a founding opens. Assumes nothing. s is the store before, t the store after.
use Rattle.std.specs.Prelude.{◌≡◌, ℕ, ◌+◌, cond, List, length, Ok, Err, sum_by, count_by, Result, ◌==◌, nat_eq, slice_index}
use Rattle.terms.specs.declared.Grant.{Grant}
use Rattle.terms.specs.declared.Fault.{Fault}
use Rattle.terms.specs.Holdings.{Store, standing, floor_at, balance_at}

-- The accounts of the grants have opened, each with floor 0 and what its grant gives, and nothing else has changed.
pub record GrantedAll (s : Store) (gs : List Grant) (t : Store) : Type 0 where
  pub capacity : t.capacity ≡ s.capacity
  pub top : t.top ≡ s.top
  pub count : length t.accounts ≡ length s.accounts + length gs
  pub stand : (n : ℕ) → standing t n ≡ standing s n + count_by (λ g. nat_eq g.account n) gs
  pub floors : (n : ℕ) → floor_at t n ≡ floor_at s n
  pub balances : (n x : ℕ) → balance_at t n x ≡ balance_at s n x + sum_by (λ g. cond (g.account == n) (slice_index g.balances x) 0) gs

-- They have opened; it is never refused.
abbrev pub GrantedOr : Store → List Grant → Store → Result (Unit {0}) Fault → Type 0
GrantedOr s gs t (Ok _) = GrantedAll s gs t
GrantedOr s gs t (Err f) = ⊥
