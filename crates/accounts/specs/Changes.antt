-- What a change of an account store answers, and what it leaves. Assumes nothing.
use Rattle.std.specs.Prelude.{◌≡◌, ℕ, ◌+◌, cond, ◌&&◌, ◌||◌, List, length, Ok, Err, Result, ◌==◌, nat_le, nat_lt, slice_index}
use Rattle.terms.specs.declared.Fault.{Fault}
use Rattle.terms.specs.Ranges.{is_asset, is_balance, are_balances}
use Rattle.terms.specs.Holdings.{Store, standing, floor_at, balance_at}

-- a refusal by its number alone
abbrev pub refused : ℕ → Result (Unit {0}) Fault
refused n = Err (record { number = n; first = 0; second = 0 })

-- Which refusal comes, if any: of the causes that hold, the one with the smallest number.

-- account 0 or above the top (27), stands (28), capacity reached (29)
abbrev pub open_answer : Store → ℕ → Result (Unit {0}) Fault
open_answer s n =
    cond (n == 0 || nat_lt s.top n) (refused 27)
    (cond (nat_lt 0 (standing s n)) (refused 28) (cond (nat_le s.capacity (length s.accounts)) (refused 29) (Ok tt)))

-- does not stand (30), asset or balance out of range (31)
abbrev pub balance_answer : Store → ℕ → ℕ → ℕ → Result (Unit {0}) Fault
balance_answer s n x v =
    cond (standing s n == 0) (refused 30) (cond (is_asset x && is_balance v) (Ok tt) (refused 31))

-- does not stand (30)
abbrev pub floor_answer : Store → ℕ → Result (Unit {0}) Fault
floor_answer s n = cond (standing s n == 0) (refused 30) (Ok tt)

-- What success leaves, told by account m and asset y. s is the store before, t the store after.

-- account n is opened, with floor 0 and balances 0
pub record Opened (s : Store) (n : ℕ) (t : Store) : Type 0 where
  pub capacity : t.capacity ≡ s.capacity
  pub top : t.top ≡ s.top
  pub count : length t.accounts ≡ length s.accounts + 1
  pub stand : (m : ℕ) → standing t m ≡ cond (m == n) 1 (standing s m)
  pub floors : (m : ℕ) → floor_at t m ≡ floor_at s m
  pub balances : (m y : ℕ) → balance_at t m y ≡ balance_at s m y

-- account n has the balance v of asset x
pub record BalanceSet (s : Store) (n x v : ℕ) (t : Store) : Type 0 where
  pub capacity : t.capacity ≡ s.capacity
  pub top : t.top ≡ s.top
  pub count : length t.accounts ≡ length s.accounts
  pub stand : (m : ℕ) → standing t m ≡ standing s m
  pub floors : (m : ℕ) → floor_at t m ≡ floor_at s m
  pub balances : (m y : ℕ) → balance_at t m y ≡ cond (m == n && y == x) v (balance_at s m y)

-- account n has the floor f
pub record FloorSet (s : Store) (n f : ℕ) (t : Store) : Type 0 where
  pub capacity : t.capacity ≡ s.capacity
  pub top : t.top ≡ s.top
  pub count : length t.accounts ≡ length s.accounts
  pub stand : (m : ℕ) → standing t m ≡ standing s m
  pub floors : (m : ℕ) → floor_at t m ≡ cond (m == n) f (floor_at s m)
  pub balances : (m y : ℕ) → balance_at t m y ≡ balance_at s m y

-- Opening an account with balances bs: a balance out of range is refused first (31), then what an opening refuses.
abbrev pub grant_answer : Store → ℕ → List ℕ → Result (Unit {0}) Fault
grant_answer s n bs = cond (are_balances bs) (open_answer s n) (refused 31)

-- account n is opened, with floor 0 and the balances bs
pub record Granted (s : Store) (n : ℕ) (bs : List ℕ) (t : Store) : Type 0 where
  pub capacity : t.capacity ≡ s.capacity
  pub top : t.top ≡ s.top
  pub count : length t.accounts ≡ length s.accounts + 1
  pub stand : (m : ℕ) → standing t m ≡ cond (m == n) 1 (standing s m)
  pub floors : (m : ℕ) → floor_at t m ≡ floor_at s m
  pub balances : (m y : ℕ) → balance_at t m y ≡ cond (m == n) (slice_index bs y) (balance_at s m y)
