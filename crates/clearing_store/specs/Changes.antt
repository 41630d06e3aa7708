-- Balances, floors and accounts of a store that change by a block. Assumes nothing.
-- s is the store before, t the store after.
use Rattle.std.specs.Prelude.{◌≡◌, ℕ, ◌+◌, ◌-◌, ◌<◌, ◌≤◌, cond, ◌&&◌, ◌⊎◌, List, [], ◌∷◌, length, Some, None, sum_by, Option, Result, MatchResult, ◌==◌, ◌≢◌, nat_le}
use Rattle.std.specs.List.{ContainsAt as Has, AllByRecursion}
use Rattle.terms.specs.declared.Fault.{Fault}
use Rattle.terms.specs.declared.Transaction.{Transaction}
use Rattle.terms.specs.Order.{under}
use Rattle.terms.specs.Ranges.{is_balance}
use Rattle.terms.specs.Holdings.{Store, standing, floor_at, balance_at}
use Rattle.tally.specs.declared.effects.Net.{Net}
use Rattle.judging_balances.specs.declared.Slot.{Slot}
use Rattle.judging_balances.specs.Moves.{slot_words}

-- Balances.

-- a net goes by its account and its asset
abbrev pub holder : Net Slot → List ℕ
holder n = slot_words n.key

-- what comes in and what goes out, of the account n and the asset x
abbrev pub gets : List (Net Slot) → ℕ → ℕ → ℕ
gets ns n x = under holder (λ m. m.plus) ns (n ∷ x ∷ [])

abbrev pub gives : List (Net Slot) → ℕ → ℕ → ℕ
gives ns n x = under holder (λ m. m.minus) ns (n ∷ x ∷ [])

-- had + plus − minus, where that is a balance
abbrev pub moved_to : (had plus minus : ℕ) → Option ℕ
moved_to had plus minus = cond (nat_le minus (had + plus) && is_balance (had + plus - minus)) (Some (had + plus - minus)) None

-- The nets have reached the balances, and nothing else has changed.
pub record Applied (ns : List (Net Slot)) (s t : Store) : Type 0 where
  pub capacity : t.capacity ≡ s.capacity
  pub top : t.top ≡ s.top
  pub count : length t.accounts ≡ length s.accounts
  pub stand : (n : ℕ) → standing t n ≡ standing s n
  pub floors : (n : ℕ) → floor_at t n ≡ floor_at s n
  pub balances : (n x : ℕ) → balance_at t n x + gives ns n x ≡ balance_at s n x + gets ns n x

-- What lets a net be applied: the account stands, the asset is one, and the new balance is in range.
pub record Bearable (s : Store) (m : Net Slot) : Type 0 where
  pub stand : 0 < standing s m.key.account
  pub asset : m.key.asset < 8
  pub enough : m.minus ≤ balance_at s m.key.account m.key.asset + m.plus
  pub room : balance_at s m.key.account m.key.asset + m.plus ≤ 68719476735 + m.minus

-- What lets all of them be applied: each that changes something can be, and no account has two nets of one asset.
pub record CanApply (ns : List (Net Slot)) (s : Store) : Type 0 where
  pub each : AllByRecursion (λ m. (m.plus ≢ m.minus) → Bearable s m) ns
  pub once : (n x : ℕ) → under holder (λ _. 1) ns (n ∷ x ∷ []) ≤ 1

-- They are applied, or it is refused, and not all could be applied.
abbrev pub AppliedOr : List (Net Slot) → Store → Store → Result (Unit {0}) Fault → Type 0
AppliedOr ns s t r = MatchResult r (λ _. Applied ns s t) (λ _. CanApply ns s → ⊥)

-- Floors.

-- The floors have risen to the highest numbers that the transactions us used, and nothing else has changed.
pub record Raised (us : List Transaction) (s t : Store) : Type 0 where
  pub capacity : t.capacity ≡ s.capacity
  pub top : t.top ≡ s.top
  pub count : length t.accounts ≡ length s.accounts
  pub stand : (n : ℕ) → standing t n ≡ standing s n
  pub balances : (n x : ℕ) → balance_at t n x ≡ balance_at s n x
  -- no floor falls, and none stays below a number that was used
  pub grows : (n : ℕ) → floor_at s n ≤ floor_at t n
  pub used : AllByRecursion (λ u. u.sequence ≤ floor_at t u.source) us
  -- a floor that has changed is a number that was used
  pub last : (n : ℕ) → (floor_at t n ≡ floor_at s n) ⊎ ((u : Transaction) × Has us u × (u.source ≡ n) × (floor_at t n ≡ u.sequence))

-- What lets them rise: each source stands.
abbrev pub CanRaise : List Transaction → Store → Type 0
CanRaise us s = AllByRecursion (λ u. 0 < standing s u.source) us

-- They have risen, or it is refused, and not all could.
abbrev pub RaisedOr : List Transaction → Store → Store → Result (Unit {0}) Fault → Type 0
RaisedOr us s t r = MatchResult r (λ _. Raised us s t) (λ _. CanRaise us s → ⊥)

-- Accounts.

-- how often a number is in a list
abbrev pub times : List ℕ → ℕ → ℕ
times ns n = sum_by (λ m. cond (m == n) 1 0) ns

-- The accounts ns have opened, with floors and balances 0, and nothing else has changed.
pub record AllOpened (ns : List ℕ) (s t : Store) : Type 0 where
  pub capacity : t.capacity ≡ s.capacity
  pub top : t.top ≡ s.top
  pub count : length t.accounts ≡ length s.accounts + length ns
  pub stand : (n : ℕ) → standing t n ≡ standing s n + times ns n
  pub floors : (n : ℕ) → floor_at t n ≡ floor_at s n
  pub balances : (n x : ℕ) → balance_at t n x ≡ balance_at s n x

-- What lets them open: each is in range and does not stand, each is there once, and the store has room for all.
pub record CanOpen (ns : List ℕ) (s : Store) : Type 0 where
  pub each : AllByRecursion (λ n. (0 < n) × (n ≤ s.top) × (standing s n ≡ 0)) ns
  pub once : (n : ℕ) → times ns n ≤ 1
  pub room : length s.accounts + length ns ≤ s.capacity

-- They have opened, or it is refused, and not all could.
abbrev pub OpenedOr : List ℕ → Store → Store → Result (Unit {0}) Fault → Type 0
OpenedOr ns s t r = MatchResult r (λ _. AllOpened ns s t) (λ _. CanOpen ns s → ⊥)
