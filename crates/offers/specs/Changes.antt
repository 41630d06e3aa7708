-- What a change of an offer book answers, and what it leaves. Assumes nothing.
use Rattle.std.specs.Prelude.{◌≡◌, ℕ, ◌+◌, Bool, cond, not, ◌&&◌, length, Ok, Result, ◌==◌, nat_le, nat_lt}
use Rattle.terms.specs.declared.Fault.{Fault}
use Rattle.terms.specs.declared.Key.{Key}
use Rattle.terms.specs.Order.{same, words}
use Rattle.terms.specs.Ranges.{fit_key, is_amount}
use Rattle.terms.specs.Holdings.{Book, amount_at}
use Rattle.accounts.specs.Changes.{refused}

-- Which refusal comes, if any: of the causes that hold, the one with the smallest number.

-- stands (28), capacity reached (29), key or amount out of range or sold = bought (31)
abbrev pub place_answer : Book → Key → ℕ → Result (Unit {0}) Fault
place_answer b k v =
    cond (nat_lt 0 (amount_at b.offers k)) (refused 28)
    (cond (nat_le b.capacity (length b.offers)) (refused 29) (cond (fit_key k && is_amount v) (Ok tt) (refused 31)))

-- does not stand (30), more than it has (31)
abbrev pub reduce_answer : Book → Key → ℕ → Result (Unit {0}) Fault
reduce_answer b k v =
    cond (amount_at b.offers k == 0) (refused 30) (cond (nat_le v (amount_at b.offers k)) (Ok tt) (refused 31))

-- an offer other than j stands at k
abbrev pub taken : Book → Key → Key → Bool
taken b j k = not (same (words j) (words k)) && nat_lt 0 (amount_at b.offers k)

-- another offer stands at the new key (28), the old key does not stand (30), new key or amount out of range (31)
abbrev pub replace_answer : Book → Key → Key → ℕ → Result (Unit {0}) Fault
replace_answer b j k v =
    cond (taken b j k) (refused 28)
    (cond (amount_at b.offers j == 0) (refused 30) (cond (fit_key k && is_amount v) (Ok tt) (refused 31)))

-- What success leaves, told by key i. b is the book before, c the book after.

-- the key k sells v
pub record Placed (b : Book) (k : Key) (v : ℕ) (c : Book) : Type 0 where
  pub capacity : c.capacity ≡ b.capacity
  pub count : length c.offers ≡ length b.offers + 1
  pub amounts : (i : Key) → amount_at c.offers i ≡ cond (same (words i) (words k)) v (amount_at b.offers i)

-- the key k sells v, or no longer stands where v is 0
pub record Reduced (b : Book) (k : Key) (v : ℕ) (c : Book) : Type 0 where
  pub capacity : c.capacity ≡ b.capacity
  pub count : length c.offers + cond (v == 0) 1 0 ≡ length b.offers
  pub amounts : (i : Key) → amount_at c.offers i ≡ cond (same (words i) (words k)) v (amount_at b.offers i)

-- the key k sells v, and j no longer stands unless it is k
pub record Replaced (b : Book) (j k : Key) (v : ℕ) (c : Book) : Type 0 where
  pub capacity : c.capacity ≡ b.capacity
  pub count : length c.offers ≡ length b.offers
  pub amounts : (i : Key) → amount_at c.offers i ≡ cond (same (words i) (words k)) v (cond (same (words i) (words j)) 0 (amount_at b.offers i))
