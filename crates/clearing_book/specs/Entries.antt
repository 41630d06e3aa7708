-- Offers that leave and enter a book. Assumes nothing.
use Rattle.std.specs.Prelude.{◌≡◌, ℕ, ◌+◌, ◌<◌, ◌≤◌, true, cond, List, length, Result, MatchResult, ◌==◌}
use Rattle.std.specs.List.{AllByRecursion}
use Rattle.terms.specs.declared.Fault.{Fault}
use Rattle.terms.specs.declared.Key.{Key}
use Rattle.terms.specs.declared.Offer.{Offer}
use Rattle.terms.specs.Order.{words, place, under}
use Rattle.terms.specs.Ranges.{fit_offer}
use Rattle.terms.specs.Holdings.{Book, amount_at}

-- how often a key is in a list
abbrev pub times : List Key → Key → ℕ
times ks j = under words (λ _. 1) ks (words j)

-- The keys ks have left the book s, which is t now: none of them stands, and the other amounts are as they were.
pub record Left (ks : List Key) (s t : Book) : Type 0 where
  pub capacity : t.capacity ≡ s.capacity
  pub count : length t.offers + length ks ≡ length s.offers
  pub amounts : (j : Key) → amount_at t.offers j ≡ cond (times ks j == 0) (amount_at s.offers j) 0

-- The offers os have entered the book s, which is t now: under each key their amount is added.
pub record Entered (os : List Offer) (s t : Book) : Type 0 where
  pub capacity : t.capacity ≡ s.capacity
  pub count : length t.offers ≡ length s.offers + length os
  pub amounts : (j : Key) → amount_at t.offers j ≡ amount_at s.offers j + amount_at os j

-- What lets them leave: each stands, and is there once.
pub record CanLeave (ks : List Key) (s : Book) : Type 0 where
  pub stand : AllByRecursion (λ k. 0 < amount_at s.offers k) ks
  pub once : (k : Key) → times ks k ≤ 1

-- What lets them enter: none stands, each is there once and in range, and the book has room for all.
pub record CanEnter (os : List Offer) (s : Book) : Type 0 where
  pub fresh : AllByRecursion (λ o. amount_at s.offers o.key ≡ 0) os
  pub once : (k : Key) → under place (λ _. 1) os (words k) ≤ 1
  pub good : AllByRecursion (λ o. fit_offer o ≡ true) os
  pub room : length s.offers + length os ≤ s.capacity

-- They have left, or it is refused, and not all could leave.
abbrev pub LeftOr : List Key → Book → Book → Result (Unit {0}) Fault → Type 0
LeftOr ks s t r = MatchResult r (λ _. Left ks s t) (λ _. CanLeave ks s → ⊥)

-- They have entered, or it is refused, and not all could enter.
abbrev pub EnteredOr : List Offer → Book → Book → Result (Unit {0}) Fault → Type 0
EnteredOr os s t r = MatchResult r (λ _. Entered os s t) (λ _. CanEnter os s → ⊥)
