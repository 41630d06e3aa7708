-- What stands ahead of a key. Assumes nothing.
use Rattle.std.specs.Prelude.{ℕ, Bool, cond, ◌&&◌, List, sum_by, ◌==◌}
use Rattle.terms.specs.declared.Key.{Key}
use Rattle.terms.specs.declared.Offer.{Offer}
use Rattle.terms.specs.Order.{lower, words, place}

-- j stands before k in the pair of k
abbrev pub ahead : Key → Key → Bool
ahead k j = j.sold == k.sold && j.bought == k.bought && lower (words j) (words k)

-- the amounts of the offers ahead of a key
abbrev pub sum_ahead : Key → List Offer → ℕ
sum_ahead k os = sum_by (λ o. cond (ahead k o.key) o.amount 0) os

-- the amounts of the offers between two keys
abbrev pub between : (low high : List ℕ) → List Offer → ℕ
between l h os = sum_by (λ o. cond (lower l (place o) && lower (place o) h) o.amount 0) os
