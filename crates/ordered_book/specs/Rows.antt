-- What a sorted table of offers means. Assumes nothing.
use Rattle.std.specs.Prelude.{◌≡◌, ℕ, List, Some, None, Option, slice_index_or}
use Rattle.terms.specs.declared.Key.{Key}
use Rattle.terms.specs.declared.Offer.{Offer}
use Rattle.terms.specs.Order.{place, words}
use Rattle.terms.specs.Holdings.{Book, amount_at}
use Rattle.ordered.specs.Places.{At}
use Rattle.ordered.specs.Rows.{Rows}

-- a book of the table's offers
abbrev pub book_of : Rows Offer → Book
book_of t = record { capacity = t.capacity; offers = t.records }

-- the offer with the key k and its place, or none: then nothing stands under k
abbrev pub Found : List Offer → Key → Option (ℕ × Offer) → Type 0
Found xs k None = amount_at xs k ≡ 0
Found xs k (Some p) = At place xs (words k) p.0 × (p.1 ≡ slice_index_or xs p.0 p.1)
