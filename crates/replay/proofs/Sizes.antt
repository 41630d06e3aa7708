-- Stores and books of the same meaning, one for another. Assumes nothing.
use Rattle.std.proofs.Common.{◌≡◌, ℕ, List, [], IfOk, vec_items, Result, ◌∙◌, subst₂}
use Rattle.terms.specs.Holdings.{Store, Book}
use Rattle.listing.specs.declared.stream.Listing.{Listing}
use Rattle.listing.specs.Streams.{Outcome}

pub exchanged : {E : Type 0} (r : Result Listing E) (st su : Store) (bk bl : Book) (bs : List ℕ) → st ≡ su → bk ≡ bl
    → IfOk r (λ x. Outcome st bk bs (vec_items x.lines) x.counts) → IfOk r (λ x. Outcome su bl bs (vec_items x.lines) x.counts)
exchanged r st su bk bl bs p q h = subst₂ (λ y z. IfOk r (λ x. Outcome y z bs (vec_items x.lines) x.counts)) p q h

-- an empty book, and an empty store, by their sizes
pub book_by_size : (b : Book) (m n : ℕ) → b ≡ record { capacity = m; offers = [] } → m ≡ n → b ≡ record { capacity = n; offers = [] }
book_by_size b m n e p = e ∙ (λ i. record { capacity = p i; offers = [] })

pub store_of : (s : Store) (m n top : ℕ) → s ≡ record { capacity = m; top = top; accounts = [] } → m ≡ n → s ≡ record { capacity = n; top = top; accounts = [] }
store_of s m n top e p = e ∙ (λ i. record { capacity = p i; top = top; accounts = [] })
