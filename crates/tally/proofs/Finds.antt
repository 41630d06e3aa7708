-- What a search in a rising list finds. Assumes nothing.
use Rattle.std.proofs.Common.{◌≡◌, ℕ, List, get_or, sym, ap, ◌∙◌}
use Rattle.terms.specs.Order.{Rising, under}
use Rattle.ordered.specs.Places.{At}
use Rattle.ordered.proofs.Rising.{under_at}

pub found_at : {X : Type 0} (key : X → List ℕ) (f : X → ℕ) (xs : List X) (k : List ℕ) (i : ℕ) (x : X) → Rising key xs → At key xs k i → x ≡ get_or xs i x
    → f x ≡ under key f xs k
found_at key f xs k i x up at is = ap f is ∙ sym (under_at key f xs i x up at.within) ∙ ap (under key f xs) (at.is x)
