-- What the program shows of its input. Assumes nothing.
use Rattle.std.specs.Prelude.{◌≡◌, ℕ, List, [], ◌∷◌, length, MatchBool, nat_lt}
use Rattle.terms.specs.Holdings.{Store, Book}
use Rattle.exchange.specs.Faults.{fault}
use Rattle.listing.specs.declared.line.Line.{Line}
use Rattle.listing.specs.declared.line.Line.TheVariants.{Refused}
use Rattle.listing.specs.Streams.{Outcome}

-- the store and the book that the program begins with
abbrev pub accounts : Store
accounts = record { capacity = 256; top = 4294967295; accounts = [] }

abbrev pub offers : Book
offers = record { capacity = 1024; offers = [] }

-- More than 65,536 bytes show fault 1 alone; others the listing.
abbrev pub Shown : List ℕ → List Line → Type 0
Shown bs ls = MatchBool (nat_lt 65536 (length bs)) (ls ≡ Refused (fault 1 0 0) ∷ []) ((counts : Line) × Outcome accounts offers bs ls counts)
