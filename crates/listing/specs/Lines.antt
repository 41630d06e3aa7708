-- The lines that say what came of a piece of the stream, and what a replica holds. Assumes nothing.
use Rattle.std.specs.Prelude.{ℕ, List, [], ◌∷◌, ◌++◌, map, Ok, Err, Result}
use Rattle.terms.specs.declared.Fault.{Fault}
use Rattle.terms.specs.Holdings.{Store, Book}
use Rattle.exchange.specs.State.{State}
use Rattle.listing.specs.declared.line.Line.{Line}
use Rattle.listing.specs.declared.line.Line.TheVariants as line

-- the line of what was done, by the height after it, or of the fault
abbrev pub line_of : Result ℕ Fault → Line
line_of (Ok n) = line.Done n
line_of (Err f) = line.Refused f

-- a line for each account, by rising number
abbrev pub account_lines : Store → List Line
account_lines s = map line.Account s.accounts

-- a line for each offer, by rising key
abbrev pub offer_lines : Book → List Line
offer_lines b = map line.Offer b.offers

-- the remainders, the accounts, the offers, the digest
abbrev pub state_lines : State → List Line
state_lines s =
    line.Remainders s.own.remainders ∷ (account_lines s.store ++ (offer_lines s.book ++ line.Digest s.own.digest ∷ []))

abbrev pub counts_line : State → Line
counts_line s = line.Counts s.counts.passed s.counts.committed s.counts.lapsed s.counts.rejected
