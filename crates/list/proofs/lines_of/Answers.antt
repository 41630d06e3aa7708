use Rattle.std.proofs.Common.{◌≡◌, ℕ, ◌≤◌, min, false, ltb, List, [], ◌∷◌, length, MatchBool, sym, ◌∙◌, subst, subst₂, arith}
use Rattle.std.proofs.lemmas.Bool.{le-ltb}
use Rattle.terms.specs.Holdings.{Store, Book}
use Rattle.exchange.specs.Faults.{fault}
use Rattle.listing.specs.declared.line.Line.{Line}
use Rattle.listing.specs.declared.line.Line.TheVariants.{Refused}
use Rattle.listing.specs.Streams.{Outcome}
use Rattle.list.specs.Shown.{accounts, offers, Shown}
use Rattle.list.proofs.lines_of.Goals as goal

-- input that is not too long, over a store and a book of these sizes
shown : (bs : List ℕ) (ls : List Line) (counts : Line) (st : Store) (bk : Book) (m : ℕ) → length bs ≤ 65536
    → st ≡ record { capacity = min m 65536; top = 4294967295; accounts = [] } → m ≡ 256 → bk ≡ offers
    → Outcome st bk bs ls counts → Shown bs ls
shown bs ls counts st bk m short s e b o =
    let same : st ≡ accounts = s ∙ (λ i. record { capacity = min (e i) 65536; top = 4294967295; accounts = [] }) in
    let fits : ltb 65536 (length bs) ≡ false = le-ltb 65536 (length bs) short in
    subst (λ x. MatchBool x (ls ≡ Refused (fault 1 0 0) ∷ []) ((c : Line) × Outcome accounts offers bs ls c)) (sym fits) (counts, subst₂ (λ y z. Outcome y z bs ls counts) same b o)

pub returns : goal.returns
returns c =
    let short : length c.args.input.now ≤ 65536 = omega arith in
    let slots : length c.as_mut_slice.result.now ≡ 256 = omega (arith, c.as_mut_slice.ensures.len, c.in_ok-slots.ensures.len) in
    shown _ _ _ _ _ _ short c.new-store.ensures slots c.in_ok-book.ensures c.in_ok-listing.ensures
