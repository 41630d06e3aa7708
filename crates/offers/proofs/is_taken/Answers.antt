use Rattle.std.proofs.Common.{◌≡◌, false, not, ◌&&◌, ltb, sym, ap, ◌∙◌, arith}
use Rattle.std.proofs.lemmas.Bool.Decides.{nat_tests}
use Rattle.terms.specs.Order.{same, words}
use Rattle.terms.specs.Holdings.{amount_at}
use Rattle.offers.proofs.is_taken.Goals as goal

pub returns-then-ne : goal.returns-then-ne
returns-then-ne g c =
    let h : same (words c.args.old) (words c.args.new) ≡ false = grind (arith, nat_tests) in
    ap (ltb 0) c.amount.ensures
    ∙ sym (ap (λ t. not t && ltb 0 (amount_at (g.B.OfferBook.book c.args.book.now).offers c.args.new)) h)
