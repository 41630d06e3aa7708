use Rattle.std.proofs.Common.{None, sym, subst}
use Rattle.blocks.specs.Decoded.{block_of}
use Rattle.exchange.specs.Faults.{Verdict}
use Rattle.exchange.specs.Commit.{Sound}
use Rattle.clearing.specs.Clear.{ClearedOr}
use Rattle.clearing.proofs.Committing.{over_is, netted, few}
use Rattle.clearing.proofs.clear.Goals as goal

pub returns-in_err-entries : goal.returns-in_err-entries
returns-in_err-entries g c = λ s p q r so clean.
    absurd (few (block_of c.args.block.now) _ c.args.block.now.ranges c.transactions.ensures c.in_err-entries.ensures.0)

pub returns : goal.returns
returns g c = λ s p q r so clean.
    let b = block_of c.args.block.now in
    let e = over_is s _ _ _ p q r in
    subst (λ z. ClearedOr z b (g.S.AccountStore.store c.clear_by.new.store) (g.B.OfferBook.book c.clear_by.new.book) c.clear_by.new.remainders c.clear_by.result) (sym e)
    (c.clear_by.ensures s (subst Sound e so) (subst (λ z. Verdict z b None) e clean)
    (netted _ b _ _ c.transactions.ensures c.in_ok-entries.ensures.1))
