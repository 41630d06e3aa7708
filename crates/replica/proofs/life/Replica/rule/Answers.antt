use Rattle.std.proofs.Common.{refl, inr}
use Rattle.std.proofs.lemmas.Result.{err_from_is_err_and}
use Rattle.blocks.specs.Decoded.{block_of}
use Rattle.replica.specs.Meaning.{state_of}
use Rattle.replica.proofs.Rulings.{when_true}
use Rattle.replica.proofs.life.Replica.rule.Goals as goal

pub returns-in_err-judge : goal.returns-in_err-judge
returns-in_err-judge g c =
    let s = state_of (g.S.AccountStore.store c.self.inside.store) (g.B.OfferBook.book c.self.inside.book) c.self.inside.numbers in
    let p = err_from_is_err_and c.from_residual-in_err-judge.result c.from_residual-in_err-judge.ensures.1 in
    rw (← c.self.view_is, p.1, p.2) (when_true _ _ _ c.if-not-self.false (inr (block_of c.in_ok-block.block, c.in_ok-block.ensures, c.in_err-judge.ensures s refl refl refl refl)))

pub returns : goal.returns
returns g c =
    let s = state_of (g.S.AccountStore.store c.self.inside.store) (g.B.OfferBook.book c.self.inside.book) c.self.inside.numbers in
    rw (← c.self.view_is) (when_true _ _ _ c.if-not-self.false (c.in_ok-block.ensures, c.in_ok-judge.ensures s refl refl refl refl))
