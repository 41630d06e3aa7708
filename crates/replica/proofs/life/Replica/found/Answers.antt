use Rattle.std.proofs.Common.{Ok, sym, refl, ◌∙◌, inl, inr}
use Rattle.std.proofs.lemmas.Result.{err_from_is_err_and}
use Rattle.blocks.specs.Decoded.{grants_of}
use Rattle.replica.specs.Meaning.{state_of}
use Rattle.replica.proofs.Rulings.{not_empty, found_again, found_late, found_ruled, found_refused}
use Rattle.replica.proofs.Foundings.{newly, made, sound}
use Rattle.replica.proofs.life.Replica.found.Goals as goal
use Rattle.replica.proofs.life.Replica.found.Goals.{then-count-ne0-via-then-count-ne0, then-count-ne0-via-else-count-ne0+then-count-ne0-2}

pub returns-then-self : goal.returns-then-self
returns-then-self g c = rw (← c.self.view_is) (found_again _ _ _ c.into.ensures c.if-self.true)

pub returns-then-count-ne0 : goal.returns-then-count-ne0
returns-then-count-ne0 g c =
    rw (← c.self.view_is) (found_late (state_of (g.S.AccountStore.store c.self.inside.store) (g.B.OfferBook.book c.self.inside.book) c.self.inside.numbers) _ _ c.into-then-count-ne0.ensures c.if-self.false (not_empty (state_of (g.S.AccountStore.store c.self.inside.store) (g.B.OfferBook.book c.self.inside.book) c.self.inside.numbers) (elim c.then-count-ne0.branch [
      | then-count-ne0-via-then-count-ne0 w ↦ inl (λ e. w.if-count-ne0.true (c.count.ensures ∙ e))
      | then-count-ne0-via-else-count-ne0+then-count-ne0-2 w ↦ inr (λ e. w.if-count-ne0-2.true (w.count-else-count-ne0.ensures ∙ e))
    ])))

pub returns-in_err-founding : goal.returns-in_err-founding
returns-in_err-founding g c =
    let s = state_of (g.S.AccountStore.store c.self.inside.store) (g.B.OfferBook.book c.self.inside.book) c.self.inside.numbers in
    let p = err_from_is_err_and c.from_residual.result c.from_residual.ensures.1 in
    rw (← c.self.view_is, p.1, p.2) (found_refused s _ _ c.if-self.false (sym c.count.ensures ∙ c.if-count-ne0.false) (sym c.count-else-count-ne0.ensures ∙ c.if-count-ne0-2.false) (inl c.in_err-founding.ensures))

pub returns-in_err-judge_founding : goal.returns-in_err-judge_founding
returns-in_err-judge_founding g c =
    let s = state_of (g.S.AccountStore.store c.self.inside.store) (g.B.OfferBook.book c.self.inside.book) c.self.inside.numbers in
    let p = err_from_is_err_and c.from_residual-in_err-judge_founding.result c.from_residual-in_err-judge_founding.ensures.1 in
    rw (← c.self.view_is, p.1, p.2) (found_refused s _ _ c.if-self.false (sym c.count.ensures ∙ c.if-count-ne0.false) (sym c.count-else-count-ne0.ensures ∙ c.if-count-ne0-2.false)
    (inr (grants_of c.in_ok-founding.founding, c.in_ok-founding.ensures, c.in_err-judge_founding.ensures)))

pub invariant_of-self-2 : goal.invariant_of-self-2
invariant_of-self-2 g c = λ _.
    let s = state_of (g.S.AccountStore.store c.self.inside.store) (g.B.OfferBook.book c.self.inside.book) c.self.inside.numbers in
    let gs = grants_of c.in_ok-founding.founding in
    let nobody = sym c.count.ensures ∙ c.if-count-ne0.false in
    let nothing = sym c.count-else-count-ne0.ensures ∙ c.if-count-ne0-2.false in
    let clean = c.in_ok-judge_founding.ensures in
    let st = g.S.AccountStore.store c.grant_all.new.store in
    let t = newly st s.book c.state_digest-digest.result in
    sound s _ gs t (g.met.S.AccountStore.sound c.self.inside.store) (g.met.B.OfferBook.sound c.self.inside.book) c.in_ok-founding.ensures clean
    (made s gs st _ nobody nothing (g.met.S.AccountStore.sound c.grant_all.new.store) (g.met.B.OfferBook.sound c.self.inside.book)
    (c.in_ok-grant_all.ensures nobody clean) (c.state_digest-digest.ensures t refl refl refl refl))

pub returns : goal.returns
returns g c =
    let s = state_of (g.S.AccountStore.store c.self.inside.store) (g.B.OfferBook.book c.self.inside.book) c.self.inside.numbers in
    let gs = grants_of c.in_ok-founding.founding in
    let nobody = sym c.count.ensures ∙ c.if-count-ne0.false in
    let nothing = sym c.count-else-count-ne0.ensures ∙ c.if-count-ne0-2.false in
    let clean = c.in_ok-judge_founding.ensures in
    let st = g.S.AccountStore.store c.grant_all.new.store in
    let t = newly st s.book c.state_digest-digest.result in
    rw (← c.self.view_is) (record {
      ruling = Ok gs;
      rules = found_ruled s _ (Ok gs) c.if-self.false nobody nothing (c.in_ok-founding.ensures, clean);
      answer = refl;
      after =
          made s gs st _ nobody nothing (g.met.S.AccountStore.sound c.grant_all.new.store) (g.met.B.OfferBook.sound c.self.inside.book)
          (c.in_ok-grant_all.ensures nobody clean) (c.state_digest-digest.ensures t refl refl refl refl);
    })
