use Rattle.std.proofs.Common.{◌≡◌, ℕ, ◌<◌, true, List, length, get_or, Ok, sym, ◌∙◌, subst, rules, arith}
use Rattle.std.proofs.lemmas.Bool.{cond-true, and_from, eq-eqb}
use Rattle.terms.specs.Holdings.{Store}
use Rattle.terms.specs.Ranges.{every, is_balance, are_balances}
use Rattle.accounts.specs.Changes.{Opened, balance_answer}
use Rattle.accounts.proofs.Grants.{Filled, filled_more, granted, settable, never}
use Rattle.accounts.proofs.open_with.Goals as goal

-- a list that is iterated, which is the balances
module _ (s t u : Store) (n x : ℕ) (bs cs : List ℕ) (f : Filled t n cs x u) (e : cs ≡ bs) where
  onto : Filled t n bs x u
  onto = subst (λ b. Filled t n b x u) e f

  sets : length bs ≡ 8 → every is_balance bs ≡ true → x < 8 → Opened s n t → Ok tt ≡ balance_answer u n x (get_or cs x 0)
  sets eight fit lt o = subst (λ b. Ok tt ≡ balance_answer u n x (get_or b x 0)) (sym e) (settable s t u n bs x eight fit lt o onto)

pub returns-in_err-set_balance : goal.returns-in_err-set_balance
returns-in_err-set_balance g c =
    absurd (never
    (sets _ _ _ c.args.number c.loop-asset.asset c.args.balances _ c.loop-asset.invariant (search rules) (omega arith)
    (sym c.are_balances.ensures ∙ c.if-not-are_balances.false) (omega arith) c.in_ok-open.ensures.after
    ∙ sym c.set_balance.ensures.answer ∙ c.in_err-set_balance.was))

pub loop-asset-preserved : goal.loop-asset-preserved
loop-asset-preserved g c = filled_more _ _ _ c.args.number _ c.loop-asset.asset c.loop-asset.invariant c.in_ok-set_balance.ensures.after

pub returns : goal.returns
returns g c =
    let eight : length c.args.balances ≡ 8 = omega arith in
    let fit : every is_balance c.args.balances ≡ true = sym c.are_balances.ensures ∙ c.if-not-are_balances.false in
    let s = (g.S.AccountStore.store c.args.store.now) in
    let filled = onto s _ _ c.args.number c.loop-asset.asset c.args.balances _ c.loop-asset.invariant (search rules) in
    let last : c.loop-asset.asset ≡ 8 = omega arith in
    record {
      answer = c.in_ok-open.ensures.answer ∙ sym (cond-true (are_balances c.args.balances) _ _ (and_from _ _ (eq-eqb _ 8 eight) fit));
      after = granted _ _ _ c.args.number c.args.balances eight c.in_ok-open.ensures.answer c.in_ok-open.ensures.after
          (subst (λ x. Filled (g.S.AccountStore.store c.open.new.self) c.args.number c.args.balances x (g.S.AccountStore.store c.loop-asset.store)) last filled);
    }
