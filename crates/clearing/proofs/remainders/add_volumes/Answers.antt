use Rattle.std.proofs.Common.{◌≡◌, ℕ, ◌+◌, ◌<◌, cond, eqb, List, length, get_or, take, set, sym, ap, ◌∙◌, subst, inl, inr, arith, length-set, get_or-set_other, get_or-set_same}
use Rattle.std.proofs.lemmas.List.{take_all}
use Rattle.std.proofs.lemmas.List.Sums.{sum_by_more, sum_by-take-le}
use Rattle.std.proofs.lemmas.Bool.{cases_eq, eq-eqb, ne_eqb, cond-true, cond-false}
use Rattle.terms.specs.declared.Volume.{Volume}
use Rattle.clearing_walk.proofs.Volumes.{none, capped, in_pair}
use Rattle.clearing.specs.Remainders.{sold_of}
use Rattle.clearing.proofs.remainders.add_volumes.Goals as goal

-- one volume more
step : (vs : List Volume) (i : ℕ) (r₀ r : List ℕ) → i < length vs → length r ≡ 8 → (get_or vs i none).sold < 8
    → ((x : ℕ) → x < 8 → get_or r₀ x 0 + sold_of vs x < 18446744073709551616 → get_or r x 0 ≡ get_or r₀ x 0 + sold_of (take i vs) x)
    → (x : ℕ) → x < 8 → get_or r₀ x 0 + sold_of vs x < 18446744073709551616
    → get_or (set r (get_or vs i none).sold (capped (get_or r (get_or vs i none).sold 0 + (get_or vs i none).amount))) x 0 ≡ get_or r₀ x 0 + sold_of (take (i + 1) vs) x
step vs i r₀ r l len in8 inv x h small =
    let t : Volume = get_or vs i none in
    let f : Volume → ℕ = λ v. cond (eqb v.sold x) v.amount 0 in
    let more = sum_by_more f vs i none l in
    let le = sum_by-take-le f vs (i + 1) in
    elim (cases_eq x t.sold) [
      | inl e ↦
          subst (λ k. get_or (set r t.sold (capped (get_or r t.sold 0 + t.amount))) k 0 ≡ get_or r₀ x 0 + sold_of (take (i + 1) vs) x) (sym e)
          (get_or-set_same r t.sold (capped (get_or r t.sold 0 + t.amount)) 0 (omega (arith, len, in8))
          ∙ omega (arith, more, le, small, inv x h small, ap (λ k. get_or r k 0) e, cond-true (eqb t.sold x) t.amount 0 (eq-eqb t.sold x (sym e))))
      | inr n ↦
          get_or-set_other r t.sold x (capped (get_or r t.sold 0 + t.amount)) 0 n
          ∙ omega (arith, more, inv x h small, cond-false (eqb t.sold x) t.amount 0 (ne_eqb t.sold x (λ e. n (sym e))))
    ]

pub bounds-remainders-x : goal.bounds-remainders-x
bounds-remainders-x c = (in_pair c.args.volumes.now c.requires c.loop-v.v-index c.loop-v-test.true).0

pub bounds-remainders-x-in-loop-v : goal.bounds-remainders-x-in-loop-v
bounds-remainders-x-in-loop-v c = (in_pair c.args.volumes.now c.requires c.loop-v.v-index c.loop-v-test.true).0

pub loop-v-preserved : goal.loop-v-preserved
loop-v-preserved c =
    let in8 = (in_pair c.args.volumes.now c.requires c.loop-v.v-index c.loop-v-test.true).0 in (
      simp length-set c.loop-v.invariant.0,
      rw c.saturating_add.ensures
          (step c.args.volumes.now c.loop-v.v-index c.args.remainders.now c.loop-v.remainders c.loop-v-test.true c.loop-v.invariant.0 in8 c.loop-v.invariant.1),
    )

pub returns : goal.returns
returns c = record {
  eight = c.loop-v.invariant.0;
  each = λ x h small.
      subst (λ l. get_or c.loop-v.remainders x 0 ≡ get_or c.args.remainders.now x 0 + sold_of l x)
      (take_all c.loop-v.v-index c.args.volumes.now c.loop-v-test.false) (c.loop-v.invariant.1 x h small);
}
