-- Each check that passed is committed, lapsed, rejected or held. Assumes nothing.
use Rattle.std.proofs.Common.{◌≡◌, ℕ, zero, suc, ◌+◌, ◌<◌, ◌≤◌, false, cond, ltb, List, [], ◌∷◌, get_or, set, is_some, Some, None, Ok, Err, count_by, Option, Result, sym, refl, ap, ◌∙◌, subst, subst₂, arith}
use Rattle.std.proofs.lemmas.List.Sums.{sum_by-cons, sum_by_push}
use Rattle.std.proofs.lemmas.Bool.{ltb-true, true≢false}
use Rattle.terms.specs.declared.Grant.{Grant}
use Rattle.terms.specs.declared.Fault.{Fault}
use Rattle.blocks.specs.Readable.{Block}
use Rattle.exchange.specs.State.{Counts, most}
use Rattle.exchange.specs.Life.{Event, Answer, Life, birth, Step, RulesFounding, RulesCheck, AfterFounding, AfterCheck, AfterCommit, held_after}
use Rattle.exchange.specs.Life.Event.{found, check, fill, commit, reject, ask}
use Rattle.exchange.specs.Claims.{CountsAddUp}
use Rattle.exchange.proofs.Running.{read_founded, founded_first, runs_keep}

abbrev AddUp : Counts → List (Option (List ℕ)) → Type 0
AddUp c hs = (c.passed ≡ c.committed + c.lapsed + c.rejected + count_by is_some hs) × (c.passed ≤ most)

record Even (l : Life) : Type 0 where
  adds : AddUp l.state.counts l.held
  -- before the founding nothing is held
  none : l.state.founded ≡ false → l.held ≡ []

one_less : (hs : List (Option (List ℕ))) (i : ℕ) (b : List ℕ) → get_or hs i None ≡ Some b → count_by is_some (set hs i None) + 1 ≡ count_by is_some hs
one_less [] i b e = cc
one_less (x ∷ xs) zero b e =
    let f : Option (List ℕ) → ℕ = λ o. cond (is_some o) 1 0 in
    omega (arith, sum_by-cons f None xs, sum_by-cons f x xs, ap f e)
one_less (x ∷ xs) (suc i) b e =
    let f : Option (List ℕ) → ℕ = λ o. cond (is_some o) 1 0 in
    omega (arith, sum_by-cons f x (set xs i None), sum_by-cons f x xs, one_less xs i b e)

-- a block that is held has been read by a founded replica
held_founded : (l : Life) → Even l → (i : ℕ) (b : List ℕ) → get_or l.held i None ≡ Some b → l.state.founded ≡ false → ⊥
held_founded l h i b e f =
    let z : ◌≡◌ {A = Option (List ℕ)} None (Some b) = subst (λ hs. get_or hs i None ≡ Some b) (h.none f) e in
    let w : ◌≡◌ {A = ℕ} 0 1 = cc in
    omega (arith, w)

module _ (l : Life) (h : Even l) where
  -- the same state, and the same held
  stays : (m : Life) → m.state ≡ l.state → m.held ≡ l.held → Even m
  stays m p q = record {
    adds = subst₂ (λ s hs. AddUp s.counts hs) (sym p) (sym q) h.adds;
    none = λ f. q ∙ h.none (ap (λ s. s.founded) (sym p) ∙ f);
  }

  on_found : (bs : List ℕ) (r : Result (List Grant) Fault) → RulesFounding l.state bs r → (m : Life)
      → AfterFounding l.state r m.state → m.held ≡ l.held → Even m
  on_found bs (Ok gs) p m t q =
      let none = h.none (founded_first l.state.founded _ gs _ p).0 in
      record {
        adds = subst₂ AddUp (sym t.counts) (sym (q ∙ none)) (omega arith);
        none = λ f. absurd (true≢false (sym t.founded ∙ f));
      }
  on_found bs (Err f) p m t q = stays m t q

  on_check : (bs : List ℕ) (r : Result Block Fault) → RulesCheck l.state bs r → (m : Life)
      → AfterCheck l.state r m.state → m.held ≡ held_after l bs r → Even m
  on_check bs (Ok b) p m t q =
      let w = read_founded l.state.founded _ b _ p in
      let less : l.state.counts.passed < most = ltb-true _ _ (read_founded (ltb l.state.counts.passed most) _ b _ w.1).0 in
      record {
        adds = subst₂ (λ s hs. AddUp s.counts hs) (sym t) (sym q) (omega (arith, h.adds, less, sum_by_push (λ o. cond (is_some o) 1 0) l.held (Some bs)));
        none = λ f. absurd (true≢false (sym w.0 ∙ sym (ap (λ s. s.founded) t) ∙ f));
      }
  on_check bs (Err f) p m t q = stays m t q

  on_commit : (i : ℕ) (bs : List ℕ) → get_or l.held i None ≡ Some bs → (r : Result Block Fault) (m : Life)
      → AfterCommit l.state r m.state → m.held ≡ set l.held i None → Even m
  on_commit i bs e (Ok b) m t q = record {
    adds = subst₂ AddUp (sym t.counts) (sym q) (omega (arith, h.adds, one_less l.held i bs e));
    none = λ f. absurd (held_founded l h i bs e (sym t.founded ∙ f));
  }
  on_commit i bs e (Err g) m t q = record {
    adds = subst₂ (λ s hs. AddUp s.counts hs) (sym t) (sym q) (omega (arith, h.adds, one_less l.held i bs e));
    none = λ f. absurd (held_founded l h i bs e (sym (ap (λ s. s.founded) t) ∙ f));
  }

  step : (e : Event) (a : Answer) (m : Life) → Step l e a m → Even m
  step (found bs) a m (r, p, _, t, q, _) = on_found bs r p m t q
  step (check bs) a m (r, p, _, t, q, _) = on_check bs r p m t q
  step (fill i k) a m (bs, hb, (r, p, _, e)) = subst Even (sym e) h
  step (commit i) a m (bs, hb, (r, p, _, t, q, _)) = on_commit i bs hb r m t q
  step (reject i) a m (bs, hb, _, e) =
      subst Even (sym e) (record { adds = omega (arith, h.adds, one_less l.held i bs hb); none = λ f. absurd (held_founded l h i bs hb f) })
  step (ask q) a m (_, e) = subst Even (sym e) h

pub counts_add_up : CountsAddUp
counts_add_up st bk es us l p = (runs_keep Even step es (birth st bk) (record { adds = omega arith; none = λ _. refl }) us l p).adds
