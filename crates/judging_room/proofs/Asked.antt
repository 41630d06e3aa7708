-- A list of at most one for each entry, counted. Assumes nothing.
use Rattle.std.proofs.Common.{◌≡◌, ℕ, zero, suc, ◌≤◌, cond, eqb, List, length, count_by, arith, refl, sym, ◌∙◌, lit≤}
use Rattle.std.specs.List.{flat_map}
use Rattle.std.proofs.lemmas.List.Concat.{length-flat_map}
use Rattle.terms.specs.declared.Action.{Action}
use Rattle.terms.specs.declared.Action.TheVariants.{Create, Pay, Place, Cancel}
use Rattle.terms.specs.declared.Transaction.{Transaction}
use Rattle.terms.specs.Asked.{opens, places, cancels, created, placed, cancelled}
use Rattle.exchange.proofs.Rising.{sum_by_same, all_of}

short : (n : ℕ) → n ≤ 1 → cond (eqb n 1) 1 0 ≡ n
short zero h = refl
short (suc zero) h = refl
short (suc (suc n)) h = absurd (omega arith)

pub one_each : {X Y : Type 0} (f : X → List Y) (xs : List X) → ((x : X) → length (f x) ≤ 1) → count_by (λ x. eqb (length (f x)) 1) xs ≡ length (flat_map f xs)
one_each f xs each =
    sum_by_same (λ x. cond (eqb (length (f x)) 1) 1 0) (λ x. length (f x)) xs (all_of _ (λ x. short (length (f x)) (each x)) xs)
    ∙ sym (length-flat_map f xs)

pub created_once : (t : Transaction) → length (created t) ≤ 1
created_once t = each t.action
  where
    each : (a : Action) → length (opens a) ≤ 1
    each (Create n) = lit≤ tt
    each (Pay r x n) = lit≤ tt
    each (Place x y l n) = lit≤ tt
    each (Cancel x y l q) = lit≤ tt

pub placed_once : (t : Transaction) → length (placed t) ≤ 1
placed_once t = each t.action
  where
    each : (a : Action) → length (places t.source t.sequence a) ≤ 1
    each (Create n) = lit≤ tt
    each (Pay r x n) = lit≤ tt
    each (Place x y l n) = lit≤ tt
    each (Cancel x y l q) = lit≤ tt

pub cancelled_once : (t : Transaction) → length (cancelled t) ≤ 1
cancelled_once t = each t.action
  where
    each : (a : Action) → length (cancels t.source a) ≤ 1
    each (Create n) = lit≤ tt
    each (Pay r x n) = lit≤ tt
    each (Place x y l n) = lit≤ tt
    each (Cancel x y l q) = lit≤ tt
