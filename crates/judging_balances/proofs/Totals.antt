-- The moves of a block add up to what comes in and goes out. Assumes nothing.
use Rattle.std.proofs.Common.{◌≡◌, ℕ, ◌+◌, cond, ◌&&◌, eqb, List, [], ◌∷◌, sum_by, sym, refl, ◌∙◌, ap₂, arith}
use Rattle.std.proofs.lemmas.Bool.Decides.{nat_tests}
use Rattle.std.specs.List.{flat_map}
use Rattle.terms.specs.declared.Key.{Key}
use Rattle.terms.specs.declared.Offer.{Offer}
use Rattle.terms.specs.declared.Action.{Action}
use Rattle.terms.specs.declared.Action.TheVariants.{Create, Pay, Place, Cancel}
use Rattle.terms.specs.declared.Transaction.{Transaction}
use Rattle.terms.specs.Order.{same, under}
use Rattle.terms.specs.Holdings.{Store, Book, amount_at}
use Rattle.exchange.specs.Trade.{Payment, pays, places, cancels, paying, placed, cancelled, incoming, outgoing}
use Rattle.exchange.proofs.Rising.{sum_by_same, sum_by_plus, all_of}
use Rattle.exchange.proofs.Sums.{sum_by_joined}
use Rattle.tally.specs.declared.effects.Effect.{Effect}
use Rattle.judging_rules.specs.Rows.{scene, bundle}
use Rattle.judging_balances.specs.declared.Slot.{Slot}
use Rattle.judging_balances.specs.Moves.{moves_by, moves, slot_words}

-- a sum over what transactions give, in two parts
two_sums : {T E X Y : Type 0} (f : E → ℕ) (e : T → List E) (g : X → ℕ) (x : T → List X) (h : Y → ℕ) (y : T → List Y) (ts : List T)
    → ((t : T) → sum_by f (e t) ≡ sum_by g (x t) + sum_by h (y t)) → sum_by f (flat_map e ts) ≡ sum_by g (flat_map x ts) + sum_by h (flat_map y ts)
two_sums f e g x h y ts each =
    sum_by_joined f e ts
    ∙ sum_by_same (λ t. sum_by f (e t)) (λ t. sum_by g (x t) + sum_by h (y t)) ts (all_of _ each ts)
    ∙ sum_by_plus (λ t. sum_by g (x t)) (λ t. sum_by h (y t)) ts
    ∙ ap₂ ◌+◌ (sym (sum_by_joined g x ts)) (sym (sum_by_joined h y ts))

module _ (st : Store) (bk : Book) (ts : List Transaction) (i j : ℕ) where
  abbrev amount : Key → ℕ
  amount k = amount_at bk.offers k

  abbrev under_slot : (Effect Slot → ℕ) → ℕ
  under_slot f = under (λ e. slot_words e.key) f (flat_map (moves amount) ts) (i ∷ j ∷ [])

  abbrev received : Payment → ℕ
  received p = cond (eqb p.receiver i && eqb p.asset j) p.amount 0

  abbrev returned : Key → ℕ
  returned k = cond (eqb k.account i && eqb k.sold j) (amount k) 0

  abbrev made : Payment → ℕ
  made p = cond (eqb p.payer i && eqb p.asset j) p.amount 0

  abbrev offered : Offer → ℕ
  offered o = cond (eqb o.key.account i && eqb o.key.sold j) o.amount 0

  pub comes_in : under_slot (λ e. e.plus) ≡ incoming (scene st bk 0 []) (bundle ts) i j
  comes_in = two_sums at (moves amount) received paying returned cancelled ts (λ t. each t.source t.action)
    where
      at : Effect Slot → ℕ
      at e = cond (same (slot_words e.key) (i ∷ j ∷ [])) e.plus 0

      each : (s : ℕ) (a : Action) → sum_by at (moves_by amount s a) ≡ sum_by received (pays s a) + sum_by returned (cancels s a)
      each s (Create n) = refl
      each s (Pay r x n) = grind (arith, nat_tests)
      each s (Place x y l n) = grind (arith, nat_tests)
      each s (Cancel x y l q) = grind (arith, nat_tests)

  pub goes_out : under_slot (λ e. e.minus) ≡ outgoing (scene st bk 0 []) (bundle ts) i j
  goes_out = two_sums at (moves amount) made paying offered placed ts (λ t. each t.source t.sequence t.action)
    where
      at : Effect Slot → ℕ
      at e = cond (same (slot_words e.key) (i ∷ j ∷ [])) e.minus 0

      each : (s q : ℕ) (a : Action) → sum_by at (moves_by amount s a) ≡ sum_by made (pays s a) + sum_by offered (places s q a)
      each s q (Create n) = refl
      each s q (Pay r x n) = grind (arith, nat_tests)
      each s q (Place x y l n) = grind (arith, nat_tests)
      each s q (Cancel x y l k) = grind (arith, nat_tests)
