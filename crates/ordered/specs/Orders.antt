-- The order of numbers compared in turn: as a derived `cmp` tells it, and as the order of lists. Assumes nothing.
use Rattle.std.specs.Prelude.{◌≡◌, ℕ, List, [], ◌∷◌}
use Rattle.std.specs.declared.cmp.Ordering.{Ordering}
use Rattle.std.specs.declared.cmp.Ordering.TheVariants.{Less, Equal, Greater}
use Rattle.std.specs.Ordering.{is_lt, nat_cmp, ordering_then}
use Rattle.std.proofs.Common.{refl, arith}
use Rattle.std.proofs.lemmas.Bool.Decides.{nat_tests}
use Rattle.terms.specs.Order.{lower}

-- what `cmp` answers at two structs with these numbers as their fields
abbrev pub in_turn : List ℕ → List ℕ → Ordering
in_turn [] [] = Equal
in_turn [] (y ∷ ys) = Less
in_turn (x ∷ xs) [] = Greater
in_turn (x ∷ []) (y ∷ []) = nat_cmp x y
in_turn (x ∷ []) (y ∷ (w ∷ ys)) = ordering_then (nat_cmp x y) Less
in_turn (x ∷ (v ∷ xs)) (y ∷ ys) = ordering_then (nat_cmp x y) (in_turn (v ∷ xs) ys)

pub in_turn_is : (k l : List ℕ) → is_lt (in_turn k l) ≡ lower k l
in_turn_is [] [] = refl
in_turn_is [] (y ∷ ys) = refl
in_turn_is (x ∷ xs) [] = refl
in_turn_is (x ∷ []) (y ∷ []) = grind (arith, nat_tests)
in_turn_is (x ∷ []) (y ∷ (w ∷ ys)) = grind (arith, nat_tests)
in_turn_is (x ∷ (v ∷ xs)) (y ∷ ys) = let h = in_turn_is (v ∷ xs) ys in grind (arith, nat_tests)
