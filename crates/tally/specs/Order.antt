-- Lists of numbers compared in turn, as an ordering. Assumes nothing.
use Rattle.std.specs.Prelude.{ℕ, cond, List}
use Rattle.std.specs.declared.cmp.Ordering.TheVariants.{Less, Equal, Greater}
use Rattle.std.specs.declared.cmp.Ordering.{Ordering}
use Rattle.terms.specs.Order.{lower}

abbrev pub order : List ℕ → List ℕ → Ordering
order k l = cond (lower k l) Less (cond (lower l k) Greater Equal)
