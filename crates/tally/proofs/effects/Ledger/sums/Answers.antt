use Rattle.std.proofs.Common.{length, sym, subst, rules, arith}
use Rattle.std.specs.List.{AllByRecursion}
use Rattle.std.specs.List.Sorted.{IsSortedWithin}
use Rattle.terms.specs.Order.{lower}
use Rattle.tally.specs.Tally.{Tallied, Small}
use Rattle.tally.proofs.Merge.{tallied_in_order}
use Rattle.tally.proofs.Orders.{ascends_words}
use Rattle.tally.proofs.effects.Ledger.sums.Goals as goal

pub merge-requires : goal.merge-requires
merge-requires g c =
    let w = g.K.SortKey.rank in
    let sorted = c.sort_unstable.new.self.items in (
      search rules,
      (
        c.as_slice.ensures.fits,
        (
          search rules,
          subst (λ es. IsSortedWithin (λ x y. lower (w x.key) (w y.key)) es 0 (length es)) (sym c.as_slice.ensures.value)
              (ascends_words (λ e. w e.key) sorted (length sorted) c.sort_unstable.ensures.sorted),
        ),
      ),
    )

pub returns : goal.returns
returns g c =
    let w = g.K.SortKey.rank in
    let t = tallied_in_order w c.collect.new.effects.items c.sort_unstable.new.self.items c.merge.new.nets.items c.sort_unstable.ensures.permutation
    (subst (λ es. Tallied w es c.merge.new.nets.items) c.as_slice.ensures.value c.merge.ensures.tallied) in (
      omega arith,
      subst (Tallied w _) (sym c.as_slice-2.ensures.value) (subst (λ es. Tallied w es c.merge.new.nets.items) c.collect.ensures t),
      subst (AllByRecursion Small) (sym c.as_slice-2.ensures.value) c.merge.ensures.small,
      c.as_slice-2.ensures.fits,
    )
