use Rattle.std.proofs.Common.{◌≡◌, true, Decides, Equal, ap, ◌∙◌, subst}
use Rattle.std.specs.List.Sorted.{IsPermutation}
use Rattle.std.specs.Ordering.{is_eq}
use Rattle.std.proofs.lemmas.List.Sorted.{IsPermutation-sym, IsPermutation-trans}
use Rattle.std.proofs.lemmas.Slice.Eq.{slice_eq-Decides}
use Rattle.pairing.proofs.Sorted.{rearranged_equal}
use Rattle.pairing.proofs.order.same_in_any_order.Goals as goal

pub returns : goal.returns
returns g c =
    let T = g.row.T.Denot in
    let eq = g.T.PartialEq.eq in
    let cmp = g.T.Ord.cmp in
    let exact : (x y : T) → cmp x y ≡ Equal → x ≡ y = λ x y e. c.requires x y (g.met.T.Ord.matches_eq x y ∙ ap is_eq e) in
    let same : (x y : T) → Decides (eq x y) (x ≡ y) = λ x y. (c.requires x y, λ e. subst (λ z. eq x z ≡ true) e (g.met.T.Eq.laws.refl x)) in
    let xs = c.args.first.now in
    let ys = c.args.second.now in
    let us = c.sort_unstable.new.self in
    let vs = c.sort_unstable-2.new.self in
    let p = c.sort_unstable.ensures.permutation in
    let q = c.sort_unstable-2.ensures.permutation in
    let d : Decides c.eq.result (us ≡ vs) = slice_eq-Decides same us vs c.eq.result c.eq.ensures in (
      λ e. IsPermutation-trans xs vs ys (subst (λ l. IsPermutation xs l) (d.0 e) p) (IsPermutation-sym ys vs q),
      λ s. d.1 (rearranged_equal cmp g.met.T.Ord.total exact us vs c.sort_unstable.ensures.sorted c.sort_unstable-2.ensures.sorted
          (IsPermutation-trans us xs vs (IsPermutation-sym xs us p) (IsPermutation-trans xs ys vs s q))),
    )
