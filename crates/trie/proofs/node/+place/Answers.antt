use Rattle.std.proofs.Common.{◌+◌, ◌/◌, ◌^◌, sym, ap, ◌∙◌, subst, arith}
use Rattle.std.proofs.lemmas.Bool.Decides.{nat_tests}
use Rattle.trie.specs.Trie.{held, Ordered, Near, Hangs, total}
use Rattle.trie.proofs.Numbers.{block, same_block, side_left, side_right}
use Rattle.trie.proofs.Sides.{sides, hangs_offer, hangs_branch, split_near, widen, placed_left, placed_right}
use Rattle.trie.proofs.node.+place.Goals as goal

pub graft-requires : goal.graft-requires
graft-requires t c =
    let is = c.in-Offer.is in
    let ok = subst (Ordered c.args.bits) is c.requires.ok in
    let near = subst (Near c.args.bits c.args.key) is c.requires.near in
    let none = sym (ap (λ n. held n c.args.key) is) ∙ c.requires.absent in
    record {
      hangs = hangs_offer c.in-Offer.k c.in-Offer.amount c.args.key (grind (arith, nat_tests, ok), grind (arith, nat_tests, ok));
      small = c.requires.small;
      same = same_block c.in-Offer.k c.args.key c.args.bits (grind (arith, nat_tests, near)) (grind (arith, nat_tests, near));
      differ = λ e. grind (arith, nat_tests, ok, none, e);
      room = omega (arith, c.requires.room, ap total is);
      some = c.requires.some;
    }

pub place-requires : goal.place-requires
place-requires t c =
    let s = sides c.in-Branch.is c.requires.ok in
    let side = side_left c.in-Branch.split c.args.key c.in-Branch.bit s.middle c.if-key-bit.true c.if-key-split.true in
    rw c.deref_mut.ensures.value (
      omega (arith, s.falls, c.decreases),
      (
        s.left_ok,
        (
          widen c.in-Branch.left.value _ _ _ _ s.left_in (omega (arith, side)) (omega (arith, side)),
          (
            sym (s.at_left c.args.key c.if-key-split.true) ∙ c.requires.absent,
            (omega (arith, s.falls, c.requires.small), (omega (arith, s.whole, c.requires.room), c.requires.some)),
          ),
        ),
      ),
    )

pub place-requires-else-key-split : goal.place-requires-else-key-split
place-requires-else-key-split t c =
    let s = sides c.in-Branch.is c.requires.ok in
    let side = side_right c.in-Branch.split c.args.key c.in-Branch.bit s.middle c.if-key-bit.true c.if-key-split.false in
    rw c.deref_mut-else-key-split.ensures.value (
      omega (arith, s.falls, c.decreases),
      (
        s.right_ok,
        (
          widen c.in-Branch.right.value _ _ _ _ s.right_in (omega (arith, side)) (omega (arith, side)),
          (
            sym (s.at_right c.args.key c.if-key-split.false) ∙ c.requires.absent,
            (omega (arith, s.falls, c.requires.small), (omega (arith, s.whole, c.requires.room), c.requires.some)),
          ),
        ),
      ),
    )

pub graft-requires-else-key-bit : goal.graft-requires-else-key-bit
graft-requires-else-key-bit t c =
    let is = c.in-Branch.is in
    let s = sides is c.requires.ok in
    record {
      hangs = subst (Hangs c.in-Branch.split c.args.key) is (hangs_branch s c.args.key (λ e. c.if-key-bit.false (sym e)));
      small = c.requires.small;
      same = split_near s c.args.key c.requires.near;
      differ = λ e. c.if-key-bit.false (ap (λ n. n / 2 ^ (c.in-Branch.bit + 1)) (sym e));
      room = omega (arith, s.whole, c.requires.room);
      some = c.requires.some;
    }

pub returns-then-key-split : goal.returns-then-key-split
returns-then-key-split t c =
    let s = sides c.in-Branch.is c.requires.ok in
    let side = side_left c.in-Branch.split c.args.key c.in-Branch.bit s.middle c.if-key-bit.true c.if-key-split.true in
    let e = rw c.deref_mut.ensures.value at c.place.ensures in
    placed_left s c.args.key c.args.amount c.place.new.node (omega (arith, side, block c.args.key c.in-Branch.bit)) c.if-key-split.true e c.in-Branch.left c.in-Branch.right

pub returns-else-key-split : goal.returns-else-key-split
returns-else-key-split t c =
    let s = sides c.in-Branch.is c.requires.ok in
    let side = side_right c.in-Branch.split c.args.key c.in-Branch.bit s.middle c.if-key-bit.true c.if-key-split.false in
    let e = rw c.deref_mut-else-key-split.ensures.value at c.place-else-key-split.ensures in
    placed_right s c.args.key c.args.amount c.place-else-key-split.new.node c.if-key-split.false (omega (arith, side, block c.args.key c.in-Branch.bit)) e c.in-Branch.left c.in-Branch.right
