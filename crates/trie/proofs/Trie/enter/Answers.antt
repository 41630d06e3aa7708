use Rattle.std.proofs.Common.{◌^◌, refl, arith}
use Rattle.std.proofs.lemmas.Bool.Decides.{nat_tests}
use Rattle.trie.proofs.Sides.{empty, of_whole, to_whole, near_whole, total_max}
use Rattle.trie.proofs.Trie.enter.Goals as goal

pub returns-then-self-eq0 : goal.returns-then-self-eq0
returns-then-self-eq0 c =
    record { capacity = refl; count = omega arith; holds = λ x. grind (arith, nat_tests, empty c.args.self.now.root x (omega arith)) }

pub place-requires : goal.place-requires
place-requires c =
    let s = c.args.self.now in
    let w = of_whole s.root s.ok (omega arith) in
    record {
      ok = w.0;
      near = near_whole s.root c.args.key (omega arith) w.1;
      absent = c.requires.absent;
      small = omega arith;
      room = omega (arith, total_max s.root 102 w.0);
      some = c.requires.some;
    }

pub invariant_of-self-2 : goal.invariant_of-self-2
invariant_of-self-2 c =
    let s = c.args.self.now in
    let w = of_whole s.root s.ok (omega arith) in
    let e = c.place.ensures in
    let taken = c.take-spare.ensures in
    let whole = to_whole c.place.new.node e.ok (e.keys 0 (2 ^ 102) w.1 (omega arith) c.requires.range) in
    record {
      ok = whole;
      counted = omega (arith, e.more);
      few = omega arith;
      stock = omega (arith, taken.len);
      room = omega (arith, taken.capacity);
      small = omega arith;
    }
