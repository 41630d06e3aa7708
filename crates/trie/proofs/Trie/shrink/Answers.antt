use Rattle.std.proofs.Common.{◌^◌, ◌<◌, sym, ◌∙◌, arith}
use Rattle.trie.specs.Trie.{held}
use Rattle.trie.proofs.Sides.{of_whole, to_whole, held_some, forks_two}
use Rattle.trie.proofs.Trie.shrink.Goals as goal

pub invariant_of-self : goal.invariant_of-self
invariant_of-self c =
    let s = c.args.self.now in
    let p : 0 < held s.root c.args.key = omega arith in
    let w = of_whole s.root s.ok (held_some s.root c.args.key p) in
    let e = c.reduce.ensures in
    record {
      ok = to_whole c.reduce.new.node e.ok (e.keys 0 (2 ^ 102) ∙ w.1);
      counted = omega (arith, e.count);
      few = omega arith;
      stock = omega arith;
      room = omega arith;
      small = omega arith;
    }

pub push_reserved-requires : goal.push_reserved-requires
push_reserved-requires c =
    let s = c.args.self.now in
    let p : 0 < held s.root c.args.key = omega arith in
    let w = of_whole s.root s.ok (held_some s.root c.args.key p) in
    omega (arith, forks_two s.root 102 w.0 (sym c.if-is_branch.ensures))

pub push_reserved-requires-then-is_branch : goal.push_reserved-requires-then-is_branch
push_reserved-requires-then-is_branch c =
    let s = c.args.self.now in
    let p : 0 < held s.root c.args.key = omega arith in
    let w = of_whole s.root s.ok (held_some s.root c.args.key p) in
    omega (arith, forks_two s.root 102 w.0 (sym c.if-is_branch.ensures), c.push_reserved.ensures.len, c.push_reserved.ensures.capacity)

pub invariant_of-self-then-is_branch : goal.invariant_of-self-then-is_branch
invariant_of-self-then-is_branch c =
    let s = c.args.self.now in
    let p : 0 < held s.root c.args.key = omega arith in
    let w = of_whole s.root s.ok (held_some s.root c.args.key p) in
    let two = forks_two s.root 102 w.0 (sym c.if-is_branch.ensures) in
    let e = c.remove-leaf.ensures in
    let a = c.push_reserved.ensures in
    let b = c.push_reserved-then-is_branch.ensures in
    let whole = to_whole c.remove-leaf.new.node e.ok (e.keys 0 (2 ^ 102) w.1) in
    record {
      ok = whole;
      counted = omega (arith, e.fewer);
      few = omega arith;
      stock = omega (arith, two, a.len, b.len);
      room = omega (arith, a.capacity, b.capacity);
      small = omega arith;
    }
