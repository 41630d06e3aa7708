use Rattle.std.proofs.Common.{◌&&◌, sym, ap, ◌∙◌, arith}
use Rattle.trie.specs.Trie.{within}
use Rattle.trie.proofs.Sides.{sides, held_total, joined, put_left, put_right}
use Rattle.trie.proofs.node.+reduce.Goals as goal

pub overflow_sub-sum : goal.overflow_sub-sum
overflow_sub-sum t c =
    let s = sides c.in-Branch.is c.requires.ok in
    omega (arith, held_total c.args.node.now c.args.key, s.whole, s.adds, c.requires.stands)

pub reduce-requires : goal.reduce-requires
reduce-requires t c =
    let s = sides c.in-Branch.is c.requires.ok in
    rw c.deref_mut.ensures.value (omega (arith, s.falls, c.decreases), (s.left_ok, (sym (s.at_left c.args.key c.if-key-split.true) ∙ c.requires.stands, c.requires.some)))

pub reduce-requires-else-key-split : goal.reduce-requires-else-key-split
reduce-requires-else-key-split t c =
    let s = sides c.in-Branch.is c.requires.ok in
    rw c.deref_mut-else-key-split.ensures.value (omega (arith, s.falls, c.decreases), (s.right_ok, (sym (s.at_right c.args.key c.if-key-split.false) ∙ c.requires.stands, c.requires.some)))

pub returns-then-key-split : goal.returns-then-key-split
returns-then-key-split t c =
    let s = sides c.in-Branch.is c.requires.ok in
    let e = rw c.deref_mut.ensures.value at c.reduce.ensures in
    record {
      ok = joined _ _ _ _ c.reduce.new.node c.in-Branch.right.value s.falls s.middle (omega (arith, s.adds, e.total)) (e.keys _ _ ∙ s.left_in) s.right_in e.ok s.right_ok;
      held = put_left s c.reduce.new.node c.args.key c.args.to c.if-key-split.true e.held;
      count = omega (arith, s.count, e.count);
      total = omega (arith, s.whole, e.total);
      keys = λ lo hi. ap (λ b. b && within lo hi c.in-Branch.right.value) (e.keys lo hi) ∙ sym (s.keys lo hi);
    }

pub returns-else-key-split : goal.returns-else-key-split
returns-else-key-split t c =
    let s = sides c.in-Branch.is c.requires.ok in
    let e = rw c.deref_mut-else-key-split.ensures.value at c.reduce-else-key-split.ensures in
    record {
      ok = joined _ _ _ _ c.in-Branch.left.value c.reduce-else-key-split.new.node s.falls s.middle (omega (arith, s.adds, e.total)) s.left_in (e.keys _ _ ∙ s.right_in) s.left_ok e.ok;
      held = put_right s c.reduce-else-key-split.new.node c.args.key c.args.to c.if-key-split.false e.held;
      count = omega (arith, s.count, e.count);
      total = omega (arith, s.whole, e.total);
      keys = λ lo hi. ap (λ b. within lo hi c.in-Branch.left.value && b) (e.keys lo hi) ∙ sym (s.keys lo hi);
    }
