use Rattle.std.proofs.Common.{sym, ◌∙◌, subst, arith}
use Rattle.trie.specs.Trie.{Ordered}
use Rattle.trie.proofs.Sides.{sides, held_total, removed_left, removed_right, leaf_is}
use Rattle.trie.proofs.node.+remove.Goals as goal

pub overflow_sub-sum : goal.overflow_sub-sum
overflow_sub-sum t c =
    let s = sides c.in-Branch.is c.requires.ok in
    omega (arith, held_total c.args.node.now c.args.key, s.whole, s.adds, c.requires.stands)

pub overflow_sub-sum-then-is_branch-2 : goal.overflow_sub-sum-then-is_branch-2
overflow_sub-sum-then-is_branch-2 t c =
    let s = sides c.in-Branch.is c.requires.ok in
    omega (arith, held_total c.args.node.now c.args.key, s.whole, s.adds, c.requires.stands)

pub remove-requires : goal.remove-requires
remove-requires t c =
    let s = sides c.in-Branch.is c.requires.ok in
    let f = rw c.deref.ensures at (sym c.if-is_branch.ensures) in
    rw c.deref_mut.ensures.value (omega (arith, s.falls, c.decreases), (s.left_ok, (f, (sym (s.at_left c.args.key c.if-key-split.true) ∙ c.requires.stands, c.requires.some))))

pub remove-requires-then-is_branch-2 : goal.remove-requires-then-is_branch-2
remove-requires-then-is_branch-2 t c =
    let s = sides c.in-Branch.is c.requires.ok in
    let f = rw c.deref-else-key-split.ensures at (sym c.if-is_branch-2.ensures) in
    rw c.deref_mut-then-is_branch-2.ensures.value (omega (arith, s.falls, c.decreases), (s.right_ok, (f, (sym (s.at_right c.args.key c.if-key-split.false) ∙ c.requires.stands, c.requires.some))))

pub collapse-requires : goal.collapse-requires
collapse-requires t c =
    let s = sides c.in-Branch.is c.requires.ok in
    let f = rw c.deref.ensures at (sym c.if-is_branch.ensures) in
    record {
      ok = subst (Ordered c.args.bits) c.in-Branch.is c.requires.ok;
      lone = (
        λ _. leaf_is c.in-Branch.left.value c.in-Branch.bit c.args.key c.args.by s.left_ok f (sym (s.at_left c.args.key c.if-key-split.true) ∙ c.requires.stands) c.requires.some,
        λ h. absurd (omega (arith, c.if-key-split.true)),
      );
    }

pub collapse-requires-else-is_branch-2 : goal.collapse-requires-else-is_branch-2
collapse-requires-else-is_branch-2 t c =
    let s = sides c.in-Branch.is c.requires.ok in
    let f = rw c.deref-else-key-split.ensures at (sym c.if-is_branch-2.ensures) in
    record {
      ok = subst (Ordered c.args.bits) c.in-Branch.is c.requires.ok;
      lone = (
        λ h. absurd (omega (arith, c.if-key-split.false)),
        λ _. leaf_is c.in-Branch.right.value c.in-Branch.bit c.args.key c.args.by s.right_ok f (sym (s.at_right c.args.key c.if-key-split.false) ∙ c.requires.stands) c.requires.some,
      );
    }

pub returns-then-is_branch : goal.returns-then-is_branch
returns-then-is_branch t c =
    let s = sides c.in-Branch.is c.requires.ok in
    let e = rw c.deref_mut.ensures.value at c.remove.ensures in
    removed_left s c.args.key c.args.by c.remove.new.node c.if-key-split.true e c.in-Branch.left c.in-Branch.right

pub returns-then-is_branch-2 : goal.returns-then-is_branch-2
returns-then-is_branch-2 t c =
    let s = sides c.in-Branch.is c.requires.ok in
    let e = rw c.deref_mut-then-is_branch-2.ensures.value at c.remove-then-is_branch-2.ensures in
    removed_right s c.args.key c.args.by c.remove-then-is_branch-2.new.node c.if-key-split.false e c.in-Branch.left c.in-Branch.right
