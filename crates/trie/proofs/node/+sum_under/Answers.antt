use Rattle.std.proofs.Common.{sym, ◌∙◌, arith}
use Rattle.trie.proofs.Sides.{sides, under_total}
use Rattle.trie.proofs.node.+sum_under.Goals as goal

pub overflow_add-result : goal.overflow_add-result
overflow_add-result t c =
    let s = sides c.in-Branch.is c.requires.ok in
    let one = rw c.deref-else-key-split.ensures at c.all.ensures in
    let two = rw c.deref-else-key-split-2.ensures at c.sum_under-else-key-split.ensures in
    omega (arith, one, two, s.whole, under_total c.in-Branch.right.value c.args.key, c.requires.fits)

pub returns-then-key-split : goal.returns-then-key-split
returns-then-key-split t c =
    let s = sides c.in-Branch.is c.requires.ok in
    let read = rw c.deref.ensures at c.sum_under.ensures in
    read ∙ sym (s.under_left c.args.key c.if-key-split.true)

pub returns-else-key-split : goal.returns-else-key-split
returns-else-key-split t c =
    let s = sides c.in-Branch.is c.requires.ok in
    let one = rw c.deref-else-key-split.ensures at c.all.ensures in
    let two = rw c.deref-else-key-split-2.ensures at c.sum_under-else-key-split.ensures in
    omega (arith, one, two, s.under_right c.args.key (omega arith))
