use Rattle.std.proofs.Common.{arith}
use Rattle.trie.proofs.Sides.{sides, next_either, next_right, left_none}
use Rattle.trie.proofs.node.+fn-next-or_else+next.Goals as goal

pub or_else-next-requires : goal.or_else-next-requires
or_else-next-requires t c = rw c.deref.ensures (omega (arith, c.decreases), c.requires)

pub returns-then-key-split : goal.returns-then-key-split
returns-then-key-split t c =
    let s = sides c.in-Branch.is c.requires in
    let n = rw c.deref.ensures at c.next.ensures in
    next_either s c.args.key c.next.result c.or_else.result n c.or_else.ensures

pub returns-else-key-split : goal.returns-else-key-split
returns-else-key-split t c =
    let s = sides c.in-Branch.is c.requires in
    let n = rw c.deref-else-key-split.ensures at c.next-else-key-split.ensures in
    next_right s c.args.key c.next-else-key-split.result (left_none s c.args.key c.if-key-split.false) n
